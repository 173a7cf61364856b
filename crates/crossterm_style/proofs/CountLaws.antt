-- Parts of texts.
use Rattle.std.proofs.Common.{◌≡◌, ℕ, ◌≤◌, ◌↔◌, IsTrue, Bool, true, false, List, ◌++◌, Option, Some, None, subst, length, length-append, take, drop, arith, ap, refl, sym, ◌∙◌, take-append-drop, MatchBool}
use Rattle.std.proofs.Math.Seq.{drop-append_seam}
use Rattle.std.specs.Borrow.{Bor}
use Rattle.std.specs.Option.{option_or}
use Rattle.std.specs.Str.Pattern.{FindsText, HasMatch}
use Rattle.crossterm_style.specs.Counts.{CountsColors, CountsColorsOf, HasPart}

-- `contains` finds a part.
pub part_found : (text part : List ℕ) (found : Bool) → MatchBool found (HasMatch (FindsText part) text) (FindsText part text None) → IsTrue found ↔ HasPart text part
part_found text part true m =
    let at = m.2.1.split in
    (λ t. (take m.0 text, drop m.1 text, sym (take-append-drop m.0 text) ∙ ap (λ l. take m.0 text ++ l) at), λ p. refl)
part_found text part false none = (
  λ t. absurd (cc),
  λ p.
      let front = p.0 in
      let within : length front ≤ length text = omega (arith, ap length p.2, length-append front (part ++ p.1)) in
      absurd (none (length front) within p.1 (ap (drop (length front)) p.2 ∙ drop-append_seam front (part ++ p.1))),
)

-- The first name that is there counts.
pub first_says : (first second : Option (Bor (List ℕ))) (name : Bor (List ℕ)) (count : ℕ) → option_or first second ≡ Some name → CountsColors name.now count → CountsColorsOf first second count
first_says (Some x) second name count e p = let same : name ≡ x = cc in subst (λ y. CountsColors y.now count) same p
first_says None (Some x) name count e p = let same : name ≡ x = cc in subst (λ y. CountsColors y.now count) same p
first_says None None name count e p = absurd (cc)
