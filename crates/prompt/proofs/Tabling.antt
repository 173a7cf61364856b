-- Names in columns, one after another.
use Rattle.std.proofs.Common.{◌≡◌, ℕ, ◌+◌, ◌-◌, ◌%◌, ◌<◌, ◌≤◌, ◌==◌, ◌++◌, min, List, [], ◌∷◌, Bor, chars, length, map, drop, get_or, replicate, refl, sym, ap, ◌∙◌, append_assoc, append-nil}
use Rattle.std.proofs.lemmas.Bool.{eq-eqb, ne_eqb}
use Rattle.std.proofs.lemmas.List.{at_drop_more, drop_all}
use Rattle.std.specs.Prelude.{zero, suc, if◌then◌else◌}
use Rattle.std.specs.List.{repeat}
use Rattle.line_editor.specs.Views.{width_of}
use Rattle.prompt.specs.Shown.{in_columns}

-- One blank, many times.
pub blanks : (n : ℕ) → repeat {A = ℕ} n (32 ∷ []) ≡ replicate n 32
blanks zero = refl
blanks (suc n) = ap (λ t. 32 ∷ t) (blanks n)

-- What is before a name.
abbrev pub before_name : ℕ → ℕ → ℕ → List ℕ
before_name count place gap = if place % count == 0 then 10 ∷ [] else replicate gap 32

pub begins_row : (count place gap : ℕ) → place % count ≡ 0 → 10 ∷ [] ≡ before_name count place gap
begins_row count place gap is = ap (λ b. if b then 10 ∷ [] else replicate gap 32) (sym (eq-eqb (place % count) 0 is))

pub goes_on : (count place gap : ℕ) → (place % count ≡ 0 → ⊥) → replicate gap 32 ≡ before_name count place gap
goes_on count place gap isnt = ap (λ b. if b then 10 ∷ [] else replicate gap 32) (sym (ne_eqb (place % count) 0 isnt))

-- A text of some names, which are followed by the others.
module _ (count columns place gap : ℕ) (names : List (Bor (List ℕ))) (all done : List ℕ)
    (so : all ≡ done ++ in_columns count columns place gap (map (λ n. n.now) (drop place names))) where
  pub all_listed : length names ≤ place → done ≡ all
  all_listed end =
      sym (so ∙ ap (λ (ns : List (Bor (List ℕ))). done ++ in_columns count columns place gap (map (λ n. n.now) ns)) (drop_all place names end) ∙ append-nil done)

  -- One name more.
  module _ (d : Bor (List ℕ)) (lt : place < length names) where
    abbrev name : List ℕ
    name = (get_or names place d).now

    abbrev rest : ℕ → List ℕ
    rest next = in_columns count columns (place + 1) next (map (λ n. n.now) (drop (place + 1) names))

    pub one_listed : (front joined new : List ℕ) (next : ℕ) → front ≡ before_name count place gap → joined ≡ done ++ front → new ≡ joined ++ name
        → next ≡ columns + 2 - min (width_of (chars name)) 65535 → all ≡ new ++ rest next
    one_listed front joined new next f j n e =
        so ∙ ap (λ t. done ++ t) (at_drop_more (λ ns. in_columns count columns place gap (map (λ n. n.now) ns)) names place d lt)
        ∙ ap (λ k. done ++ (before_name count place gap ++ (name ++ rest k))) (sym e) ∙ ap (λ t. done ++ (t ++ (name ++ rest next))) (sym f)
        ∙ sym (append_assoc done front (name ++ rest next)) ∙ ap (λ t. t ++ (name ++ rest next)) (sym j)
        ∙ sym (append_assoc joined name (rest next)) ∙ ap (λ t. t ++ rest next) (sym n)
