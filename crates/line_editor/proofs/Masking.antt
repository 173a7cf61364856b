-- Texts of stars.
use Rattle.std.proofs.Common.{◌≡◌, ℕ, ◌<◌, true, List, [], ◌∷◌, ◌++◌, length, replicate, reverse, refl, sym, subst, ap, ◌∙◌, add-one, arith}
use Rattle.std.proofs.lemmas.Bool.{and_from}
use Rattle.std.proofs.lemmas.List.{length-reverse, replicate_more, reverse-append}
use Rattle.std.proofs.lemmas.List.Elements.{All-replicate}
use Rattle.std.proofs.lemmas.Str.{chars-IsAscii}
use Rattle.std.proofs.lemmas.Str.Ascii.{IsAscii-from_all}
use Rattle.std.specs.Prelude.{zero, suc}
use Rattle.std.specs.List.{repeat}
use Rattle.std.specs.Str.{chars}
use Rattle.unicode_width.specs.Width.{char_width}
use Rattle.line_editor.specs.declared.masks.Mask.TheVariants.{Stars}
use Rattle.line_editor.specs.Edits.{settled}
use Rattle.line_editor.specs.Masks.{masked}
use Rattle.line_editor.specs.Shown.{AreRows, comes_in}
use Rattle.line_editor.specs.Splits.{Split}
use Rattle.line_editor.proofs.Showing.{shown-same}

-- So many stars.
abbrev pub stars : ℕ → List ℕ
stars n = replicate n 42

pub repeated : (n : ℕ) → repeat {A = ℕ} n (42 ∷ []) ≡ stars n
repeated zero = refl
repeated (suc n) = ap (λ t. 42 ∷ t) (repeated n)

star-shown : comes_in true 42 ≡ true
unfolding char_width
star-shown = refl

stars-rows : (n : ℕ) → AreRows (stars n)
stars-rows zero = refl
stars-rows (suc n) = and_from _ _ star-shown (stars-rows n)

-- The characters of stars are these stars.
stars-chars : (n : ℕ) → chars (stars n) ≡ stars n
stars-chars n = chars-IsAscii (stars n) (IsAscii-from_all (stars n) (All-replicate (λ b. b < 128) n 42 (omega arith)))

stars-reversed : (n : ℕ) → reverse (stars n) ≡ stars n
stars-reversed zero = refl
stars-reversed (suc n) =
    reverse-append (42 ∷ []) (stars n) ∙ ap (λ t. t ++ 42 ∷ []) (stars-reversed n) ∙ replicate_more n 42 ∙ ap stars (add-one n)

-- A text of stars is taken into a line.
pub stars-shown : (text : List ℕ) (n : ℕ) → text ≡ stars n → AreRows (chars text)
stars-shown text n is = shown-same true text (stars n) is (subst AreRows (sym (stars-chars n)) (stars-rows n))

-- The line of the stars for what is before the cursor and for what is behind it.
pub stars-line : (d : Split) (front back before after : List ℕ) → reverse (chars front) ≡ d.before → chars back ≡ d.after
    → before ≡ stars (length (chars front)) → after ≡ stars (length (chars back))
    → settled (record { before = reverse (chars before); after = chars after }) ≡ masked Stars d
stars-line d front back before after f b isb isa =
    let n = length (chars front) in
    let count : n ≡ length d.before = sym (length-reverse (chars front)) ∙ ap length f in
    let first : reverse (chars before) ≡ stars (length d.before) =
    ap (λ t. reverse (chars t)) isb ∙ ap reverse (stars-chars n) ∙ stars-reversed n ∙ ap stars count in
    let last : chars after ≡ stars (length d.after) = ap chars isa ∙ stars-chars (length (chars back)) ∙ ap (λ t. stars (length t)) b in
    ap (λ t. settled (record { before = t; after = chars after })) first ∙ ap (λ t. settled (record { before = stars (length d.before); after = t })) last
