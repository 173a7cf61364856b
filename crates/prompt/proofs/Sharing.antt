-- What two texts begin with both.
use Rattle.std.proofs.Common.{◌≡◌, ℕ, ◌+◌, ◌==◌, List, [], ◌∷◌, ◌++◌, take, drop, refl, ap, sym, ◌∙◌, append_assoc, append-nil, eqb-true, inl, inr}
use Rattle.std.proofs.lemmas.Bool.{cases_Bool, eq-eqb}
use Rattle.std.proofs.lemmas.List.{append_cancel_right, take-append-drop}
use Rattle.std.proofs.lemmas.Str.{chars-append, chars_past_char, chars-nil, drop_past_char, IsCharBoundary-past_char, IsUtf8-drop, IsUtf8-past_char, IsUtf8-take}
use Rattle.std.specs.Prelude.{encode_utf8}
use Rattle.std.specs.Char.{len_utf8}
use Rattle.std.specs.Str.{chars, IsCharBoundary, IsUtf8}
use Rattle.prompt.specs.Words.{common}

common-nothing : (xs : List ℕ) → common xs [] ≡ []
common-nothing [] = refl
common-nothing (x ∷ xs) = refl

same-char : (c d : ℕ) (xs ys : List ℕ) → c ≡ d → common (c ∷ xs) (d ∷ ys) ≡ c ∷ common xs ys
same-char c d xs ys is = rw (eq-eqb c d is) refl

other-char : (c d : ℕ) (xs ys : List ℕ) → (c ≡ d → ⊥) → common (c ∷ xs) (d ∷ ys) ≡ []
other-char c d xs ys isnt = elim (cases_Bool (c == d)) [ inl same ↦ absurd (isnt (eqb-true c d same)) | inr other ↦ rw other refl ]

-- A text is read up to a place, and another one up to what is left of it. What both begin with is there.
module _ (text other back : List ℕ) (at : ℕ) (u : IsUtf8 text) (b : IsCharBoundary text at) (v : IsUtf8 back)
    (shared : common (chars text) (chars other) ≡ chars (take at text) ++ common (chars (drop at text)) (chars back)) where
  -- One of them ends.
  pub text-ends : drop at text ≡ [] → common (chars text) (chars other) ≡ chars (take at text)
  text-ends end =
      shared ∙ ap (λ t. chars (take at text) ++ common t (chars back)) (ap chars end ∙ chars-nil) ∙ append-nil (chars (take at text))

  pub other-ends : back ≡ [] → common (chars text) (chars other) ≡ chars (take at text)
  other-ends end =
      shared ∙ ap (λ t. chars (take at text) ++ common (chars (drop at text)) t) (ap chars end ∙ chars-nil)
      ∙ ap (λ t. chars (take at text) ++ t) (common-nothing (chars (drop at text))) ∙ append-nil (chars (take at text))

  -- Both have a character more.
  module _ (c d : ℕ) (rest after : List ℕ) (e : drop at text ≡ encode_utf8 c ++ rest) (f : back ≡ encode_utf8 d ++ after) where
    w : IsUtf8 (drop at text)
    w = IsUtf8-drop text at u b

    left : chars (drop at text) ≡ c ∷ chars rest
    left = chars_past_char (drop at text) rest c w e

    right : chars back ≡ d ∷ chars after
    right = chars_past_char back after d v f

    pub next-boundary : IsCharBoundary text (at + len_utf8 c)
    next-boundary = IsCharBoundary-past_char text rest at c b.0 w e

    pub next-rest : drop (at + len_utf8 c) text ≡ rest
    next-rest = drop_past_char text rest at c e

    pub next-other : IsUtf8 after
    next-other = IsUtf8-past_char back after d v f

    pub differ : (c ≡ d → ⊥) → common (chars text) (chars other) ≡ chars (take at text)
    differ isnt =
        shared ∙ ap (λ t. chars (take at text) ++ common t (chars back)) left ∙ ap (λ t. chars (take at text) ++ common (c ∷ chars rest) t) right
        ∙ ap (λ t. chars (take at text) ++ t) (other-char c d (chars rest) (chars after) isnt) ∙ append-nil (chars (take at text))

    grown : chars (take at text) ++ c ∷ [] ≡ chars (take (at + len_utf8 c) text)
    grown =
        let whole : (n : ℕ) → IsCharBoundary text n → chars text ≡ chars (take n text) ++ chars (drop n text) =
        λ n h. ap chars (sym (take-append-drop n text)) ∙ chars-append (take n text) (drop n text) (IsUtf8-take text n u h) in
        append_cancel_right (chars (take at text) ++ c ∷ []) (chars (take (at + len_utf8 c) text)) (chars rest)
        (append_assoc (chars (take at text)) (c ∷ []) (chars rest) ∙ ap (λ t. chars (take at text) ++ t) (sym left) ∙ sym (whole at b)
        ∙ whole (at + len_utf8 c) next-boundary ∙ ap (λ t. chars (take (at + len_utf8 c) text) ++ chars t) next-rest)

    pub agree : c ≡ d
        → common (chars text) (chars other) ≡ chars (take (at + len_utf8 c) text) ++ common (chars (drop (at + len_utf8 c) text)) (chars after)
    agree is =
        shared ∙ ap (λ t. chars (take at text) ++ common t (chars back)) left ∙ ap (λ t. chars (take at text) ++ common (c ∷ chars rest) t) right
        ∙ ap (λ t. chars (take at text) ++ t) (same-char c d (chars rest) (chars after) is)
        ∙ sym (append_assoc (chars (take at text)) (c ∷ []) (common (chars rest) (chars after)))
        ∙ ap (λ t. t ++ common (chars rest) (chars after)) grown
        ∙ ap (λ t. chars (take (at + len_utf8 c) text) ++ common (chars t) (chars after)) (sym next-rest)
