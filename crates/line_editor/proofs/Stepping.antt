-- Steps from place to place.
use Rattle.std.proofs.Common.{◌≡◌, ◌≤◌, ℕ, true, List, [], ◌∷◌, ◌++◌, length, reverse, slice_range, refl, subst, ap, ◌∙◌, zero-add, arith}
use Rattle.std.proofs.lemmas.List.{drop_all}
use Rattle.std.proofs.lemmas.Str.{chars-nil, IsCharBoundary-start}
use Rattle.std.specs.Prelude.{encode_utf8}
use Rattle.std.specs.Str.{chars, IsUtf8, IsCharBoundary}
use Rattle.unicode_segmentation.specs.Steps.{IsCharAt}
use Rattle.unicode_segmentation.proofs.TextLemmas.{IsCharAt-last}
use Rattle.unicode_segmentation.specs.Segments.{Rule, chars_before, chars_from}
use Rattle.line_editor.specs.Splits.{ahead, last_stop, split_at}

-- A search that begins at a stop ends there.
pub ahead_here : (stops : Rule) (before after : List ℕ) → stops before after ≡ true → ahead stops before after ≡ record { before = before; after = after }
ahead_here stops before [] h = refl
ahead_here stops before (c ∷ after) h = rw h refl

pub behind_here : (stops : Rule) (before after : List ℕ) → stops before after ≡ true → last_stop stops before after ≡ record { before = before; after = after }
behind_here stops [] after h = refl
behind_here stops (c ∷ before) after h = rw h refl

-- Nothing is before the start of a text, and nothing behind its end.
pub chars_before-start : (text : List ℕ) → chars_before text 0 ≡ []
chars_before-start text = ap reverse chars-nil

pub chars_from-end : (text : List ℕ) (at : ℕ) → length text ≤ at → chars_from text at ≡ []
chars_from-end text at h = ap chars (drop_all at text h) ∙ chars-nil

-- A search from the end ends there, and one back from the start there.
pub ahead_end : (stops : Rule) (text : List ℕ) (at : ℕ) → length text ≤ at
    → ahead stops (chars_before text at) (chars_from text at) ≡ split_at text at
ahead_end stops text at h =
    let none = chars_from-end text at h in
    rw none refl

pub behind_start : (stops : Rule) (text : List ℕ) (at : ℕ) → at ≤ 0
    → last_stop stops (chars_before text at) (chars_from text at) ≡ split_at text at
behind_start stops text at h =
    let zero : at ≡ 0 = omega arith in
    rw zero (rw (chars_before-start text) refl)

-- The last character of a text's front.
pub IsCharAt-before : (s : List ℕ) (j c : ℕ) (front : List ℕ) → IsUtf8 s → IsCharBoundary s j → IsUtf8 front
    → slice_range s 0 j ≡ front ++ encode_utf8 c → IsCharAt s (length front) c j
IsCharAt-before s j c front u end v e =
    let P : ℕ → Type 0 = λ at. IsCharAt s at c j in
    subst P (zero-add (length front)) (IsCharAt-last s u 0 j c front (omega arith) (IsCharBoundary-start s u) end v e)
