-- How many bytes texts take.
use lib.Utf8.{encode}
use Rattle.std.proofs.Common.{◌≡◌, Bool, true, false, ◌==◌, ℕ, ◌+◌, ◌≤◌, List, [], ◌∷◌, length, sym, ap, ◌∙◌, inl, inr, arith, length-append}
use Rattle.std.proofs.lemmas.Bool.{cases_Bool}
use Rattle.std.proofs.lemmas.Str.{encodes-chars}
use Rattle.std.specs.Prelude.{encode_utf8, encode_utf8_all}
use Rattle.std.specs.Str.{chars, IsUtf8}
use Rattle.unicode_segmentation.proofs.TextLemmas.{encode_utf8_nonempty}
use Rattle.line_editor.specs.Bounds.{size}
use Rattle.line_editor.specs.Shown.{begins_behind_gap, begins_with_feed, blanked, comes_in, is_gap, part_in, pasted_part, with_feeds}

-- A text has as many bytes as its characters take.
pub length-size : (text all : List ℕ) → IsUtf8 text → chars text ≡ all → length text ≡ size all
length-size text all u e = ap length (sym (encodes-chars text u)) ∙ ap size e

pub size-cons : (c : ℕ) (text : List ℕ) → size (c ∷ text) ≡ length (encode_utf8 c) + size text
size-cons c text = length-append (encode_utf8 c) (encode_utf8_all text)

-- The part of a text that comes into a line is no longer.
size-shown : (multiline : Bool) (text : List ℕ) → size (part_in multiline text) ≤ size text
size-shown multiline [] = omega arith
size-shown multiline (c ∷ text) =
    elim (cases_Bool (comes_in multiline c)) [
      | inl here ↦ rw here (omega (arith, size-shown multiline text, size-cons c (part_in multiline text), size-cons c text))
      | inr not_here ↦ rw not_here (omega (arith, size-shown multiline text, size-cons c text))
    ]

size-blank : (text : List ℕ) → size (32 ∷ text) ≡ 1 + size text
unfolding encode
size-blank text = length-append (encode_utf8 32) (encode_utf8_all text)

-- A blank takes no more bytes than a gap.
size-blanked : (text : List ℕ) → size (blanked text) ≤ size text
size-blanked [] = omega arith
size-blanked (c ∷ text) =
    let rest = size-blanked text in
    elim (cases_Bool (is_gap c)) [
      | inl gap ↦ elim (cases_Bool (begins_behind_gap text)) [
        | inl last ↦ rw (gap, last) (omega (arith, rest, size-blank (blanked text), size-cons c text, encode_utf8_nonempty c))
        | inr more ↦ rw (gap, more) (omega (arith, rest, size-cons c text))
      ]
      | inr other ↦ rw other (omega (arith, rest, size-cons c (blanked text), size-cons c text))
    ]

size-feed : (text : List ℕ) → size (10 ∷ text) ≡ 1 + size text
unfolding encode
size-feed text = length-append (encode_utf8 10) (encode_utf8_all text)

-- A line feed takes no more bytes than a line end, and a blank no more than a tab.
size-fed : (text : List ℕ) → size (with_feeds text) ≤ size text
size-fed [] = omega arith
size-fed (c ∷ text) =
    let rest = size-fed text in
    elim (cases_Bool (c == 13)) [
      | inl end ↦ elim (cases_Bool (begins_with_feed text)) [
        | inl more ↦ rw (end, more) (omega (arith, rest, size-cons c text))
        | inr last ↦ rw (end, last) (omega (arith, rest, size-feed (with_feeds text), size-cons c text, encode_utf8_nonempty c))
      ]
      | inr not_here ↦ elim (cases_Bool (c == 9)) [
        | inl tab ↦ rw (not_here, tab) (omega (arith, rest, size-blank (with_feeds text), size-cons c text, encode_utf8_nonempty c))
        | inr other ↦ rw (not_here, other) (omega (arith, rest, size-cons c (with_feeds text), size-cons c text))
      ]
    ]

-- The part of a paste that comes into a line is no longer.
pub size-pasted : (multiline : Bool) (text : List ℕ) → size (pasted_part multiline text) ≤ size text
size-pasted false text = omega (arith, size-shown false (blanked text), size-blanked text)
size-pasted true text = omega (arith, size-shown true (with_feeds text), size-fed text)
