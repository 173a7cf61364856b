-- Between two characters of ASCII there is a boundary of clusters, unless a line feed is the second.
use Rattle.std.proofs.Common.{◌≡◌, ℕ, ◌+◌, ◌-◌, ◌<◌, ◌||◌, ◌&&◌, ◌==◌, true, false, List, [], ◌∷◌, ◌++◌, take, drop, length, reverse, get_or, slice_index, lit<, refl, sym, ap, ◌∙◌, arith, eqb-true}
use Rattle.std.proofs.lemmas.Bool.{and_parts, false≢true}
use Rattle.std.proofs.lemmas.List.{drop_more, reverse-append}
use Rattle.std.proofs.lemmas.Grind.{take_at_read}
use Rattle.std.proofs.lemmas.Str.{chars-append, chars_past_char, chars-IsAscii, encode_ascii, IsCharBoundary-before_ascii, IsUtf8-drop, IsUtf8-take}
use Rattle.std.specs.Prelude.{Bool, not, map, Option, Some, None, unwrap_or, zero, suc}
use Rattle.std.specs.Str.{chars, IsUtf8}
use Rattle.ucd_table.proofs.Facts.{Stepped-below}
use Rattle.ucd_breaks.specs.GraphemeClusterBreak.{grapheme_cluster_break}
use Rattle.ucd_breaks.specs.declared.GraphemeClusterBreak.{GraphemeClusterBreak}
use Rattle.ucd_breaks.specs.declared.GraphemeClusterBreak.TheVariants.{Control, Cr, Extend, L, Lf, Lv, Lvt, Prepend, RegionalIndicator, SpacingMark, T, V, Other, Zwj}
use Rattle.ucd_breaks.proofs.Computing.{ucd_breaks}
use Rattle.ucd_breaks.proofs.GraphemeClusterBreakLemmas.{grapheme_cluster_break_stepped}
use Rattle.ucd_derived.specs.IndicConjunctBreak.{indic_conjunct_break}
use Rattle.ucd_derived.proofs.Computing.{ucd_derived}
use Rattle.ucd_derived.proofs.IndicConjunctBreakLemmas.{indic_conjunct_break_stepped}
use Rattle.ucd_emoji.specs.Binary.{is_extended_pictographic}
use Rattle.unicode_segmentation.specs.Grapheme.{break_by_pair, ends_in_half_flag, ends_in_linker, ends_in_pictograph, is_consonant, is_grapheme_break, is_regional, is_zwj}
use Rattle.unicode_segmentation.specs.Segments.{chars_before, chars_from}
use Rattle.line_editor.specs.Places.{is_between}

-- The classes that characters of ASCII have.
abbrev is_plain : GraphemeClusterBreak → Bool
is_plain Control = true
is_plain Cr = true
is_plain Lf = true
is_plain Other = true
is_plain class = false

-- Whether a pair is no rule's, or breaks.
abbrev parts : GraphemeClusterBreak → GraphemeClusterBreak → Bool
parts p q = unwrap_or (break_by_pair true p q) true

-- The classes before which each of those breaks.
abbrev begins : GraphemeClusterBreak → Bool
begins q = not (is_regional q) && (parts Control q && (parts Cr q && (parts Lf q && parts Other q)))

plain-ascii : (c : ℕ) → c < 128 → is_plain (grapheme_cluster_break c) ≡ true
unfolding ucd_breaks
plain-ascii c below = Stepped-below grapheme_cluster_break grapheme_cluster_break_stepped (λ x v. is_plain v) 128 refl c below

begins-or : (c : ℕ) → c < 128 → ((c == 10) || begins (grapheme_cluster_break c)) ≡ true
unfolding ucd_breaks
begins-or c below = Stepped-below grapheme_cluster_break grapheme_cluster_break_stepped (λ x v. (x == 10) || begins v) 128 refl c below

no_consonant : (c : ℕ) → c < 128 → not (is_consonant (indic_conjunct_break c)) ≡ true
unfolding ucd_derived
no_consonant c below = Stepped-below indic_conjunct_break indic_conjunct_break_stepped (λ x v. not (is_consonant v)) 128 refl c below

or-second : (a b : Bool) → (a || b) ≡ true → (a ≡ true → ⊥) → b ≡ true
or-second true b h k = absurd (k refl)
or-second false b h k = h

not-false : (a : Bool) → not a ≡ true → a ≡ false
not-false true h = absurd (false≢true h)
not-false false h = refl

begins-ascii : (c : ℕ) → c < 128 → (c ≡ 10 → ⊥) → begins (grapheme_cluster_break c) ≡ true
begins-ascii c below other = or-second (c == 10) _ (begins-or c below) (λ same. other (eqb-true c 10 same))

either : (o : Option Bool) (r : Bool) → unwrap_or o true ≡ true → r ≡ true → unwrap_or o r ≡ true
either None r h k = k
either (Some b) r h k = h

nothing_joins : (l h e x : Bool) → not ((true && (l && false)) || ((false && e) && x) || (h && false)) ≡ true
nothing_joins true true e x = refl
nothing_joins true false e x = refl
nothing_joins false true e x = refl
nothing_joins false false e x = refl

rest : (l k e x h r : Bool) → not k ≡ true → not r ≡ true → not ((true && (l && k)) || ((false && e) && x) || (h && r)) ≡ true
rest l true e x h r nk nr = absurd (false≢true nk)
rest l false e x h true nk nr = absurd (false≢true nr)
rest l false e x h false nk nr = nothing_joins l h e x

between-plain : (p q : GraphemeClusterBreak) (l k e x h : Bool) → is_plain p ≡ true → begins q ≡ true → not k ≡ true
    → unwrap_or (break_by_pair true p q) (not ((true && (l && k)) || ((is_zwj p && e) && x) || (h && is_regional q))) ≡ true
between-plain Control q l k e x h plain ok nk =
    let g = and_parts (not (is_regional q)) (parts Control q && (parts Cr q && (parts Lf q && parts Other q))) ok in
    let one = and_parts (parts Control q) (parts Cr q && (parts Lf q && parts Other q)) g.1 in
    either (break_by_pair true Control q) _ one.0 (rest l k e x h (is_regional q) nk g.0)
between-plain Cr q l k e x h plain ok nk =
    let g = and_parts (not (is_regional q)) (parts Control q && (parts Cr q && (parts Lf q && parts Other q))) ok in
    let one = and_parts (parts Control q) (parts Cr q && (parts Lf q && parts Other q)) g.1 in
    let two = and_parts (parts Cr q) (parts Lf q && parts Other q) one.1 in
    either (break_by_pair true Cr q) _ two.0 (rest l k e x h (is_regional q) nk g.0)
between-plain Lf q l k e x h plain ok nk =
    let g = and_parts (not (is_regional q)) (parts Control q && (parts Cr q && (parts Lf q && parts Other q))) ok in
    let one = and_parts (parts Control q) (parts Cr q && (parts Lf q && parts Other q)) g.1 in
    let two = and_parts (parts Cr q) (parts Lf q && parts Other q) one.1 in
    let three = and_parts (parts Lf q) (parts Other q) two.1 in
    either (break_by_pair true Lf q) _ three.0 (rest l k e x h (is_regional q) nk g.0)
between-plain Other q l k e x h plain ok nk =
    let g = and_parts (not (is_regional q)) (parts Control q && (parts Cr q && (parts Lf q && parts Other q))) ok in
    let one = and_parts (parts Control q) (parts Cr q && (parts Lf q && parts Other q)) g.1 in
    let two = and_parts (parts Cr q) (parts Lf q && parts Other q) one.1 in
    let three = and_parts (parts Lf q) (parts Other q) two.1 in
    either (break_by_pair true Other q) _ three.1 (rest l k e x h (is_regional q) nk g.0)
between-plain Extend q l k e x h plain ok nk = absurd (false≢true plain)
between-plain L q l k e x h plain ok nk = absurd (false≢true plain)
between-plain Lv q l k e x h plain ok nk = absurd (false≢true plain)
between-plain Lvt q l k e x h plain ok nk = absurd (false≢true plain)
between-plain Prepend q l k e x h plain ok nk = absurd (false≢true plain)
between-plain RegionalIndicator q l k e x h plain ok nk = absurd (false≢true plain)
between-plain SpacingMark q l k e x h plain ok nk = absurd (false≢true plain)
between-plain T q l k e x h plain ok nk = absurd (false≢true plain)
between-plain V q l k e x h plain ok nk = absurd (false≢true plain)
between-plain Zwj q l k e x h plain ok nk = absurd (false≢true plain)

-- Two characters of ASCII are of two clusters, unless the second is a line feed.
pub ascii-between : (a b : ℕ) (before after : List ℕ) → a < 128 → b < 128 → (b ≡ 10 → ⊥) → is_between (a ∷ before) (b ∷ after) ≡ true
unfolding is_grapheme_break
ascii-between a b before after la lb other =
    between-plain (grapheme_cluster_break a) (grapheme_cluster_break b) (ends_in_linker (map indic_conjunct_break (a ∷ before)))
    (is_consonant (indic_conjunct_break b)) (ends_in_pictograph before) (is_extended_pictographic b) (ends_in_half_flag (a ∷ before))
    (plain-ascii a la) (begins-ascii b lb other) (no_consonant b lb)

ascii-one : (c : ℕ) → c < 128 → (i : ℕ) → slice_index (c ∷ []) i < 128
ascii-one c below zero = below
ascii-one c below (suc i) = lit< tt

-- A character of ASCII is one byte of a text.
pub from-byte : (text : List ℕ) (at : ℕ) → IsUtf8 text → at < length text → get_or text at 0 < 128
    → chars_from text at ≡ get_or text at 0 ∷ chars_from text (at + 1)
from-byte text at u inside below =
    let c = get_or text at 0 in
    chars_past_char (drop at text) (drop (at + 1) text) c (IsUtf8-drop text at u (IsCharBoundary-before_ascii text at inside below))
    (drop_more text at 0 inside ∙ ap (λ t. t ++ drop (at + 1) text) (sym (encode_ascii c below)))

pub before-byte : (text : List ℕ) (at : ℕ) → IsUtf8 text → at < length text → get_or text at 0 < 128
    → chars_before text (at + 1) ≡ get_or text at 0 ∷ chars_before text at
before-byte text at u inside below =
    let c = get_or text at 0 in
    ap (λ t. reverse (chars t)) (take_at_read text at 0 inside).1
    ∙ ap reverse (chars-append (take at text) (c ∷ []) (IsUtf8-take text at u (IsCharBoundary-before_ascii text at inside below))
    ∙ ap (λ t. chars (take at text) ++ t) (chars-IsAscii (c ∷ []) (ascii-one c below)))
    ∙ reverse-append (chars (take at text)) (c ∷ [])

-- The same of a text's bytes around a place.
pub between-bytes : (text : List ℕ) (at : ℕ) → IsUtf8 text → 0 < at → at < length text
    → get_or text (at - 1) 0 < 128 → get_or text at 0 < 128 → (get_or text at 0 ≡ 10 → ⊥) → is_between (chars_before text at) (chars_from text at) ≡ true
between-bytes text at u positive inside la lb other =
    let x = get_or text (at - 1) 0 in
    let y = get_or text at 0 in
    let back : at ≡ (at - 1) + 1 = omega (arith, positive) in
    let before : chars_before text at ≡ x ∷ chars_before text (at - 1) =
    ap (chars_before text) back ∙ before-byte text (at - 1) u (omega (arith, positive, inside)) la in
    ap (λ t. is_between t (chars_from text at)) before ∙ ap (λ t. is_between (x ∷ chars_before text (at - 1)) t) (from-byte text at u inside lb)
    ∙ ascii-between x y (chars_before text (at - 1)) (chars_from text (at + 1)) la lb other
