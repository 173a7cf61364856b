-- A history and its text.
use Rattle.std.proofs.Common.{◌≡◌, ℕ, ◌-◌, ◌<◌, ◌≤◌, Bool, true, false, List, [], ◌∷◌, ◌++◌, length, reverse, take, drop, refl, sym, ap, ◌∙◌, inl, inr, append_assoc, append-nil, arith}
use Rattle.std.proofs.lemmas.Bool.{and_from, and_parts, cases_Bool, false≢true, le-leb, lt-ltb}
use Rattle.std.proofs.lemmas.Grind.{flat_map-append}
use Rattle.std.proofs.lemmas.List.{reverse-append, reverse-reverse, take-take}
use Rattle.std.proofs.lemmas.List.Folds.{list_all-append}
use Rattle.std.proofs.lemmas.List.Splits.{slice_split-cons_no, slice_split-cons_yes}
use Rattle.std.proofs.lemmas.Str.{chars-nil, encodes-append, encodes-chars}
use Rattle.std.specs.Prelude.{Some, None, not, ◌==◌, encode_utf8, encode_utf8_all, map, suc, zero, slice_get}
use Rattle.std.specs.List.{filter, flat_map, list_all, onto_first}
use Rattle.std.specs.Option.{option_map}
use Rattle.std.specs.Str.{chars, IsUtf8, IsCharBoundary}
use Rattle.unicode_segmentation.specs.Segments.{chars_before, chars_from}
use Rattle.line_editor.specs.declared.limits.Limits.{Limits}
use Rattle.line_editor.specs.Bounds.{size}
use Rattle.line_editor.specs.Edits.{settled}
use Rattle.line_editor.specs.History.{line_read, line_saved, loaded_line, has_room, lines_of, saved, with_line}
use Rattle.line_editor.specs.Splits.{Split, line_text}
use Rattle.line_editor.specs.inside.Lines.{IsFirstLine}
use Rattle.line_editor.proofs.Searching.{from_line, past_lines}
use Rattle.line_editor.proofs.Settling.{text_of-split_at}
use Rattle.line_editor.proofs.Stepping.{chars_from-end}

-- ---- the first line

-- A character is within a line if it is no line feed.
abbrev pub is_within : ℕ → Bool
is_within c = not (c == 10)

not_true : (b : Bool) → not b ≡ true → b ≡ false
not_true true h = absurd (false≢true h)
not_true false h = refl

pub one_line : (text : List ℕ) → list_all is_within text ≡ true → lines_of text ≡ text ∷ []
one_line [] h = refl
one_line (c ∷ text) h =
    let parts = and_parts _ _ h in
    slice_split-cons_no (λ d. d == 10) c text (not_true (c == 10) parts.0) ∙ ap (onto_first c) (one_line text parts.1)

pub line_before : (text rest : List ℕ) → list_all is_within text ≡ true → lines_of (text ++ 10 ∷ rest) ≡ text ∷ lines_of rest
line_before [] rest h = slice_split-cons_yes (λ d. d == 10) 10 rest refl
line_before (c ∷ text) rest h =
    let parts = and_parts _ _ h in
    slice_split-cons_no (λ d. d == 10) c (text ++ 10 ∷ rest) (not_true (c == 10) parts.0) ∙ ap (onto_first c) (line_before text rest parts.1)

pub all-reverse : (p : ℕ → Bool) (text : List ℕ) → list_all p text ≡ true → list_all p (reverse text) ≡ true
all-reverse p [] h = refl
all-reverse p (c ∷ text) h =
    let parts = and_parts _ _ h in
    ap (list_all p) (reverse-append (c ∷ []) text) ∙ list_all-append p (reverse text) (c ∷ [])
    ∙ and_from _ _ (all-reverse p text parts.1) (and_from _ _ parts.0 refl)

module _ (text : List ℕ) (end : ℕ) (u : IsUtf8 text) (b : IsCharBoundary text end) (within : list_all is_within (chars_before text end) ≡ true) where
  pub line_found : (line back : List ℕ) (next c : ℕ) → chars_from text end ≡ c ∷ chars_from text next → c ≡ 10 → line ≡ take end text
      → back ≡ drop next text → IsFirstLine (chars text) (chars line) (chars back)
  line_found line back next c from is f g =
      let front : reverse (chars_before text end) ≡ chars line = reverse-reverse (chars (take end text)) ∙ ap chars (sym f) in
      let whole : chars text ≡ reverse (chars_before text end) ++ 10 ∷ chars_from text next =
      sym (text_of-split_at text end u b) ∙ ap (λ t. reverse (chars_before text end) ++ t) (from ∙ ap (λ x. x ∷ chars_from text next) is) in
      inl (
      ap lines_of whole ∙ line_before (reverse (chars_before text end)) (chars_from text next) (all-reverse is_within (chars_before text end) within)
      ∙ ap (λ t. t ∷ lines_of (chars_from text next)) front
      ∙ ap (λ t. chars line ∷ lines_of (chars t)) (sym g)
      )

  pub line_whole : length text ≤ end → IsFirstLine (chars text) (chars text) (chars [])
  line_whole le =
      let whole : chars text ≡ reverse (chars_before text end) =
      sym (text_of-split_at text end u b) ∙ ap (λ t. reverse (chars_before text end) ++ t) (chars_from-end text end le) ∙ append-nil (reverse (chars_before text end)) in
      inr (one_line (chars text) (ap (list_all is_within) whole ∙ all-reverse is_within (chars_before text end) within), chars-nil)

-- ---- a line that is loaded

pub room_for : (limits : Limits) (text : List ℕ) → 0 < size text → size text ≤ limits.bytes → has_room limits text ≡ true
room_for limits text some few = and_from _ _ (lt-ltb 0 (size text) some) (le-leb (size text) limits.bytes few)

pub line_loaded : (limits : Limits) (text all : List ℕ) (line : Split) (history : List Split) → chars text ≡ all
    → line ≡ settled (record { before = reverse (chars text); after = chars [] }) → has_room limits all ≡ true
    → take limits.lines (line ∷ history) ≡ with_line limits all history
line_loaded limits text all line history e f room =
    let end : line ≡ loaded_line all = f ∙ ap (λ t. settled (record { before = reverse (chars text); after = t })) chars-nil ∙ ap loaded_line e in
    ap (λ (d : Split). take limits.lines (d ∷ history)) end ∙ (rw room refl)

-- ---- the lines of a text

pub nothing-read : (multiline : Bool) → line_read multiline [] ≡ []
nothing-read false = refl
nothing-read true = refl

-- The lines that a history has of some lines of a text, the newest first.
abbrev pub kept : Limits → List (List ℕ) → List Split
kept limits lines = reverse (map loaded_line (filter (has_room limits) (map (line_read limits.multiline) lines)))

pub kept-nothing : (limits : Limits) → kept limits ([] ∷ []) ≡ []
kept-nothing limits = rw (nothing-read limits.multiline) refl

-- The lines that a history has of a text, in front of other ones.
abbrev pub loads : Limits → List Split → List ℕ → List Split
loads limits history text = take limits.lines (kept limits (lines_of text) ++ history)

-- Of lines behind others no more have to be kept than are looked at.
take_within : (n m : ℕ) (xs ys : List Split) → n ≤ m → take n (xs ++ take m ys) ≡ take n (xs ++ ys)
take_within zero m xs ys le = refl
take_within (suc n) m [] ys le = take-take (suc n) m ys le
take_within (suc n) m (x ∷ xs) ys le = ap (λ t. x ∷ t) (take_within n m xs ys (omega (arith, le)))

kept_cons : (limits : Limits) (line : List ℕ) (lines : List (List ℕ)) (history : List Split)
    → take limits.lines (kept limits (line ∷ lines) ++ history) ≡ take limits.lines (kept limits lines ++ with_line limits (line_read limits.multiline line) history)
kept_cons limits line lines history =
    elim (cases_Bool (has_room limits (line_read limits.multiline line))) [
      | inl here ↦ rw here (
          ap (λ t. take limits.lines (t ++ history)) (reverse-append (loaded_line (line_read limits.multiline line) ∷ []) (map loaded_line (filter (has_room limits) (map (line_read limits.multiline) lines))))
          ∙ ap (take limits.lines) (append_assoc (kept limits lines) (loaded_line (line_read limits.multiline line) ∷ []) history)
          ∙ sym (take_within limits.lines limits.lines (kept limits lines) (loaded_line (line_read limits.multiline line) ∷ history) (omega arith)))
      | inr not_here ↦ rw not_here refl
    ]

pub loads_step : (limits : Limits) (history : List Split) (text line back : List ℕ) → IsFirstLine text line back
    → loads limits history text ≡ loads limits (with_line limits (line_read limits.multiline line) history) back
loads_step limits history text line back (inl more) = ap (λ t. take limits.lines (kept limits t ++ history)) more ∙ kept_cons limits line (lines_of back) history
loads_step limits history text line back (inr last) =
    ap (λ t. take limits.lines (kept limits t ++ history)) last.0 ∙ kept_cons limits line [] history
    ∙ ap (λ t. take limits.lines (t ++ with_line limits (line_read limits.multiline line) history)) (sym (kept-nothing limits))
    ∙ ap (loads limits (with_line limits (line_read limits.multiline line) history)) (sym last.1)

pub with_line-short : (limits : Limits) (text : List ℕ) (history : List Split) → take limits.lines history ≡ history
    → take limits.lines (with_line limits text history) ≡ with_line limits text history
with_line-short limits text history short =
    elim (cases_Bool (has_room limits text)) [
      | inl here ↦ rw here (take-take limits.lines limits.lines (loaded_line text ∷ history) (omega arith))
      | inr not_here ↦ rw not_here short
    ]

-- ---- the text of a history

module _ (multiline : Bool) where
  -- One line more is behind the older ones.
  pub saved_cons : (d : Split) (history : List Split) → saved multiline (d ∷ history) ≡ saved multiline history ++ (line_saved multiline (line_text d) ++ 10 ∷ [])
  saved_cons d history =
      let line : Split → List ℕ = λ x. line_saved multiline (line_text x) ++ 10 ∷ [] in
      ap (flat_map line) (reverse-append (d ∷ []) history) ∙ flat_map-append line (reverse history) (d ∷ [])
      ∙ ap (λ t. saved multiline history ++ t) (append-nil (line d))

  pub line_pushed : (old line mid new : List ℕ) → mid ≡ old ++ encode_utf8_all (line_saved multiline (chars line)) → new ≡ mid ++ encode_utf8 10
      → new ≡ old ++ encode_utf8_all (line_saved multiline (chars line) ++ 10 ∷ [])
  line_pushed old line mid new e f =
      let feed : encode_utf8_all (10 ∷ []) ≡ encode_utf8 10 = append-nil (encode_utf8 10) in
      let text = line_saved multiline (chars line) in
      f ∙ ap (λ t. t ++ encode_utf8 10) e ∙ append_assoc old (encode_utf8_all text) (encode_utf8 10)
      ∙ ap (λ t. old ++ (encode_utf8_all text ++ t)) (sym feed)
      ∙ ap (λ t. old ++ t) (sym (encodes-append text (10 ∷ [])))

  pub saved_step : (lines : List Split) (at : ℕ) (line old new : List ℕ) → 0 < at → Some (chars line) ≡ option_map line_text (slice_get lines (at - 1))
      → old ≡ encode_utf8_all (saved multiline (drop at lines)) → new ≡ old ++ encode_utf8_all (line_saved multiline (chars line) ++ 10 ∷ [])
      → new ≡ encode_utf8_all (saved multiline (drop (at - 1) lines))
  saved_step lines at line old new some is e f =
      let found = from_line lines (at - 1) (chars line) is in
      let next : suc (at - 1) ≡ at = omega (arith, some) in
      f ∙ ap (λ t. t ++ encode_utf8_all (line_saved multiline (chars line) ++ 10 ∷ [])) e
      ∙ ap (λ t. encode_utf8_all (saved multiline (drop at lines)) ++ encode_utf8_all (line_saved multiline t ++ 10 ∷ [])) (sym found.2)
      ∙ sym (encodes-append (saved multiline (drop at lines)) (line_saved multiline (line_text found.0) ++ 10 ∷ []))
      ∙ ap encode_utf8_all (sym (saved_cons found.0 (drop at lines)))
      ∙ ap (λ n. encode_utf8_all (saved multiline (found.0 ∷ drop n lines))) (sym next)
      ∙ ap (λ t. encode_utf8_all (saved multiline t)) (sym found.1)

  pub saved_past : (lines : List Split) (at : ℕ) (old : List ℕ) → 0 < at → None ≡ option_map line_text (slice_get lines (at - 1))
      → old ≡ encode_utf8_all (saved multiline (drop at lines)) → old ≡ encode_utf8_all (saved multiline (drop (at - 1) lines))
  saved_past lines at old some is e =
      let none = past_lines lines (at - 1) is in
      let next : suc (at - 1) ≡ at = omega (arith, some) in
      e ∙ ap (λ n. encode_utf8_all (saved multiline (drop n lines))) (sym next) ∙ ap (λ t. encode_utf8_all (saved multiline t)) (none.1 ∙ sym none.0)

pub saved-plain : (multiline : Bool) (line : List ℕ) → multiline ≡ false → IsUtf8 line → line ≡ encode_utf8_all (line_saved multiline (chars line))
saved-plain multiline line off u = sym (encodes-chars line u) ∙ ap (λ b. encode_utf8_all (line_saved b (chars line))) (sym off)
