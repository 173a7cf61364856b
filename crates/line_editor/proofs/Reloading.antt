-- Loading what was saved gives the same history.
use Rattle.std.proofs.Common.{◌≡◌, Bool, ℕ, ◌==◌, true, false, List, [], ◌∷◌, ◌++◌, map, reverse, take, refl, sym, subst, ap, ◌∙◌, inl, inr, append_assoc, append-nil}
use Rattle.std.proofs.lemmas.Bool.{and_from, and_parts, cases_Bool, eqb-true, false≢true}
use Rattle.std.proofs.lemmas.List.{reverse-reverse, take_all}
use Rattle.std.specs.List.{AllByRecursion, filter, flat_map, list_all}
use Rattle.unicode_width.specs.Width.{char_width}
use Rattle.line_editor.specs.declared.limits.Limits.{Limits}
use Rattle.line_editor.specs.Bounded.{IsKept, LoadsSaved}
use Rattle.line_editor.specs.History.{escaped, line_read, line_saved, loaded_line, has_room, lines_of, unescaped}
use Rattle.line_editor.specs.Shown.{AreIn, blanked, comes_in, is_gap, is_shown, part_in, pasted_part, with_feeds}
use Rattle.line_editor.specs.Splits.{Split, line_text}
use Rattle.line_editor.specs.States.{EditorState}
use Rattle.line_editor.proofs.Bounding.{all-reverse}
use Rattle.line_editor.proofs.Loading.{is_within, line_before, nothing-read, room_for}

-- No line feed is shown, and neither a tab nor a carriage return comes into a line.
feed-hidden : is_shown 10 ≡ false
unfolding char_width
feed-hidden = refl

tab-out : (multiline : Bool) → comes_in multiline 9 ≡ false
unfolding char_width
tab-out false = refl
tab-out true = refl

return-out : (multiline : Bool) → comes_in multiline 13 ≡ false
unfolding char_width
return-out false = refl
return-out true = refl

not-in : (multiline : Bool) (c d : ℕ) → comes_in multiline d ≡ false → comes_in multiline c ≡ true → c == d ≡ false
not-in multiline c d out h =
    let P : ℕ → Type 0 = λ n. comes_in multiline n ≡ true in
    elim (cases_Bool (c == d)) [
      | inl same ↦ absurd (false≢true (sym out ∙ subst P (eqb-true c d same) h))
      | inr other ↦ other
    ]

shown-no_gap : (c : ℕ) → is_shown c ≡ true → is_gap c ≡ false
shown-no_gap c h = rw (not-in false c 9 (tab-out false) h, not-in false c 10 feed-hidden h, not-in false c 13 (return-out false) h) refl

shown-within : (text : List ℕ) → AreIn false text → list_all is_within text ≡ true
shown-within [] h = refl
shown-within (c ∷ text) h =
    let parts = and_parts _ _ h in
    and_from (is_within c) (list_all is_within text) (rw (not-in false c 10 feed-hidden parts.0) refl) (shown-within text parts.1)

shown-all : (multiline : Bool) (text : List ℕ) → AreIn multiline text → part_in multiline text ≡ text
shown-all multiline [] h = refl
shown-all multiline (c ∷ text) h =
    let parts = and_parts _ _ h in
    let here : comes_in multiline c ≡ true = parts.0 in
    rw here (ap (λ t. c ∷ t) (shown-all multiline text parts.1))

-- Of a text that is shown, no character is a gap.
blanked-all : (text : List ℕ) → AreIn false text → blanked text ≡ text
blanked-all [] h = refl
blanked-all (c ∷ text) h =
    let parts = and_parts _ _ h in
    rw (shown-no_gap c parts.0) (ap (λ t. c ∷ t) (blanked-all text parts.1))

-- A text of rows has no line end but line feeds, and no tab.
fed-all : (text : List ℕ) → AreIn true text → with_feeds text ≡ text
fed-all [] h = refl
fed-all (c ∷ text) h =
    let parts = and_parts _ _ h in
    rw (not-in true c 13 (return-out true) parts.0, not-in true c 9 (tab-out true) parts.0) (ap (λ t. c ∷ t) (fed-all text parts.1))

pasted-all : (multiline : Bool) (text : List ℕ) → AreIn multiline text → pasted_part multiline text ≡ text
pasted-all false text h = ap (part_in false) (blanked-all text h) ∙ shown-all false text h
pasted-all true text h = ap (part_in true) (fed-all text h) ∙ shown-all true text h

-- ---- a line in the text of a history

escaped-within : (text : List ℕ) → list_all is_within (escaped text) ≡ true
escaped-within [] = refl
escaped-within (c ∷ text) =
    let rest = escaped-within text in
    elim (cases_Bool (c == 10)) [
      | inl feed ↦ rw feed rest
      | inr not_here ↦ elim (cases_Bool (c == 92)) [
        | inl slash ↦ rw (not_here, slash) rest
        | inr other ↦ rw (not_here, other) (and_from (is_within c) (list_all is_within (escaped text)) (rw not_here refl) rest)
      ]
    ]

unescaped-escaped : (text : List ℕ) → unescaped false (escaped text) ≡ text
unescaped-escaped [] = refl
unescaped-escaped (c ∷ text) =
    let rest = unescaped-escaped text in
    elim (cases_Bool (c == 10)) [
      | inl feed ↦ rw feed (ap (λ t. 10 ∷ t) rest ∙ ap (λ n. n ∷ text) (sym (eqb-true c 10 feed)))
      | inr not_here ↦ elim (cases_Bool (c == 92)) [
        | inl slash ↦ rw (not_here, slash) (ap (λ t. 92 ∷ t) rest ∙ ap (λ n. n ∷ text) (sym (eqb-true c 92 slash)))
        | inr other ↦ rw (not_here, other) (rw other (ap (λ t. c ∷ t) rest))
      ]
    ]

saved-within : (multiline : Bool) (text : List ℕ) → AreIn multiline text → list_all is_within (line_saved multiline text) ≡ true
saved-within false text h = shown-within text h
saved-within true text h = escaped-within text

read-saved : (multiline : Bool) (text : List ℕ) → AreIn multiline text → line_read multiline (line_saved multiline text) ≡ text
read-saved false text h = pasted-all false text h
read-saved true text h = ap (pasted_part true) (unescaped-escaped text) ∙ pasted-all true text h

-- The lines of a text that was saved, the oldest first.
module _ (limits : Limits) where
  abbrev kept_text : Split → List ℕ
  kept_text d = line_saved limits.multiline (line_text d)

  abbrev line : Split → List ℕ
  line d = kept_text d ++ 10 ∷ []

  lines_of-saved : (lines : List Split) → AllByRecursion (IsKept limits) lines → lines_of (flat_map line lines) ≡ map kept_text lines ++ [] ∷ []
  lines_of-saved [] h = refl
  lines_of-saved (d ∷ lines) h =
      ap lines_of (append_assoc (kept_text d) (10 ∷ []) (flat_map line lines))
      ∙ line_before (kept_text d) (flat_map line lines) (saved-within limits.multiline (line_text d) h.0.0.0)
      ∙ ap (λ t. kept_text d ∷ t) (lines_of-saved lines h.1)

ended-text : (d : Split) → d.after ≡ [] → loaded_line (line_text d) ≡ d
ended-text d e =
    let before : reverse (line_text d) ≡ d.before = ap (λ t. reverse (reverse d.before ++ t)) e ∙ ap reverse (append-nil (reverse d.before)) ∙ reverse-reverse d.before in
    ap (λ t. record { before = t; after = [] }) before ∙ ap (λ t. record { before = d.before; after = t }) (sym e)

loaded-back : (limits : Limits) (lines : List Split) → AllByRecursion (IsKept limits) lines
    → map loaded_line (filter (has_room limits) (map (line_read limits.multiline) (map (kept_text limits) lines ++ [] ∷ []))) ≡ lines
loaded-back limits [] h = rw (nothing-read limits.multiline) refl
loaded-back limits (d ∷ lines) h =
    let held = h.0.0 in
    let text : line_read limits.multiline (kept_text limits d) ≡ line_text d = read-saved limits.multiline (line_text d) held.0 in
    let room : has_room limits (line_text d) ≡ true = room_for limits (line_text d) h.0.1 held.1 in
    let rest = map loaded_line (filter (has_room limits) (map (line_read limits.multiline) (map (kept_text limits) lines ++ [] ∷ []))) in
    let first : (t : List ℕ) → t ≡ line_text d → map loaded_line (filter (has_room limits) (t ∷ map (line_read limits.multiline) (map (kept_text limits) lines ++ [] ∷ []))) ≡ loaded_line (line_text d) ∷ rest =
    λ t e. subst (λ x. map loaded_line (filter (has_room limits) (x ∷ map (line_read limits.multiline) (map (kept_text limits) lines ++ [] ∷ []))) ≡ loaded_line (line_text d) ∷ rest) (sym e) (rw room refl) in
    first (line_read limits.multiline (kept_text limits d)) text ∙ ap (λ x. x ∷ rest) (ended-text d h.0.2) ∙ ap (λ t. d ∷ t) (loaded-back limits lines h.1)

pub loads_saved : (w : EditorState) → LoadsSaved w
loads_saved w h =
    let oldest = reverse w.history in
    let all = all-reverse (IsKept w.limits) w.history h.history in
    ap (λ t. take w.limits.lines (reverse (map loaded_line (filter (has_room w.limits) (map (line_read w.limits.multiline) t))))) (lines_of-saved w.limits oldest all)
    ∙ ap (λ t. take w.limits.lines (reverse t)) (loaded-back w.limits oldest all)
    ∙ ap (take w.limits.lines) (reverse-reverse w.history)
    ∙ take_all w.limits.lines w.history h.lines
