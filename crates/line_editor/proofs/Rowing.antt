-- Moves from row to row.
use Rattle.std.proofs.Common.{◌≡◌, ℕ, ◌-◌, ◌≤◌, ◌==◌, Bool, true, false, List, [], ◌∷◌, ◌++◌, length, refl, sym, subst, ap, ◌∙◌, inl, inr, arith}
use Rattle.std.proofs.lemmas.Bool.{cases_Bool}
use Rattle.std.specs.Prelude.{Option, Some, None, IfSome, MatchOption, ◌||◌, nat_lt}
use Rattle.std.specs.Option.{option_map}
use Rattle.unicode_segmentation.specs.Segments.{chars_before, chars_from}
use Rattle.line_editor.specs.declared.places.Stop.TheVariants.{Cluster}
use Rattle.line_editor.specs.Edits.{IsSettled, settled}
use Rattle.line_editor.specs.Laws.{ChangesRow, has_feed, side}
use Rattle.line_editor.specs.Places.{is_between}
use Rattle.line_editor.specs.Rows.{begins_row, columns_back, ends_row, place_in_row, next_row, place_along, row_place, start_above, start_below}
use Rattle.line_editor.specs.Splits.{Split, ahead, last_stop, line_text, split_at}
use Rattle.line_editor.specs.Views.{columns_of}
use Rattle.line_editor.proofs.Keeping.{IsFrom, IsFrom-last, IsFrom-none, IsFrom-one, ahead-IsFrom, behind-IsFrom, text_of-IsFrom}
use Rattle.line_editor.proofs.Settling.{ahead-IsSettled, stops-Keeps}
use Rattle.line_editor.proofs.Stepping.{chars_before-start, chars_from-end}

-- ---- the text stays

along-IsFrom : (room : ℕ) (before after : List ℕ) → (part : List ℕ) × IsFrom (record { before = before; after = after }) (place_along room before after) part
along-IsFrom room before [] = ([], IsFrom-none _)
along-IsFrom room before (c ∷ after) =
    elim (cases_Bool (c == 10 || nat_lt room (columns_of c))) [
      | inl here ↦ rw here ([], IsFrom-none _)
      | inr not_here ↦ rw not_here (
          let rest = along-IsFrom (room - columns_of c) (c ∷ before) after in
          (c ∷ rest.0, IsFrom-one (record { before = before; after = after }) _ c rest.0 before rest.1))
    ]

ahead_text : (d : Split) → line_text (settled d) ≡ line_text d
ahead_text d = let rest = ahead-IsFrom is_between d.before d.after in text_of-IsFrom _ _ rest.0 rest.1

along_text : (room : ℕ) (d : Split) → line_text (place_along room d.before d.after) ≡ line_text d
along_text room d = let rest = along-IsFrom room d.before d.after in text_of-IsFrom _ _ rest.0 rest.1

in_row_text : (d start : Split) → line_text (place_in_row d start) ≡ line_text start
in_row_text d start = ahead_text (place_along (columns_back d.before) start.before start.after) ∙ along_text (columns_back d.before) start

above_text : (before after : List ℕ) → IfSome (start_above before after) (λ s. line_text s ≡ line_text (record { before = before; after = after }))
above_text [] after = tt
above_text (c ∷ before) after =
    let rest = behind-IsFrom begins_row before (c ∷ after) in
    let one = IsFrom-last (record { before = before; after = c ∷ after }) c [] before after (IsFrom-none _) in
    sym (text_of-IsFrom _ _ rest.0 rest.1) ∙ sym (text_of-IsFrom _ _ _ one)

below_text : (before after : List ℕ) → IfSome (start_below before after) (λ s. line_text s ≡ line_text (record { before = before; after = after }))
below_text before [] = tt
below_text before (c ∷ after) =
    text_of-IsFrom _ _ _ (IsFrom-last (record { before = before; after = c ∷ after }) c [] before after (IsFrom-none _))

some-text : (o : Option Split) (a b : List ℕ) → a ≡ b → IfSome o (λ s. line_text s ≡ a) → IfSome o (λ s. line_text s ≡ b)
some-text None a b e h = tt
some-text (Some s) a b e h = h ∙ e

next_text_of : (up : Bool) (d : Split) → IfSome (next_row up d) (λ s. line_text s ≡ line_text d)
next_text_of true d =
    let rest = behind-IsFrom begins_row d.before d.after in
    let s = last_stop begins_row d.before d.after in
    some-text (start_above s.before s.after) (line_text s) (line_text d) (sym (text_of-IsFrom _ _ rest.0 rest.1)) (above_text s.before s.after)
next_text_of false d =
    let rest = ahead-IsFrom ends_row d.before d.after in
    let e = ahead ends_row d.before d.after in
    some-text (start_below e.before e.after) (line_text e) (line_text d) (text_of-IsFrom _ _ rest.0 rest.1) (below_text e.before e.after)

row_text_of : (d : Split) (o : Option Split) → IfSome o (λ s. line_text s ≡ line_text d) → IfSome (option_map (place_in_row d) o) (λ s. line_text s ≡ line_text d)
row_text_of d None h = tt
row_text_of d (Some start) h = in_row_text d start ∙ h

pub row_text : (up : Bool) (d : Split) → IfSome (row_place up d) (λ e. line_text e ≡ line_text d)
row_text up d = row_text_of d (next_row up d) (next_text_of up d)

-- ---- the place is between clusters

settled_of : (d : Split) (o : Option Split) → IfSome (option_map (place_in_row d) o) IsSettled
settled_of d None = tt
settled_of d (Some start) =
    let p = place_along (columns_back d.before) start.before start.after in
    ahead-IsSettled is_between (stops-Keeps Cluster) p.before p.after

pub row_settled : (up : Bool) (d e : Split) → row_place up d ≡ Some e → IsSettled e
row_settled up d e found = subst (λ o. IfSome o IsSettled) found (settled_of d (next_row up d))

pub row_same : (up : Bool) (d e : Split) → row_place up d ≡ Some e → line_text e ≡ line_text d
row_same up d e found = subst (λ o. IfSome o (λ s. line_text s ≡ line_text d)) found (row_text up d)

-- ---- walks end at the ends of the text

pub columns-start : (text : List ℕ) (at : ℕ) → at ≤ 0 → columns_back (chars_before text at) ≡ 0
columns-start text at h =
    let zero : at ≡ 0 = omega arith in
    ap (λ n. columns_back (chars_before text n)) zero ∙ ap columns_back (chars_before-start text)

pub along-end : (room : ℕ) (text : List ℕ) (at : ℕ) → length text ≤ at → place_along room (chars_before text at) (chars_from text at) ≡ split_at text at
along-end room text at h = let none = chars_from-end text at h in rw none refl

pub above_none : (text : List ℕ) (at start : ℕ) → split_at text start ≡ last_stop begins_row (chars_before text at) (chars_from text at) → start ≡ 0
    → next_row true (split_at text at) ≡ None
above_none text at start e zero =
    ap (λ (s : Split). start_above s.before s.after) (sym e)
    ∙ ap (λ n. start_above (chars_before text n) (chars_from text n)) zero ∙ ap (λ t. start_above t (chars_from text 0)) (chars_before-start text)

pub below_none : (text : List ℕ) (at end : ℕ) → split_at text end ≡ ahead ends_row (chars_before text at) (chars_from text at) → length text ≤ end
    → next_row false (split_at text at) ≡ None
below_none text at end e h =
    ap (λ (s : Split). start_below s.before s.after) (sym e) ∙ ap (λ t. start_below (chars_before text end) t) (chars_from-end text end h)

-- ---- there is a row exactly if there is a line feed

above-has : (before after : List ℕ) → let s : Split = last_stop begins_row before after in
    MatchOption (start_above s.before s.after) (has_feed before ≡ false) (λ e. has_feed before ≡ true)
above-has [] after = refl
above-has (c ∷ before) after =
    elim (cases_Bool (c == 10)) [ inl feed ↦ rw feed refl | inr other ↦ rw other (above-has before (c ∷ after)) ]

below-has : (before after : List ℕ) → let s : Split = ahead ends_row before after in
    MatchOption (start_below s.before s.after) (has_feed after ≡ false) (λ e. has_feed after ≡ true)
below-has before [] = refl
below-has before (c ∷ after) =
    elim (cases_Bool (c == 10)) [ inl feed ↦ rw feed refl | inr other ↦ rw other (below-has (c ∷ before) after) ]

next-has : (up : Bool) (d : Split) → MatchOption (next_row up d) (has_feed (side up d) ≡ false) (λ e. has_feed (side up d) ≡ true)
next-has true d = above-has d.before d.after
next-has false d = below-has d.before d.after

both : (d : Split) (text : List ℕ) (o : Option Split) → MatchOption o (has_feed text ≡ false) (λ e. has_feed text ≡ true)
    → IfSome (option_map (place_in_row d) o) (λ e. line_text e ≡ line_text d)
    → MatchOption (option_map (place_in_row d) o) (has_feed text ≡ false) (λ e. (has_feed text ≡ true) × (line_text e ≡ line_text d))
both d text None h k = h
both d text (Some start) h k = (h, k)

pub changes_row : (up : Bool) (d : Split) → ChangesRow up d
changes_row up d = both d (side up d) (next_row up d) (next-has up d) (row_text up d)
