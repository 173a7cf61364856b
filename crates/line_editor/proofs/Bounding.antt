-- An editor stays within its limits.
use Rattle.std.proofs.Common.{◌≡◌, ℕ, ◌+◌, ◌-◌, ◌<◌, ◌≤◌, true, false, List, [], ◌∷◌, ◌++◌, length, map, reverse, take, drop, refl, sym, subst, ap, ◌∙◌, inl, inr, arith, append-nil, length-drop}
use Rattle.std.proofs.lemmas.Bool.{and_parts, and_from, cases_Bool, leb-true, ltb-false, ltb-true}
use Rattle.std.proofs.lemmas.List.{reverse-append, reverse-reverse}
use Rattle.std.specs.Prelude.{Bool, Option, Some, None, IfSome, ◌&&◌, ◌==◌, suc, zero, slice_get}
use Rattle.std.specs.List.{AllByRecursion, filter}
use Rattle.std.specs.Option.{option_map}
use Rattle.std.specs.Str.{bytes_eq}
use Rattle.unicode_segmentation.proofs.TextLemmas.{encode_utf8_nonempty}
use Rattle.line_editor.specs.declared.actions.Action.{Action}
use Rattle.line_editor.specs.declared.actions.Action.TheVariants.{Insert, Go, Erase, Kill, Yank, YankPop, Transpose, Undo, Redo, Older, Newer, RowUp, RowDown, Search, SearchForward, CaseWord, TransposeWords, EraseBlanks, LastWord}
use Rattle.line_editor.specs.declared.actions.Case.{Case}
use Rattle.line_editor.specs.declared.last.Last.{Last}
use Rattle.line_editor.specs.declared.last.Last.TheVariants.{Other}
use Rattle.line_editor.specs.declared.limits.Limits.{Limits}
use Rattle.line_editor.specs.declared.places.Stop.TheVariants.{Cluster, Edge, WordEnd}
use Rattle.line_editor.specs.declared.places.Target.{Target}
use Rattle.line_editor.specs.declared.places.Target.TheVariants.{Back, Forward}
use Rattle.line_editor.specs.Bounded.{ArePlaces, AreRoomy, IsBounded, IsHeld, IsKept, IsLeft, StaysBounded, all_done, places_of}
use Rattle.line_editor.specs.Bounds.{cased_more, is_too_long, more_by, popped_more, room_of, size, taken_more}
use Rattle.line_editor.specs.Cases.{recased}
use Rattle.line_editor.specs.Edits.{cut_text, empty_line, erased, has_two_words, inserted, is_beside_blank, line_with, meeting, transposed, without_blanks, words_transposed}
use Rattle.line_editor.specs.History.{line_read, loaded_line, has_room, lines_of, loaded}
use Rattle.line_editor.specs.Kills.{kill_at}
use Rattle.line_editor.specs.Places.{target_place}
use Rattle.line_editor.specs.Seeking.{begun, brought, found_here, found_next, has_found, is_ahead, is_more, is_seeking, put_back, sought_more, sought_next, sought_on, sought_with}
use Rattle.line_editor.specs.Shown.{AreIn, comes_in, part_in, pasted_part}
use Rattle.line_editor.specs.Splits.{Split, line_text}
use Rattle.line_editor.specs.States.{by_row, row_beside, DraftState, EditorState, LeftLine, LineSearch, acted, after, before_taken, before_yank, brought_to, case_cut, changed, draft_at, draft_of, dropped, erase_blanks, erase_cut, found, found_line, found_newer, fresh, gone_to, is_empty, is_ignored, kill_cut, last_after, left_at, line_at, line_or, moved, new_draft, newer_from, next_taken, next_word, next_yank, popped_to, redo_to, remembered, rung, searched_forward, searched_to, shown_as, sought, taken, taken_to, transpose_at, transpose_words, type_char, after_typing, undo_to, with_draft, left_but, write, yanked}
use Rattle.line_editor.specs.Tasks.{Task, Acts, Pastes, Accepts, LetsGo, Loads, Seeks, SeeksMore, SeeksLess, GivesUp, Ends, Clears, Closes, Nothing, done, task_more}
use Rattle.line_editor.proofs.Counting.{IsBy, few-left, first-within, get-within, last-within, places-moved, some-both}
use Rattle.line_editor.proofs.Held.{Found, all-drop, all-get, all-take, cut-shown, end-after, found-held, last-held, held-erased, held-found, held-inserted, held-moved, held-replaced, held-same, held-transposed, yank-before}
use Rattle.line_editor.proofs.Keeping.{keeps_text}
use Rattle.line_editor.proofs.Ringing.{behind-front, kill-shown, some-weaker, with-shown}
use Rattle.line_editor.proofs.Rowing.{row_text}
use Rattle.line_editor.proofs.Showing.{shown-filter}
use Rattle.line_editor.proofs.Sizing.{size-cons}
use Rattle.line_editor.proofs.Undoing.{gone_history}
use Rattle.line_editor.proofs.Wording.{held-recased, held-unblanked, held-words, word-shown}

take-short : (n : ℕ) (lines : List Split) → length (take n lines) ≤ n
take-short zero lines = omega arith
take-short (suc n) [] = omega arith
take-short (suc n) (d ∷ lines) = omega (arith, take-short n lines)

pub size-some : (c : ℕ) (text : List ℕ) → 0 < size (c ∷ text)
size-some c text = omega (arith, size-cons c text, encode_utf8_nonempty c)

has_room_for : (text : List ℕ) (w : EditorState) → is_too_long (size text) w ≡ false → size text ≤ w.limits.bytes - size (line_text w.line)
has_room_for text w h = ltb-false (room_of w) (size text) h

held-empty : (limits : Limits) → IsHeld limits empty_line
held-empty limits = (refl, omega arith)

fresh-bounded : (limits : Limits) → IsBounded (fresh limits)
fresh-bounded limits = record {
  line = held-empty limits;
  left = tt;
  past = tt;
  undone = tt;
  history = tt;
  kills = tt;
  pattern = held-empty limits;
  began = held-empty limits;
  lines = omega arith;
  steps = omega arith;
  places = (omega arith, refl, tt);
  others = omega arith;
  searched = omega arith;
}

-- What the last action was has no bound.
bounded-last : (w : EditorState) (last : Last) → IsBounded w → IsBounded (record w { last = last })
bounded-last w last h = record {
  line = h.line;
  left = h.left;
  past = h.past;
  undone = h.undone;
  history = h.history;
  kills = h.kills;
  pattern = h.pattern;
  began = h.began;
  lines = h.lines;
  steps = h.steps;
  places = h.places;
  others = h.others;
  searched = h.searched;
}

-- So has what is looked for, as far as it is held.
bounded-search-of : (w : EditorState) (search : LineSearch) → IsBounded w → IsHeld w.limits search.pattern → IsHeld w.limits search.line
    → search.back ≤ length w.history → IsBounded (record w { search = search })
bounded-search-of w search h k l le = record {
  line = h.line;
  left = h.left;
  past = h.past;
  undone = h.undone;
  history = h.history;
  kills = h.kills;
  pattern = k;
  began = l;
  lines = h.lines;
  steps = h.steps;
  places = h.places;
  others = h.others;
  searched = le;
}

-- A search keeps the history.
history-sought : (ahead : Bool) (o : Option ℕ) (w : EditorState) → (sought_on ahead o w).history ≡ w.history
history-sought ahead None w = refl
history-sought ahead (Some number) w =
    elim (cases_Bool (has_found w.last && w.back == number)) [
      | inl there ↦ rw there refl
      | inr new ↦ rw new (gone_history number (slice_get w.history (number - 1)) w)
    ]

limits-brought_to : (place : ℕ) (d : Split) (w : EditorState) → (brought_to place d w).limits ≡ w.limits
limits-brought_to place d w = elim (cases_Bool (place == w.back)) [ inl here ↦ rw here refl | inr other ↦ rw other refl ]

limits-gone : (place : ℕ) (o : Option Split) (w : EditorState) → (gone_to place o w).limits ≡ w.limits
limits-gone place None w = refl
limits-gone place (Some d) w = limits-brought_to place d w

limits-brought : (number : ℕ) (w : EditorState) → (brought number w).limits ≡ w.limits
limits-brought number w =
    elim (cases_Bool (has_found w.last && w.back == number)) [
      | inl there ↦ rw there refl
      | inr new ↦ rw new (limits-gone number (slice_get w.history (number - 1)) w)
    ]

limits-sought : (ahead : Bool) (o : Option ℕ) (w : EditorState) → (sought_on ahead o w).limits ≡ w.limits
limits-sought ahead None w = refl
limits-sought ahead (Some number) w = limits-brought number w

-- ---- lines that were left

abbrev AreLeft : Limits → List LeftLine → Type 0
AreLeft limits left = AllByRecursion (λ (x : LeftLine). IsLeft limits x.draft) left

module _ (limits : Limits) where
  left-shown : (d : Split) (x : DraftState) → IsHeld limits d → IsLeft limits x → IsLeft limits (shown_as limits.steps d x)
  left-shown d x k h =
      elim (cases_Bool (bytes_eq (line_text d) (line_text x.line))) [
        | inl same ↦ rw same (record { line = k; past = h.past; undone = h.undone; steps = h.steps })
        | inr other ↦ rw other (record {
          line = k;
          past = all-take limits (IsHeld limits) limits.steps (x.line ∷ x.past) (h.line, h.past);
          undone = tt;
          steps = omega (arith, take-short limits.steps (x.line ∷ x.past));
        })
      ]

  left-new : (d : Split) → IsHeld limits d → IsLeft limits (new_draft d)
  left-new d k = record { line = k; past = tt; undone = tt; steps = omega arith }

  left-draft : (place : ℕ) (d : Split) (left : List LeftLine) → IsHeld limits d → AreLeft limits left → IsLeft limits (draft_at limits.steps place d left)
  left-draft place d [] k h = left-new d k
  left-draft place d (x ∷ left) k h =
      elim (cases_Bool (x.place == place)) [
        | inl here ↦ rw here (left-shown d x.draft k h.0)
        | inr other ↦ rw other (left-draft place d left k h.1)
      ]

  left-without : (place : ℕ) (left : List LeftLine) → AreLeft limits left → AreLeft limits (left_but place left)
  left-without place [] h = tt
  left-without place (x ∷ left) h =
      elim (cases_Bool (x.place == place)) [ inl here ↦ rw here h.1 | inr other ↦ rw other (h.0, left-without place left h.1) ]

  left-held : (place : ℕ) (left : List LeftLine) → AreLeft limits left → IfSome (left_at place left) (IsHeld limits)
  left-held place [] h = tt
  left-held place (x ∷ left) h =
      elim (cases_Bool (x.place == place)) [ inl here ↦ rw here h.0.line | inr other ↦ rw other (left-held place left h.1) ]

  held-or : (d : Split) (o : Option Split) → IsHeld limits d → IfSome o (IsHeld limits) → IsHeld limits (line_or d o)
  held-or d None h k = h
  held-or d (Some e) h k = k

  held-map : (o p : Option Split) → IfSome o (IsHeld limits) → IfSome p (IsHeld limits)
      → IfSome (option_map (λ (d : Split). target_place (Forward Edge) (line_or d o)) p) (IsHeld limits)
  held-map o None h k = tt
  held-map o (Some d) h k = held-moved limits (Forward Edge) (line_or d o) (held-or d o k h)

module _ (w : EditorState) (h : IsBounded w) where
  bounded-changed : (d : Split) → IsHeld w.limits d → IsBounded (changed d w)
  bounded-changed d k = record {
    line = k;
    left = h.left;
    past = all-take w.limits (IsHeld w.limits) w.limits.steps (w.line ∷ w.past) (h.line, h.past);
    undone = tt;
    history = h.history;
    kills = h.kills;
    pattern = h.pattern;
    began = h.began;
    lines = h.lines;
    steps = omega (arith, take-short w.limits.steps (w.line ∷ w.past));
    places = h.places;
    others = h.others;
    searched = h.searched;
  }

  bounded-typed : (d : Split) → IsHeld w.limits d → IsBounded (after_typing d w)
  bounded-typed d k = record {
    line = k;
    left = h.left;
    past = elim (cases_Bool w.typing) [ inl on ↦ rw on h.past | inr off ↦ rw off (bounded-changed d k).past ];
    undone = tt;
    history = h.history;
    kills = h.kills;
    pattern = h.pattern;
    began = h.began;
    lines = h.lines;
    steps = elim (cases_Bool w.typing) [ inl on ↦ rw on (omega (arith, h.steps)) | inr off ↦ rw off (omega (arith, take-short w.limits.steps (w.line ∷ w.past))) ];
    places = h.places;
    others = h.others;
    searched = h.searched;
  }

  bounded-moved : (d : Split) → IsHeld w.limits d → IsBounded (moved d w)
  bounded-moved d k = record {
    line = k;
    left = h.left;
    past = h.past;
    undone = h.undone;
    history = h.history;
    kills = h.kills;
    pattern = h.pattern;
    began = h.began;
    lines = h.lines;
    steps = h.steps;
    places = h.places;
    others = h.others;
    searched = h.searched;
  }

  bounded-type : (c : ℕ) → is_too_long (size (part_in w.limits.multiline (c ∷ []))) w ≡ false → IsBounded (type_char c w)
  bounded-type c room =
      elim (cases_Bool (comes_in w.limits.multiline c)) [
        | inl here ↦ rw here (
            let one : part_in w.limits.multiline (c ∷ []) ≡ c ∷ [] = rw here refl in
            let P : List ℕ → Type 0 = λ t. is_too_long (size t) w ≡ false in
            bounded-typed (inserted (c ∷ []) w.line)
            (held-inserted w.limits (c ∷ []) w.line h.line (and_from _ _ here refl) (has_room_for (c ∷ []) w (subst P one room))))
        | inr not_here ↦ rw not_here h
      ]

  bounded-write : (text : List ℕ) → AreIn w.limits.multiline text → is_too_long (size text) w ≡ false → IsBounded (write text w)
  bounded-write [] k room = h
  bounded-write (c ∷ text) k room =
      bounded-changed (inserted (c ∷ text) w.line) (held-inserted w.limits (c ∷ text) w.line h.line k (has_room_for (c ∷ text) w room))

  bounded-erase : (piece : List ℕ) (target : Target) → IsBounded (erase_cut piece target w)
  bounded-erase [] target = h
  bounded-erase (c ∷ piece) target = bounded-changed (erased target w.line) (held-erased w.limits target w.line h.line)

  bounded-kill : (piece : List ℕ) (target : Target) → AreIn w.limits.multiline piece → IsBounded (kill_cut piece target w)
  bounded-kill [] target k = h
  bounded-kill (c ∷ piece) target k =
      let b = bounded-changed (erased target w.line) (held-erased w.limits target w.line h.line) in
      record {
        line = b.line;
        left = b.left;
        past = b.past;
        undone = b.undone;
        history = b.history;
        kills = with-shown w.limits.multiline w.limits.kills w.last target (c ∷ piece) w.kills k h.kills;
        pattern = b.pattern;
        began = b.began;
        lines = b.lines;
        steps = b.steps;
        places = b.places;
        others = b.others;
        searched = b.searched;
      }

  bounded-transpose : (before : List ℕ) → IsBounded (transpose_at before w)
  bounded-transpose [] = h
  bounded-transpose (c ∷ before) = bounded-changed (transposed w.line) (held-transposed w.limits w.line h.line)

  bounded-undo : (past : List Split) → AllByRecursion (IsHeld w.limits) past → length past + length w.undone ≤ w.limits.steps → IsBounded (undo_to past w)
  bounded-undo [] k le = h
  bounded-undo (d ∷ past) k le = record {
    line = k.0;
    left = h.left;
    past = k.1;
    undone = (h.line, h.undone);
    history = h.history;
    kills = h.kills;
    pattern = h.pattern;
    began = h.began;
    lines = h.lines;
    steps = omega (arith, le);
    places = h.places;
    others = h.others;
    searched = h.searched;
  }

  bounded-redo : (undone : List Split) → AllByRecursion (IsHeld w.limits) undone → length w.past + length undone ≤ w.limits.steps → IsBounded (redo_to undone w)
  bounded-redo [] k le = h
  bounded-redo (d ∷ undone) k le = record {
    line = k.0;
    left = h.left;
    past = (h.line, h.past);
    undone = k.1;
    history = h.history;
    kills = h.kills;
    pattern = h.pattern;
    began = h.began;
    lines = h.lines;
    steps = omega (arith, le);
    places = h.places;
    others = h.others;
    searched = h.searched;
  }

  bounded-popped : (o : Option (List ℕ)) → IfSome o (λ before. w.line.before ≡ reverse (yanked w) ++ before) → is_too_long (popped_more o w) w ≡ false
      → IsBounded (popped_to o w)
  bounded-popped None k room = h
  bounded-popped (Some before) k room =
      let next = kill_at w.kills (next_yank w) in
      let b = bounded-changed (line_with (record { before = before; after = [] }) next w.line)
      (held-replaced w.limits w.line before (yanked w) next h.line k (kill-shown w.limits.multiline w.kills (next_yank w) h.kills)
      (ltb-false (room_of w) (size next - size (yanked w)) room)) in
      record {
        line = b.line;
        left = b.left;
        past = b.past;
        undone = b.undone;
        history = b.history;
        kills = b.kills;
        pattern = b.pattern;
        began = b.began;
        lines = b.lines;
        steps = b.steps;
        places = b.places;
        others = b.others;
        searched = b.searched;
      }

  -- ---- history

  -- The line as it is.
  draft-left : IsLeft w.limits (draft_of w)
  draft-left = record { line = h.line; past = h.past; undone = h.undone; steps = h.steps }

  -- Another line, and others that were left.
  bounded-draft : (x : DraftState) (left : List LeftLine) (back : ℕ) → IsLeft w.limits x → AreLeft w.limits left
      → ArePlaces (length w.history) (back ∷ places_of left) → IsBounded (record (with_draft x w) { left = left; back = back })
  bounded-draft x left back k l apart = record {
    line = k.line;
    left = l;
    past = k.past;
    undone = k.undone;
    history = h.history;
    kills = h.kills;
    pattern = h.pattern;
    began = h.began;
    lines = h.lines;
    steps = k.steps;
    places = apart;
    others = few-left (length w.history) back left apart;
    searched = h.searched;
  }

  bounded-brought_to : (place : ℕ) (d : Split) → IsHeld w.limits d → place ≤ length w.history → IsBounded (brought_to place d w)
  bounded-brought_to place d k le =
      elim (cases_Bool (place == w.back)) [
        | inl here ↦ rw here (bounded-draft (shown_as w.limits.steps d (draft_of w)) w.left w.back (left-shown w.limits d (draft_of w) k draft-left) h.left h.places)
        | inr other ↦ rw other (bounded-draft (draft_at w.limits.steps place d w.left) (record { place = w.back; draft = draft_of w } ∷ left_but place w.left) place
            (left-draft w.limits place d w.left k h.left) (draft-left, left-without w.limits place w.left h.left)
            (places-moved (length w.history) w.back place w.left le other h.places))
      ]

  -- A line that is held, at a place of the history.
  abbrev HasPlace : ℕ → Split → Type 0
  HasPlace place d = IsHeld w.limits d × (place ≤ length w.history)

  bounded-gone : (place : ℕ) (o : Option Split) → IfSome o (HasPlace place) → IsBounded (gone_to place o w)
  bounded-gone place None k = h
  bounded-gone place (Some d) k = bounded-brought_to place d k.0 k.1

  within-map : (f : Split → Split) (place : ℕ) (o : Option Split) → IfSome o (λ _. place ≤ length w.history) → IfSome (option_map f o) (λ _. place ≤ length w.history)
  within-map f place None k = k
  within-map f place (Some d) k = k

  line_at-held : (place : ℕ) → IfSome (line_at place w) (HasPlace place)
  line_at-held zero = (held-or w.limits empty_line (left_at 0 w.left) (held-empty w.limits) (left-held w.limits 0 w.left h.left), omega arith)
  line_at-held (suc at) =
      some-both (IsHeld w.limits) (λ _. suc at ≤ length w.history) (line_at (suc at) w)
      (held-map w.limits (left_at (suc at) w.left) (slice_get w.history at) (left-held w.limits (suc at) w.left h.left) (all-get w.limits w.history at h.history))
      (within-map (λ (d : Split). target_place (Forward Edge) (line_or d (left_at (suc at) w.left))) (suc at) (slice_get w.history at)
      (some-weaker (λ _. at < length w.history) (λ _. suc at ≤ length w.history) (slice_get w.history at) (λ d lt. omega (arith, lt)) (get-within w.history at)))

  number-held : (number : ℕ) → IfSome (slice_get w.history (number - 1)) (HasPlace number)
  number-held number =
      some-both (IsHeld w.limits) (λ _. number ≤ length w.history) (slice_get w.history (number - 1)) (all-get w.limits w.history (number - 1) h.history)
      (some-weaker (λ _. number - 1 < length w.history) (λ _. number ≤ length w.history) (slice_get w.history (number - 1)) (λ d lt. omega (arith, lt)) (get-within w.history (number - 1)))

  bounded-newer_from : (back : ℕ) → IsBounded (newer_from back w)
  bounded-newer_from zero = h
  bounded-newer_from (suc back) = bounded-gone back (line_at back w) (line_at-held back)

  bounded-search : (o : Option (ℕ × List ℕ)) → IfSome o (Found w.limits (sought w)) → IsBy (length w.history) o → IsBounded (searched_to o w)
  bounded-search None k le = h
  bounded-search (Some found) k le =
      bounded-brought_to found.0 (found_line (sought w) found.1) (held-found w.limits (sought w) found.1 k) le

  bounded-forward : (front : List ℕ) → IsBounded (searched_forward front w)
  bounded-forward [] = bounded-newer_from w.back
  bounded-forward (c ∷ front) =
      bounded-search (found_newer w) (last-held w.limits (sought w) (line_text w.line) (w.back - 1) w.history h.history)
      (last-within (sought w) (line_text w.line) (length w.history) (w.back - 1) w.history (omega (arith, h.places.0)))

  -- ---- words

  bounded-case : (case : Case) (text : List ℕ) → is_too_long (cased_more case (cut_text (Forward WordEnd) w.line)) w ≡ false → IsBounded (case_cut case text w)
  bounded-case case [] room = h
  bounded-case case (c ∷ text) room =
      bounded-changed (recased case w.line) (held-recased w.limits case w.line h.line (ltb-false (room_of w) (cased_more case (cut_text (Forward WordEnd) w.line)) room))

  bounded-words : IsBounded (transpose_words w)
  bounded-words =
      elim (cases_Bool (has_two_words w.line)) [
        | inl two ↦ rw two (bounded-changed (words_transposed w.line) (held-words w.limits w.line h.line two))
        | inr none ↦ rw none h
      ]

  bounded-blanks : IsBounded (erase_blanks w)
  bounded-blanks =
      elim (cases_Bool (is_beside_blank w.line)) [
        | inl some ↦ rw some (bounded-changed (without_blanks w.line) (held-unblanked w.limits w.line h.line))
        | inr none ↦ rw none h
      ]

  bounded-taken : (o : Option (List ℕ)) → IfSome o (λ before. w.line.before ≡ reverse (taken w) ++ before) → is_too_long (taken_more o w) w ≡ false
      → IsBounded (taken_to o w)
  bounded-taken None k room = h
  bounded-taken (Some before) k room =
      elim (cases_Bool (is_empty (taken w) && is_empty (next_word w))) [
        | inl none ↦ rw none h
        | inr some ↦ rw some (
            bounded-changed (line_with (record { before = before; after = [] }) (next_word w) w.line)
            (held-replaced w.limits w.line before (taken w) (next_word w) h.line k (word-shown w.limits w.history (next_taken w) h.history)
            (ltb-false (room_of w) (size (next_word w) - size (taken w)) room)))
      ]

  beside_text : (up : Bool) → IfSome (row_beside up w) (λ d. line_text d ≡ line_text w.line)
  beside_text up = elim (cases_Bool w.limits.multiline) [ inl several ↦ rw several (row_text up w.line) | inr one ↦ rw one tt ]

  bounded-row : (place : Option Split) (other : EditorState) → IfSome place (λ d. line_text d ≡ line_text w.line) → IsBounded other → IsBounded (by_row place other w)
  bounded-row None other text k = k
  bounded-row (Some d) other text k = bounded-moved d (held-same w.limits (line_text d) (line_text w.line) text h.line)

  bounded-acted : (action : Action) → is_too_long (more_by action w) w ≡ false → IsBounded (acted action w)
  bounded-acted (Insert c) room = bounded-type c room
  bounded-acted (Go target) room = bounded-moved (target_place target w.line) (held-moved w.limits target w.line h.line)
  bounded-acted (Erase target) room = bounded-erase (cut_text target w.line) target
  bounded-acted (Kill target) room = bounded-kill (cut_text target w.line) target (cut-shown w.limits target w.line h.line)
  bounded-acted Yank room = bounded-write (yanked w) (kill-shown w.limits.multiline w.kills w.yank_at h.kills) room
  bounded-acted YankPop room = bounded-popped (before_yank w) (yank-before w.last (yanked w) w.line.before) room
  bounded-acted Transpose room = bounded-transpose (meeting w.line.before w.line.after).before
  bounded-acted Undo room = bounded-undo w.past h.past h.steps
  bounded-acted Redo room = bounded-redo w.undone h.undone h.steps
  bounded-acted Older room = bounded-gone (w.back + 1) (line_at (w.back + 1) w) (line_at-held (w.back + 1))
  bounded-acted Newer room = bounded-newer_from w.back
  bounded-acted RowUp room =
      bounded-row (row_beside true w) (gone_to (w.back + 1) (line_at (w.back + 1) w) w) (beside_text true)
      (bounded-gone (w.back + 1) (line_at (w.back + 1) w) (line_at-held (w.back + 1)))
  bounded-acted RowDown room = bounded-row (row_beside false w) (newer_from w.back w) (beside_text false) (bounded-newer_from w.back)
  bounded-acted Search room =
      bounded-search (found w) (found-held w.limits (sought w) (line_text w.line) w.back (drop w.back w.history) (all-drop w.limits w.history w.back h.history))
      (first-within (sought w) (line_text w.line) (length w.history) w.back (drop w.back w.history) (omega (arith, h.places.0, length-drop w.back w.history)))
  bounded-acted SearchForward room = bounded-forward (sought w)
  bounded-acted (CaseWord case) room = bounded-case case (cut_text (Forward WordEnd) w.line) room
  bounded-acted TransposeWords room = bounded-words
  bounded-acted EraseBlanks room = bounded-blanks
  bounded-acted LastWord room = bounded-taken (before_taken w) (behind-front (reverse (taken w)) w.line.before) room

  bounded-after : (action : Action) → is_too_long (more_by action w) w ≡ false → IsBounded (after action w)
  bounded-after action room = bounded-last (acted action w) (last_after action w) (bounded-acted action room)

  -- ---- incremental searches

  bounded-brought : (number : ℕ) → IsBounded (brought number w)
  bounded-brought number =
      elim (cases_Bool (has_found w.last && w.back == number)) [
        | inl there ↦ rw there h
        | inr new ↦ rw new (bounded-gone number (slice_get w.history (number - 1)) (number-held number))
      ]

  bounded-sought : (ahead : Bool) (o : Option ℕ) → IsBounded (sought_on ahead o w)
  bounded-sought ahead None = bounded-last w _ h
  bounded-sought ahead (Some number) = bounded-last (brought number w) _ (bounded-brought number)

  bounded-begun : (ahead : Bool) → IsBounded (begun ahead w)
  bounded-begun ahead = bounded-last _ _ (bounded-search-of w (record { pattern = empty_line; line = w.line; back = w.back }) h (held-empty w.limits) h.line h.places.0)

  bounded-next : (ahead : Bool) → IsBounded (sought_next ahead w)
  bounded-next ahead = elim (cases_Bool (is_seeking w.last)) [ inl on ↦ rw on (bounded-sought ahead (found_next ahead w)) | inr off ↦ rw off (bounded-begun ahead) ]

  bounded-with : (pattern : Split) → IsHeld w.limits pattern → IsBounded (sought_with pattern w)
  bounded-with pattern k =
      let ahead = is_ahead w.last in
      let found = found_here (line_text pattern) ahead w in
      let same = limits-sought ahead found w in
      let P : Limits → Type 0 = λ l. IsHeld l pattern in
      let Q : Limits → Type 0 = λ l. IsHeld l w.search.line in
      bounded-search-of (sought_on ahead found w) (record w.search { pattern = pattern }) (bounded-sought ahead found) (subst P (sym same) k) (subst Q (sym same) h.began)
      (omega (arith, h.searched, ap length (history-sought ahead found w)))

  bounded-more : (c : ℕ) → IsBounded (sought_more c w)
  bounded-more c =
      elim (cases_Bool (is_more c w)) [
        | inl more ↦ rw more (
            let parts = and_parts _ _ more in
            let few = leb-true (size (line_text w.search.pattern) + size (c ∷ [])) w.limits.bytes parts.1 in
            bounded-with (inserted (c ∷ []) w.search.pattern)
            (held-inserted w.limits (c ∷ []) w.search.pattern h.pattern (and_from _ _ parts.0 refl) (omega (arith, few))))
        | inr none ↦ rw none h
      ]

  bounded-put_back : IsBounded (put_back w)
  bounded-put_back =
      elim (cases_Bool (has_found w.last)) [
        | inl found ↦ rw found (bounded-brought_to w.search.back w.search.line h.began h.searched)
        | inr none ↦ rw none h
      ]

  -- ---- lines that go

  bounded-ended : (history : List Split) → AllByRecursion (IsKept w.limits) history → length history ≤ w.limits.lines
      → IsBounded (record (dropped w) { history = history })
  bounded-ended history k le = record {
    line = held-empty w.limits;
    left = tt;
    past = tt;
    undone = tt;
    history = k;
    kills = h.kills;
    pattern = held-empty w.limits;
    began = held-empty w.limits;
    lines = le;
    steps = omega arith;
    places = (omega arith, refl, tt);
    others = omega arith;
    searched = omega arith;
  }

  -- A line that isn't empty is kept with its cursor at its end.
  kept-end : (c : ℕ) (text : List ℕ) → line_text w.line ≡ c ∷ text → IsKept w.limits (target_place (Forward Edge) w.line)
  kept-end c text e =
      let same : line_text (target_place (Forward Edge) w.line) ≡ c ∷ text = keeps_text (Forward Edge) w.line ∙ e in
      let P : List ℕ → Type 0 = λ t. 0 < size t in
      (held-moved w.limits (Forward Edge) w.line h.line, subst P (sym same) (size-some c text), end-after w.line)

  bounded-remembered : (text : List ℕ) → line_text w.line ≡ text
      → IsBounded (record (dropped w) { history = remembered w.limits w.line text w.history })
  bounded-remembered [] e = bounded-ended w.history h.history h.lines
  bounded-remembered (c ∷ text) e =
      let all = target_place (Forward Edge) w.line ∷ w.history in
      elim (cases_Bool (is_ignored w.limits (c ∷ text) w.history)) [
        | inl ignored ↦ rw ignored (bounded-ended w.history h.history h.lines)
        | inr kept ↦ rw kept (bounded-ended (take w.limits.lines all) (all-take w.limits (IsKept w.limits) w.limits.lines all (kept-end c text e, h.history))
            (take-short w.limits.lines all))
      ]

-- ---- a history that is loaded

-- A line that is loaded has the text.
text_of-ended : (text : List ℕ) → line_text (loaded_line text) ≡ text
text_of-ended text = append-nil (reverse (reverse text)) ∙ reverse-reverse text

kept-ended : (limits : Limits) (text : List ℕ) → AreIn limits.multiline text → has_room limits text ≡ true → IsKept limits (loaded_line text)
kept-ended limits text k room =
    let parts = and_parts _ _ room in
    let P : List ℕ → Type 0 = λ t. 0 < size t in (
      held-same limits (line_text (loaded_line text)) text (text_of-ended text) (k, leb-true (size text) limits.bytes parts.1),
      subst P (sym (text_of-ended text)) (ltb-true 0 (size text) parts.0),
      refl,
    )

all-append : (P : Split → Type 0) (a b : List Split) → AllByRecursion P a → AllByRecursion P b → AllByRecursion P (a ++ b)
all-append P [] b h k = k
all-append P (d ∷ a) b h k = (h.0, all-append P a b h.1 k)

pub all-reverse : (P : Split → Type 0) (lines : List Split) → AllByRecursion P lines → AllByRecursion P (reverse lines)
all-reverse P [] h = tt
all-reverse P (d ∷ lines) h =
    subst (AllByRecursion P) (sym (reverse-append (d ∷ []) lines)) (all-append P (reverse lines) (d ∷ []) (all-reverse P lines h.1) (h.0, tt))

all-loaded : (limits : Limits) (lines : List (List ℕ)) → AllByRecursion (IsKept limits) (map loaded_line (filter (has_room limits) (map (line_read limits.multiline) lines)))
all-loaded limits [] = tt
all-loaded limits (line ∷ lines) =
    elim (cases_Bool (has_room limits (line_read limits.multiline line))) [
      | inl here ↦ rw here (kept-ended limits (line_read limits.multiline line) (shown-filter limits.multiline _) here, all-loaded limits lines)
      | inr not_here ↦ rw not_here (all-loaded limits lines)
    ]

bounded-loaded : (w : EditorState) → IsBounded w → (text : List ℕ) → IsBounded (loaded text w)
bounded-loaded w h text =
    let all = reverse (map loaded_line (filter (has_room w.limits) (map (line_read w.limits.multiline) (lines_of text)))) in
    record {
      line = h.line;
      left = tt;
      past = h.past;
      undone = h.undone;
      history = all-take w.limits (IsKept w.limits) w.limits.lines all (all-reverse (IsKept w.limits) (map loaded_line (filter (has_room w.limits) (map (line_read w.limits.multiline) (lines_of text)))) (all-loaded w.limits (lines_of text)));
      kills = h.kills;
      pattern = held-empty w.limits;
      began = held-empty w.limits;
      lines = take-short w.limits.lines all;
      steps = h.steps;
      places = (omega arith, refl, tt);
      others = omega arith;
      searched = omega arith;
    }

bounded-done : (task : Task) (w : EditorState) → IsBounded w → is_too_long (task_more task w) w ≡ false → IsBounded (done task w)
bounded-done (Acts action) w h room = bounded-after w h action room
bounded-done (Pastes text) w h room = bounded-last (write (pasted_part w.limits.multiline text) w) Other (bounded-write w h (pasted_part w.limits.multiline text) (shown-filter w.limits.multiline _) room)
bounded-done Accepts w h room = bounded-remembered w h (line_text w.line) refl
bounded-done LetsGo w h room = bounded-ended w h w.history h.history h.lines
bounded-done (Loads text) w h room = bounded-loaded w h text
bounded-done (Seeks ahead) w h room = bounded-next w h ahead
bounded-done (SeeksMore c) w h room = bounded-more w h c
bounded-done SeeksLess w h room = bounded-with w h (erased (Back Cluster) w.search.pattern) (held-erased w.limits (Back Cluster) w.search.pattern h.pattern)
bounded-done GivesUp w h room = bounded-last (put_back w) (rung w.last) (bounded-put_back w h)
bounded-done Ends w h room = bounded-last w Other h
bounded-done Clears w h room = bounded-last w Other h
bounded-done Closes w h room = h
bounded-done Nothing w h room = h

bounded-all : (tasks : List Task) (w : EditorState) → IsBounded w → AreRoomy tasks w → IsBounded (all_done tasks w)
bounded-all [] w h room = h
bounded-all (task ∷ tasks) w h room = bounded-all tasks (done task w) (bounded-done task w h room.0) room.1

pub stays_bounded : (limits : Limits) (tasks : List Task) → StaysBounded limits tasks
stays_bounded limits tasks room = bounded-all tasks (fresh limits) (fresh-bounded limits) room
