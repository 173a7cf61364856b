-- What can be undone.
use Rattle.std.proofs.Common.{◌≡◌, ℕ, ◌+◌, ◌≤◌, true, false, List, [], ◌∷◌, ◌++◌, length, refl, sym, ap, ◌∙◌, inl, inr, arith}
use Rattle.std.specs.Prelude.{zero, suc, Option, Some, None, ◌&&◌, ◌==◌}
use Rattle.std.proofs.lemmas.Bool.{cases_Bool, false≢true}
use Rattle.std.proofs.lemmas.List.{take_all}
use Rattle.line_editor.specs.declared.actions.Action.{Action}
use Rattle.line_editor.specs.declared.actions.Action.TheVariants.{Insert, Go, Erase, Kill, Yank, YankPop, Transpose, Undo, Redo, Older, Newer, RowUp, RowDown, Search, SearchForward, CaseWord, TransposeWords, EraseBlanks, LastWord}
use Rattle.line_editor.specs.declared.actions.Case.{Case}
use Rattle.line_editor.specs.declared.last.Last.{Last}
use Rattle.line_editor.specs.declared.last.Last.TheVariants.{Other}
use Rattle.line_editor.specs.declared.limits.Limits.{Limits}
use Rattle.line_editor.specs.declared.places.Target.{Target}
use Rattle.line_editor.specs.declared.places.Stop.TheVariants.{WordEnd}
use Rattle.line_editor.specs.declared.places.Target.TheVariants.{Forward}
use Rattle.line_editor.specs.Splits.{Split, line_text}
use Rattle.line_editor.specs.Edits.{cut_text, has_two_words, is_beside_blank, meeting}
use Rattle.line_editor.specs.Laws.{ArePlain, CanBeUndone, IsOfLine, KeepsHistory, RedoesUndone, undo_times}
use Rattle.line_editor.specs.Shown.{comes_in}
use Rattle.line_editor.specs.States.{by_row, row_beside, EditorState, acted, after, before_taken, before_yank, brought_to, case_cut, erase_blanks, erase_cut, found, found_line, found_newer, gone_to, is_empty, kill_cut, last_after, line_at, newer_from, next_word, popped_to, pushed, redo_to, run_actions, searched_forward, searched_to, sought, taken, taken_to, transpose_at, transpose_words, type_char, after_typing, undo_to, write, yanked}
use Rattle.line_editor.proofs.Keeping.{keeps_text}
use Rattle.line_editor.proofs.Wording.{blanks_history, case_history, taken_history, words_history}

-- ---- history

type_history : (c : ℕ) (w : EditorState) → (type_char c w).history ≡ w.history
type_history c w = elim (cases_Bool (comes_in w.limits.multiline c)) [ inl here ↦ rw here refl | inr not_here ↦ rw not_here refl ]

erase_history : (text : List ℕ) (target : Target) (w : EditorState) → (erase_cut text target w).history ≡ w.history
erase_history [] target w = refl
erase_history (c ∷ text) target w = refl

kill_history : (text : List ℕ) (target : Target) (w : EditorState) → (kill_cut text target w).history ≡ w.history
kill_history [] target w = refl
kill_history (c ∷ text) target w = refl

write_history : (text : List ℕ) (w : EditorState) → (write text w).history ≡ w.history
write_history [] w = refl
write_history (c ∷ text) w = refl

popped_history : (o : Option (List ℕ)) (w : EditorState) → (popped_to o w).history ≡ w.history
popped_history None w = refl
popped_history (Some before) w = refl

transpose_history : (before : List ℕ) (w : EditorState) → (transpose_at before w).history ≡ w.history
transpose_history [] w = refl
transpose_history (c ∷ before) w = refl

undo_history : (past : List Split) (w : EditorState) → (undo_to past w).history ≡ w.history
undo_history [] w = refl
undo_history (d ∷ past) w = refl

redo_history : (undone : List Split) (w : EditorState) → (redo_to undone w).history ≡ w.history
redo_history [] w = refl
redo_history (d ∷ undone) w = refl

brought_history : (place : ℕ) (d : Split) (w : EditorState) → (brought_to place d w).history ≡ w.history
brought_history place d w = elim (cases_Bool (place == w.back)) [ inl here ↦ rw here refl | inr other ↦ rw other refl ]

pub gone_history : (place : ℕ) (line : Option Split) (w : EditorState) → (gone_to place line w).history ≡ w.history
gone_history place None w = refl
gone_history place (Some d) w = brought_history place d w

newer_from_history : (back : ℕ) (w : EditorState) → (newer_from back w).history ≡ w.history
newer_from_history zero w = refl
newer_from_history (suc back) w = gone_history back (line_at back w) w

search_history : (found : Option (ℕ × List ℕ)) (w : EditorState) → (searched_to found w).history ≡ w.history
search_history None w = refl
search_history (Some found) w = brought_history found.0 (found_line (sought w) found.1) w

forward_history : (front : List ℕ) (w : EditorState) → (searched_forward front w).history ≡ w.history
forward_history [] w = newer_from_history w.back w
forward_history (c ∷ front) w = search_history (found_newer w) w

row_history : (place : Option Split) (other w : EditorState) → other.history ≡ w.history → (by_row place other w).history ≡ w.history
row_history None other w h = h
row_history (Some d) other w h = refl

pub keeps_history : (action : Action) (w : EditorState) → KeepsHistory action w
keeps_history (Insert c) w = type_history c w
keeps_history (Go target) w = refl
keeps_history (Erase target) w = erase_history (cut_text target w.line) target w
keeps_history (Kill target) w = kill_history (cut_text target w.line) target w
keeps_history Yank w = write_history (yanked w) w
keeps_history YankPop w = popped_history (before_yank w) w
keeps_history Transpose w = transpose_history (meeting w.line.before w.line.after).before w
keeps_history Undo w = undo_history w.past w
keeps_history Redo w = redo_history w.undone w
keeps_history Older w = gone_history (w.back + 1) (line_at (w.back + 1) w) w
keeps_history Newer w = newer_from_history w.back w
keeps_history RowUp w = row_history (row_beside true w) (gone_to (w.back + 1) (line_at (w.back + 1) w) w) w (gone_history (w.back + 1) (line_at (w.back + 1) w) w)
keeps_history RowDown w = row_history (row_beside false w) (newer_from w.back w) w (newer_from_history w.back w)
keeps_history Search w = search_history (found w) w
keeps_history SearchForward w = forward_history (sought w) w
keeps_history (CaseWord case) w = case_history case (cut_text (Forward WordEnd) w.line) w
keeps_history TransposeWords w = words_history w
keeps_history EraseBlanks w = blanks_history w
keeps_history LastWord w = taken_history (before_taken w) w

-- ---- undo

-- The text is one that was there, or the last of some lines that can be had again has it.
abbrev pub EndsIn : List ℕ → List Split → EditorState → Type 0
EndsIn text [] w = (line_text w.line ≡ text) × (w.typing ≡ false)
EndsIn text (d ∷ []) w = line_text d ≡ text
EndsIn text (d ∷ e ∷ extra) w = EndsIn text (e ∷ extra) w

-- The text is there again after so many undos, and what could be undone before; so many actions more have steps.
pub record Leads (text : List ℕ) (past : List Split) (n : ℕ) (w : EditorState) : Type 0 where
  pub extra : List Split
  pub lines : w.past ≡ extra ++ past
  pub ends : EndsIn text extra w
  pub room : length w.past + n ≤ w.limits.steps

-- If there are any lines, they alone matter.
ends-lines : (text : List ℕ) (x : Split) (extra : List Split) (v w : EditorState) → EndsIn text (x ∷ extra) v → EndsIn text (x ∷ extra) w
ends-lines text x [] v w h = h
ends-lines text x (y ∷ extra) v w h = ends-lines text y extra v w h

ends-cons : (text : List ℕ) (d : Split) (extra : List Split) (v w : EditorState) → d ≡ v.line → EndsIn text extra v → EndsIn text (d ∷ extra) w
ends-cons text d [] v w e h = ap line_text e ∙ h.0
ends-cons text d (x ∷ extra) v w e h = ends-lines text x extra v w h

-- The same lines, in another state with the same text.
ends-same : (text : List ℕ) (extra : List Split) (v w : EditorState) → line_text w.line ≡ line_text v.line → w.typing ≡ false → EndsIn text extra v → EndsIn text extra w
ends-same text [] v w e f h = (e ∙ h.0, f)
ends-same text (d ∷ []) v w e f h = h
ends-same text (d ∷ x ∷ extra) v w e f h = ends-same text (x ∷ extra) v w e f h

-- The same lines, if there are any.
ends-typed : (text : List ℕ) (extra : List Split) (v w : EditorState) → v.typing ≡ true → EndsIn text extra v → EndsIn text extra w
ends-typed text [] v w t h = absurd (false≢true (sym h.1 ∙ t))
ends-typed text (d ∷ []) v w t h = h
ends-typed text (d ∷ x ∷ extra) v w t h = ends-typed text (x ∷ extra) v w t h

module _ (text : List ℕ) (past : List Split) (n : ℕ) (w : EditorState) (h : Leads text past (suc n) w) where
  -- A change.
  leads-changed : (v : EditorState) → v.past ≡ pushed w → v.limits ≡ w.limits → Leads text past n v
  leads-changed v e l =
      let whole : pushed w ≡ w.line ∷ w.past = take_all w.limits.steps (w.line ∷ w.past) (omega (arith, h.room)) in
      record {
        extra = w.line ∷ h.extra;
        lines = e ∙ whole ∙ ap (λ t. w.line ∷ t) h.lines;
        ends = ends-cons text w.line h.extra w v refl h.ends;
        room = omega (arith, h.room, ap length (e ∙ whole), ap (λ (x : Limits). x.steps) l);
      }

  -- No change of the text.
  leads-same : (v : EditorState) → v.past ≡ w.past → v.limits ≡ w.limits → line_text v.line ≡ line_text w.line → v.typing ≡ false → Leads text past n v
  leads-same v e l f t = record {
    extra = h.extra;
    lines = e ∙ h.lines;
    ends = ends-same text h.extra w v f t h.ends;
    room = omega (arith, h.room, ap length e, ap (λ (x : Limits). x.steps) l);
  }

  -- No change at all.
  leads-none : Leads text past n w
  leads-none = record { extra = h.extra; lines = h.lines; ends = h.ends; room = omega (arith, h.room) }

  -- What is typed.
  leads-typed : (d : Split) → Leads text past n (after_typing d w)
  leads-typed d =
      elim (cases_Bool w.typing) [
        | inl on ↦ record {
          extra = h.extra;
          lines = (rw on refl) ∙ h.lines;
          ends = ends-typed text h.extra w (after_typing d w) on h.ends;
          room = omega (arith, h.room, ap length (still on));
        }
        | inr off ↦ leads-changed (after_typing d w) (rw off refl) refl
      ]
    where
      still : w.typing ≡ true → (after_typing d w).past ≡ w.past
      still on = rw on refl

  leads-type : (c : ℕ) → Leads text past n (type_char c w)
  leads-type c = elim (cases_Bool (comes_in w.limits.multiline c)) [ inl here ↦ rw here (leads-typed _) | inr not_here ↦ rw not_here leads-none ]

  leads-erase : (piece : List ℕ) (target : Target) → Leads text past n (erase_cut piece target w)
  leads-erase [] target = leads-none
  leads-erase (c ∷ piece) target = leads-changed _ refl refl

  leads-kill : (piece : List ℕ) (target : Target) → Leads text past n (kill_cut piece target w)
  leads-kill [] target = leads-none
  leads-kill (c ∷ piece) target = leads-changed _ refl refl

  leads-write : (piece : List ℕ) → Leads text past n (write piece w)
  leads-write [] = leads-none
  leads-write (c ∷ piece) = leads-changed _ refl refl

  leads-popped : (o : Option (List ℕ)) → Leads text past n (popped_to o w)
  leads-popped None = leads-none
  leads-popped (Some before) = leads-changed _ refl refl

  leads-transpose : (before : List ℕ) → Leads text past n (transpose_at before w)
  leads-transpose [] = leads-none
  leads-transpose (c ∷ before) = leads-changed _ refl refl

  leads-case : (case : Case) (piece : List ℕ) → Leads text past n (case_cut case piece w)
  leads-case case [] = leads-none
  leads-case case (c ∷ piece) = leads-changed _ refl refl

  leads-words : Leads text past n (transpose_words w)
  leads-words = elim (cases_Bool (has_two_words w.line)) [ inl two ↦ rw two (leads-changed _ refl refl) | inr none ↦ rw none leads-none ]

  leads-blanks : Leads text past n (erase_blanks w)
  leads-blanks = elim (cases_Bool (is_beside_blank w.line)) [ inl some ↦ rw some (leads-changed _ refl refl) | inr none ↦ rw none leads-none ]

  leads-taken : (o : Option (List ℕ)) → Leads text past n (taken_to o w)
  leads-taken None = leads-none
  leads-taken (Some before) =
      elim (cases_Bool (is_empty (taken w) && is_empty (next_word w))) [ inl none ↦ rw none leads-none | inr some ↦ rw some (leads-changed _ refl refl) ]

leads-acted : (text : List ℕ) (past : List Split) (n : ℕ) (w : EditorState) → Leads text past (suc n) w → (action : Action) → IsOfLine action
    → Leads text past n (acted action w)
leads-acted text past n w h (Insert c) f = leads-type text past n w h c
leads-acted text past n w h (Go target) f = leads-same text past n w h _ refl refl (keeps_text target w.line) refl
leads-acted text past n w h (Erase target) f = leads-erase text past n w h (cut_text target w.line) target
leads-acted text past n w h (Kill target) f = leads-kill text past n w h (cut_text target w.line) target
leads-acted text past n w h Yank f = leads-write text past n w h (yanked w)
leads-acted text past n w h YankPop f = leads-popped text past n w h (before_yank w)
leads-acted text past n w h Transpose f = leads-transpose text past n w h (meeting w.line.before w.line.after).before
leads-acted text past n w h Undo f = absurd f
leads-acted text past n w h Redo f = absurd f
leads-acted text past n w h Older f = absurd f
leads-acted text past n w h Newer f = absurd f
leads-acted text past n w h RowUp f = absurd f
leads-acted text past n w h RowDown f = absurd f
leads-acted text past n w h Search f = absurd f
leads-acted text past n w h SearchForward f = absurd f
leads-acted text past n w h (CaseWord case) f = leads-case text past n w h case (cut_text (Forward WordEnd) w.line)
leads-acted text past n w h TransposeWords f = leads-words text past n w h
leads-acted text past n w h EraseBlanks f = leads-blanks text past n w h
leads-acted text past n w h LastWord f = leads-taken text past n w h (before_taken w)

ends-last : (text : List ℕ) (extra : List Split) (w : EditorState) (last : Last) → EndsIn text extra w → EndsIn text extra (record w { last = last })
ends-last text [] w last h = h
ends-last text (d ∷ []) w last h = h
ends-last text (d ∷ x ∷ extra) w last h = ends-last text (x ∷ extra) w last h

-- What the last action was doesn't matter.
leads-last : (text : List ℕ) (past : List Split) (n : ℕ) (w : EditorState) (last : Last) → Leads text past n w → Leads text past n (record w { last = last })
leads-last text past n w last h = record { extra = h.extra; lines = h.lines; ends = ends-last text h.extra w last h.ends; room = h.room }

pub leads-after : (text : List ℕ) (past : List Split) (n : ℕ) (w : EditorState) → Leads text past (suc n) w → (action : Action) → IsOfLine action
    → Leads text past n (after action w)
leads-after text past n w h action f = leads-last text past n (acted action w) (last_after action w) (leads-acted text past n w h action f)

pub leads-run : (text : List ℕ) (past : List Split) (actions : List Action) (w : EditorState) → ArePlain actions → Leads text past (length actions) w
    → Leads text past 0 (run_actions actions w)
leads-run text past [] w f h = h
leads-run text past (a ∷ actions) w f h = leads-run text past actions (after a w) f.1 (leads-after text past (length actions) w h a f.0)

-- The editor after an undo, by the lines that can be had.
abbrev undo_once : List Split → EditorState → EditorState
undo_once past w = record (undo_to past w) { last = Other }

-- As many undos as there are lines.
undone : (text : List ℕ) (past extra : List Split) (w : EditorState) → w.past ≡ extra ++ past → EndsIn text extra w
    → (n : ℕ) × (line_text (undo_times n w).line ≡ text) × ((undo_times n w).past ≡ past)
undone text past [] w e h = (zero, h.0, e)
undone text past (d ∷ []) w e h =
    let step : after Undo w ≡ undo_once (d ∷ past) w = ap (λ t. undo_once t w) e in
    (suc zero, ap (λ (x : EditorState). line_text x.line) step ∙ h, ap (λ (x : EditorState). x.past) step)
undone text past (d ∷ x ∷ extra) w e h =
    let v = undo_once (d ∷ ((x ∷ extra) ++ past)) w in
    let step : after Undo w ≡ v = ap (λ t. undo_once t w) e in
    let rest = undone text past (x ∷ extra) v refl (ends-lines text x extra w v h) in
    (suc rest.0, ap (λ (y : EditorState). line_text (undo_times rest.0 y).line) step ∙ rest.1, ap (λ (y : EditorState). (undo_times rest.0 y).past) step ∙ rest.2)

pub can_be_undone : (actions : List Action) (w : EditorState) → CanBeUndone actions w
can_be_undone actions w plain rests enough =
    let all = leads-run (line_text w.line) w.past actions w plain (record { extra = []; lines = refl; ends = (refl, rests); room = enough }) in
    undone (line_text w.line) w.past all.extra (run_actions actions w) all.lines all.ends

pub redoes_undone : (w : EditorState) → RedoesUndone w
redoes_undone w d past e = ap (λ t. after Redo (undo_once t w)) e ∙ (record_with w d past e)
  where
    record_with : (w : EditorState) (d : Split) (past : List Split) → w.past ≡ d ∷ past → after Redo (undo_once (d ∷ past) w) ≡ record w { typing = false; last = Other }
    record_with w d past e = ap (λ t. record w { past = t; typing = false; last = Other }) (sym e)
