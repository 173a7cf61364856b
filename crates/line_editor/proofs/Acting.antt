-- What the parts of an action come to.
use Rattle.std.proofs.Common.{◌≡◌, ℕ, true, false, List, [], ◌∷◌, Some, refl, sym, ap, ◌∙◌}
use Rattle.line_editor.specs.declared.last.Last.TheVariants.{Other}
use Rattle.line_editor.specs.declared.places.Target.{Target}
use Rattle.line_editor.specs.Splits.{Split}
use Rattle.line_editor.specs.Edits.{cut_text, empty_line, erased, inserted, line_with, meeting, transposed}
use Rattle.line_editor.specs.Kills.{kill_at, kills_with}
use Rattle.line_editor.specs.Shown.{comes_in}
use Rattle.line_editor.specs.States.{DraftState, EditorState, LeftLine, changed, before_yank, draft_changed, draft_of, erase_cut, fresh, kill_cut, next_yank, popped_to, redo_to, transpose_at, type_char, after_typing, undo_to, with_draft, write}
use Rattle.line_editor.specs.inside.Changes.{draft_redone, draft_typed, draft_undone}
use Rattle.line_editor.specs.declared.limits.Limits.{Limits}

pub fresh_of : (limits : Limits) (d : DraftState) (line pattern began : Split) (kills : List (List ℕ)) (history : List Split) (left : List LeftLine)
    → d ≡ record { line = line; past = []; undone = []; typing = false } → line ≡ empty_line → pattern ≡ empty_line → began ≡ empty_line → kills ≡ [] → history ≡ [] → left ≡ []
    → record { limits = limits; line = d.line; kills = kills; yank_at = 0; past = d.past; undone = d.undone; history = history; back = 0; left = left; search = record { pattern = pattern; line = began; back = 0 }; typing = d.typing; last = Other }
    ≡ fresh limits
fresh_of limits d line pattern began kills history left e a p q c f l = rw (e, a, p, q, c, f, l) refl

-- What an edit of the line makes of the editor.
module _ (v w : EditorState) (is : v ≡ w) (d : DraftState) where
  pub changed_as : (line : Split) → d ≡ draft_changed v.limits.steps line (draft_of v) → with_draft d v ≡ changed line w
  changed_as line e = ap (λ (x : DraftState). with_draft x v) e ∙ ap (λ (x : EditorState). changed line x) is

  pub typed_as : (edit : Split → Split) → d ≡ draft_typed v.limits.steps (edit v.line) (draft_of v) → with_draft d v ≡ after_typing (edit w.line) w
  typed_as edit e = ap (λ (x : DraftState). with_draft x v) e ∙ ap (λ (x : EditorState). after_typing (edit x.line) x) is

  undo_cases : (past : List Split) → with_draft (draft_undone past (draft_of v)) v ≡ undo_to past v
  undo_cases [] = refl
  undo_cases (l ∷ past) = refl

  redo_cases : (undone : List Split) → with_draft (draft_redone undone (draft_of v)) v ≡ redo_to undone v
  redo_cases [] = refl
  redo_cases (l ∷ undone) = refl

  pub undone_as : d ≡ draft_undone v.past (draft_of v) → with_draft d v ≡ undo_to w.past w
  undone_as e = ap (λ (x : DraftState). with_draft x v) e ∙ undo_cases v.past ∙ ap (λ (x : EditorState). undo_to x.past x) is

  pub redone_as : d ≡ draft_redone v.undone (draft_of v) → with_draft d v ≡ redo_to w.undone w
  redone_as e = ap (λ (x : DraftState). with_draft x v) e ∙ redo_cases v.undone ∙ ap (λ (x : EditorState). redo_to x.undone x) is

module _ (target : Target) (w : EditorState) (d : Split) (text : List ℕ) (same : w.line ≡ d) (e : text ≡ cut_text target d) where
  is_cut : text ≡ cut_text target w.line
  is_cut = e ∙ ap (cut_text target) (sym same)

  pub erase_none : text ≡ [] → w ≡ erase_cut (cut_text target w.line) target w
  erase_none none = sym (ap (λ t. erase_cut t target w) (sym is_cut ∙ none))

  pub kill_none : text ≡ [] → w ≡ kill_cut (cut_text target w.line) target w
  kill_none none = sym (ap (λ t. kill_cut t target w) (sym is_cut ∙ none))

  module _ (c : ℕ) (rest : List ℕ) (some : text ≡ c ∷ rest) (line : Split) (f : line ≡ erased target d) where
    pub erase_some : changed line w ≡ erase_cut (cut_text target w.line) target w
    erase_some =
        ap (λ (l : Split). changed l w) (f ∙ ap (erased target) (sym same)) ∙ sym (ap (λ t. erase_cut t target w) (sym is_cut ∙ some))

    pub kill_some : (kills : List (List ℕ)) (v : EditorState) → kills ≡ kills_with w.limits.kills w.last target text w.kills → v ≡ changed line w
        → record v { kills = kills; yank_at = 0 } ≡ kill_cut (cut_text target w.line) target w
    kill_some kills v k g =
        ap (λ (x : EditorState). record x { kills = kills; yank_at = 0 }) (g ∙ ap (λ (l : Split). changed l w) (f ∙ ap (erased target) (sym same)))
        ∙ ap (λ t. record (changed (erased target w.line) w) { kills = t; yank_at = 0 }) (k ∙ ap (λ t. kills_with w.limits.kills w.last target t w.kills) some)
        ∙ sym (ap (λ t. kill_cut t target w) (sym is_cut ∙ some))

-- A text that is to be written, as it is at hand.
module _ (w : EditorState) (d : Split) (text wanted : List ℕ) (same : w.line ≡ d) (e : text ≡ wanted) where
  pub write_none : text ≡ [] → w ≡ write wanted w
  write_none none = sym (ap (λ t. write t w) (sym e ∙ none))

  pub write_some : (c : ℕ) (rest : List ℕ) → text ≡ c ∷ rest → (line : Split) → line ≡ inserted text d → changed line w ≡ write wanted w
  write_some c rest some line f =
      ap (λ (l : Split). changed l w) (f ∙ ap (λ t. inserted t d) some ∙ ap (inserted (c ∷ rest)) (sym same)) ∙ sym (ap (λ t. write t w) (sym e ∙ some))

pub type_some : (c : ℕ) (w : EditorState) (d line : Split) (text : List ℕ) → w.line ≡ d → comes_in w.limits.multiline c ≡ true → text ≡ c ∷ [] → line ≡ inserted text d
    → after_typing line w ≡ type_char c w
type_some c w d line text same here one f =
    ap (λ (l : Split). after_typing l w) (f ∙ ap (λ t. inserted t d) one ∙ ap (inserted (c ∷ [])) (sym same)) ∙ (rw here refl)

module _ (w : EditorState) (d : Split) (same : w.line ≡ d) where
  pub transpose_none : (meeting d.before d.after).before ≡ [] → w ≡ transpose_at (meeting w.line.before w.line.after).before w
  transpose_none none = sym (ap (λ (x : Split). transpose_at (meeting x.before x.after).before w) same ∙ ap (λ t. transpose_at t w) none)

  pub transpose_some : (c : ℕ) (before : List ℕ) → (meeting d.before d.after).before ≡ c ∷ before → (line : Split) → line ≡ transposed d
      → changed line w ≡ transpose_at (meeting w.line.before w.line.after).before w
  transpose_some c before some line f =
      ap (λ (l : Split). changed l w) (f ∙ ap transposed (sym same))
      ∙ sym (ap (λ (x : Split). transpose_at (meeting x.before x.after).before w) same ∙ ap (λ t. transpose_at t w) some)

-- The next kill in place of the yanked one.
pub pop_some : (w v : EditorState) (p q : Split) (text : List ℕ) (next : ℕ) → before_yank w ≡ Some p.before → q ≡ w.line → next ≡ next_yank w
    → text ≡ kill_at w.kills next → v ≡ changed (line_with p text q) w → record v { yank_at = next } ≡ popped_to (before_yank w) w
pop_some w v p q text next before line place kill g =
    ap (λ (x : EditorState). record x { yank_at = next }) g
    ∙ ap (λ (l : Split). record (changed (line_with p text l) w) { yank_at = next }) line
    ∙ ap (λ t. record (changed (line_with p t w.line) w) { yank_at = next }) kill
    ∙ ap (λ n. record (changed (line_with p (kill_at w.kills n) w.line) w) { yank_at = n }) place
    ∙ sym (ap (λ o. popped_to o w) before)
