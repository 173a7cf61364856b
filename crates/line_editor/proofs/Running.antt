-- Actions, one after another.
use Rattle.std.proofs.Common.{◌≡◌, false, List, [], ◌∷◌, ◌++◌, refl, subst, sym}
use Rattle.std.specs.Prelude.{Result, Ok, Err, IfErr}
use Rattle.std.specs.Result.{IsErrAnd}
use Rattle.line_editor.specs.declared.actions.Action.{Action}
use Rattle.line_editor.specs.Bounds.{AreAllowed, is_too_long, more_by}
use Rattle.line_editor.specs.States.{EditorState, after, run_actions}

-- One action more.
pub run_end : (actions : List Action) (a : Action) (w : EditorState) → run_actions (actions ++ a ∷ []) w ≡ after a (run_actions actions w)
run_end [] a w = refl
run_end (b ∷ actions) a w = run_end actions a (after b w)

pub allowed_end : (actions : List Action) (a : Action) (w : EditorState) → AreAllowed actions w
    → is_too_long (more_by a (run_actions actions w)) (run_actions actions w) ≡ false → AreAllowed (actions ++ a ∷ []) w
allowed_end [] a w all last = (last, tt)
allowed_end (b ∷ actions) a w all last = (all.0, allowed_end actions a (after b w) all.1 last)

-- A fact of an error holds of the result that has it.
pub err_as : {T E : Type 0} (r : Result T E) (P : E → Type 0) (x : E) → IsErrAnd r (λ y. y ≡ x) → P x → IfErr r P
err_as (Ok a) P x h p = absurd h
err_as (Err e) P x h p = subst P (sym h) p
