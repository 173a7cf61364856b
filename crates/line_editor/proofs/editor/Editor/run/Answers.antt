use Rattle.std.proofs.Common.{◌≡◌, ◌∙◌, ◌+◌, List, [], ◌∷◌, ◌++◌, sym, ap, take, drop, get_or, subst, append_assoc}
use Rattle.std.proofs.lemmas.List.{take-append-drop, take_all, take_more}
use Rattle.line_editor.specs.declared.actions.Action.{Action}
use Rattle.line_editor.specs.declared.actions.Action.TheVariants.{Insert}
use Rattle.line_editor.specs.declared.fault.EditFault.{EditFault}
use Rattle.line_editor.specs.Bounds.{AreAllowed, StopsAt, refusal_of, more_by}
use Rattle.line_editor.specs.States.{EditorState, after, run_actions}
use Rattle.line_editor.proofs.Running.{allowed_end, err_as, run_end}
use Rattle.line_editor.proofs.editor.Editor.run.Goals as goal

pub returns-in_err-act-clause-err : goal.returns-in_err-act-clause-err
returns-in_err-act-clause-err g c =
    let i = c.loop-action.action-index in
    let actions = c.args.actions.now in
    let a = get_or actions i (Insert 0) in
    let w = c.args.self.now in
    let v = c.act.new.self in
    let P : EditFault → Type 0 = λ fault. StopsAt fault actions w v in
    let parts : actions ≡ take i actions ++ a ∷ drop (i + 1) actions =
    sym (take-append-drop (i + 1) actions) ∙ ap (λ t. t ++ drop (i + 1) actions) (take_more actions i (Insert 0) c.loop-action-test.true)
    ∙ append_assoc (take i actions) (a ∷ []) (drop (i + 1) actions) in
    let stops : P c.in_err-act.field-0.0 = record {
      front = take i actions;
      action = a;
      left = drop (i + 1) actions;
      are = parts;
      allowed = c.loop-action.invariant.allowed;
      done = c.in_err-act.ensures.err ∙ c.loop-action.invariant.done;
      why = c.in_err-act.ensures.fault ∙ ap (λ (x : EditorState). refusal_of (more_by a x) x) (sym c.in_err-act.ensures.err);
    } in
    err_as c.from_residual.result P c.in_err-act.field-0.0 c.from_residual.ensures.1 stops

pub returns-clause-room : goal.returns-clause-room
returns-clause-room g c =
    let P : List Action → Type 0 = λ t. AreAllowed t c.args.self.now in
    subst P (take_all c.loop-action.action-index c.args.actions.now c.loop-action-test.false) c.loop-action.invariant.allowed

pub loop-action-preserved : goal.loop-action-preserved
loop-action-preserved g c =
    let i = c.loop-action.action-index in
    let actions = c.args.actions.now in
    let a = get_or actions i (Insert 0) in
    let w = c.args.self.now in
    let more = take_more actions i (Insert 0) c.loop-action-test.true in
    let P : List Action → Type 0 = λ t. AreAllowed t w in
    let Q : EditorState → Type 0 = λ v. AreAllowed (a ∷ []) v in
    record {
      allowed = subst P (sym more) (allowed_end (take i actions) a w c.loop-action.invariant.allowed (subst Q c.loop-action.invariant.done (c.in_ok-act.ensures.room, tt)).0);
      done = c.in_ok-act.ensures.ok ∙ ap (after a) c.loop-action.invariant.done ∙ sym (run_end (take i actions) a w) ∙ ap (λ t. run_actions t w) (sym more);
    }
