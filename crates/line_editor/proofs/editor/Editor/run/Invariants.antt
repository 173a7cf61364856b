use Rattle.std.proofs.Common.{◌≡◌, take}
use Rattle.line_editor.specs.Bounds.{AreAllowed}
use Rattle.line_editor.specs.States.{run_actions}
use Rattle.line_editor.proofs.editor.Editor.run.Given as goal

abbrev pub invariant-loop-action : goal.invariant-loop-action
invariant-loop-action g l = record {
  allowed : AreAllowed (take l.action-index l.actions) l.fn.self;
  done : l.self ≡ run_actions (take l.action-index l.actions) l.fn.self;
}
