use Rattle.std.proofs.Common.{arith}
use Rattle.line_editor.proofs.Drafting.{seen_redone}
use Rattle.line_editor.proofs.draft.Draft.redo.Goals as goal

pub returns-clause-ok : goal.returns-clause-ok
returns-clause-ok g c =
    seen_redone c.self.inside.line c.self.inside.past.items c.self.inside.undone.items c.self.inside.typing c.args.self.now c.self.view_is
    (λ none. omega (arith, none, c.count-changes.ensures, c.if-changes-eq0.false)) c.step.new.line c.step.new.others.items c.step.new.changes.items
    c.in_ok-step.ensures.line c.in_ok-step.ensures.changes c.in_ok-step.ensures.others
