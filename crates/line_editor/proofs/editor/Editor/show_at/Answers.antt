use Rattle.line_editor.proofs.Leaving.{shown_elsewhere}
use Rattle.line_editor.proofs.editor.Editor.show_at.Goals as goal

pub returns-clause-ok : goal.returns-clause-ok
returns-clause-ok g c =
    shown_elsewhere _ _ c.self.view_is c.args.place c.args.line _ _ _ _ _ _ c.if-place-self.false
    c.in_ok-reserve.ensures.items c.in_ok-next.ensures.draft c.in_ok-next.ensures.ok c.replace-draft.ensures.after c.replace-draft.ensures.value c.push_front_reserved.ensures.items
