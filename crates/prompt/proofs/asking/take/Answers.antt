use Rattle.std.proofs.Common.{ap, subst, sym, ◌∙◌}
use Rattle.crossterm_types.specs.Seen.{Seen, seen_event}
use Rattle.line_editor.specs.Splits.{Split}
use Rattle.prompt.specs.inside.Turning.{IsTaken}
use Rattle.prompt.proofs.Completing.{given_itself, given_text}
use Rattle.prompt.proofs.asking.take.Goals as goal

pub returns-in-Some : goal.returns-in-Some
returns-in-Some g c =
    let given = given_text (g.H.Helper.completes c.args.helper.now) c.args.editor.now (seen_event c.args.event.now) c.before-2.result.now c.after.result.now c.in-Some.text.now
    c.before-2.utf8 c.after.utf8 (c.before-2.ensures.text ∙ ap (λ (l : Split). l.before) c.line.ensures) (c.after.ensures ∙ ap (λ (l : Split). l.after) c.line-2.ensures)
    c.in-Some.ensures (sym c.is_tab.ensures ∙ c.if-not-is_tab.false) in
    subst (λ (e : Seen). IsTaken c.take_text.result e c.args.editor.now c.take_text.new.editor) (sym given) c.take_text.ensures

pub returns-in-None : goal.returns-in-None
returns-in-None g c =
    let given = given_itself (g.H.Helper.completes c.args.helper.now) c.args.editor.now (seen_event c.args.event.now) c.before-2.result.now c.after.result.now
    c.before-2.utf8 c.after.utf8 (c.before-2.ensures.text ∙ ap (λ (l : Split). l.before) c.line.ensures) (c.after.ensures ∙ ap (λ (l : Split). l.after) c.line-2.ensures)
    c.in-None.ensures in
    subst (λ (e : Seen). IsTaken c.take_event-in-None.result e c.args.editor.now c.take_event-in-None.new.editor) (sym given) c.take_event-in-None.ensures
