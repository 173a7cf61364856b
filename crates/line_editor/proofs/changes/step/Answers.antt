use Rattle.std.proofs.Common.{◌∙◌, ◌∷◌, ap, sym}
use Rattle.line_editor.proofs.Changing.{first_item, fit-done, lines-done}
use Rattle.line_editor.proofs.changes.step.Goals as goal

pub returns-clause-changes : goal.returns-clause-changes
returns-clause-changes g c =
    let items = c.args.changes.now.items in
    let x = c.in-Some.change.now in
    let parts = first_item items x c.in-Some.ensures.item.3.0 c.in-Some.ensures.item.1 ∙ ap (λ t. x ∷ t) (sym c.pop_front.ensures.rest) in
    lines-done _ items c.pop_front.new.self.items x _ parts c.requires.changes c.in_ok-back-in-Some.ensures.ok

pub returns-clause-fit : goal.returns-clause-fit
returns-clause-fit g c =
    let items = c.args.changes.now.items in
    let x = c.in-Some.change.now in
    let parts = first_item items x c.in-Some.ensures.item.3.0 c.in-Some.ensures.item.1 ∙ ap (λ t. x ∷ t) (sym c.pop_front.ensures.rest) in
    fit-done _ items c.pop_front.new.self.items x _ parts c.requires.changes c.in_ok-back-in-Some.ensures.ok
