use Rattle.std.proofs.Common.{sym, ap, ◌∙◌}
use Rattle.line_editor.specs.Rows.{row_place}
use Rattle.line_editor.specs.States.{DraftState}
use Rattle.line_editor.proofs.Drafting.{moved-AreChanges, seen_moved}
use Rattle.line_editor.proofs.Rowing.{row_same}
use Rattle.line_editor.proofs.draft.Draft.go_row.Goals as goal

pub invariant_of-self-2 : goal.invariant_of-self-2
invariant_of-self-2 g c =
    let d = c.self.inside.line in
    moved-AreChanges d c.go_row.new.self c.self.inside.past.items c.self.inside.undone.items (row_same c.args.up d _ c.if-not-go_row.ensures) c.self.inside.typing c.self.invariant

pub returns : goal.returns
returns g c =
    let d = c.self.inside.line in (
      c.go_row.new.self,
      ap (λ (x : DraftState). row_place c.args.up x.line) (sym c.self.view_is) ∙ c.if-not-go_row.ensures,
      seen_moved d c.go_row.new.self c.self.inside.past.items c.self.inside.undone.items (row_same c.args.up d _ c.if-not-go_row.ensures) c.self.inside.typing
          c.args.self.now c.self.view_is,
    )
