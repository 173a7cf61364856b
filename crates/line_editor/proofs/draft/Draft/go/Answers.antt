use Rattle.std.proofs.Common.{◌≡◌, false, ◌∙◌, ap}
use Rattle.line_editor.specs.Places.{target_place}
use Rattle.line_editor.specs.Splits.{Split, line_text}
use Rattle.line_editor.specs.States.{DraftState}
use Rattle.line_editor.proofs.Drafting.{moved-AreChanges, seen_moved}
use Rattle.line_editor.proofs.Keeping.{keeps_text}
use Rattle.line_editor.proofs.draft.Draft.go.Goals as goal

pub invariant_of-self : goal.invariant_of-self
invariant_of-self g c =
    let d = c.self.inside.line in
    moved-AreChanges d c.go.new.self c.self.inside.past.items c.self.inside.undone.items (ap line_text c.go.ensures ∙ keeps_text c.args.target d) c.self.inside.typing c.self.invariant

pub returns : goal.returns
returns g c =
    let d = c.self.inside.line in
    seen_moved d c.go.new.self c.self.inside.past.items c.self.inside.undone.items (ap line_text c.go.ensures ∙ keeps_text c.args.target d) c.self.inside.typing c.args.self.now c.self.view_is
    ∙ ap (λ (l : Split). record c.args.self.now { line = l; typing = false }) c.go.ensures
    ∙ ap (λ (x : DraftState). record c.args.self.now { line = target_place c.args.target x.line; typing = false }) c.self.view_is
