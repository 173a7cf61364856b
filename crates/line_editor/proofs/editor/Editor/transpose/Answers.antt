use Rattle.std.proofs.Common.{◌∙◌, sym, ap}
use Rattle.line_editor.specs.Edits.{transposed}
use Rattle.line_editor.specs.States.{EditorState}
use Rattle.line_editor.proofs.Acting.{changed_as, transpose_none, transpose_some}
use Rattle.line_editor.proofs.editor.Editor.transpose.Goals as goal

pub returns-then-not-has_two-clause-ok : goal.returns-then-not-has_two-clause-ok
returns-then-not-has_two-clause-ok g c = transpose_none c.args.self.now c.line.result.now (ap (λ (w : EditorState). w.line) (sym c.self.view_is) ∙ sym c.line.ensures) c.if-not-has_two.ensures

pub returns-clause-ok : goal.returns-clause-ok
returns-clause-ok g c =
    let some = c.if-not-has_two.ensures in
    changed_as _ _ c.self.view_is _ _ c.in_ok-exchange.ensures.ok
    ∙ transpose_some c.args.self.now c.line.result.now (ap (λ (w : EditorState). w.line) (sym c.self.view_is) ∙ sym c.line.ensures) some.0 some.1 some.2 _ (ap transposed (sym c.line.ensures))
