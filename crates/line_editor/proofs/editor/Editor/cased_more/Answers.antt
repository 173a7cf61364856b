use Rattle.std.proofs.Common.{◌-◌, ◌∙◌, length, ap}
use Rattle.line_editor.specs.declared.places.Stop.TheVariants.{WordEnd}
use Rattle.line_editor.specs.declared.places.Target.TheVariants.{Forward}
use Rattle.line_editor.specs.Bounds.{size}
use Rattle.line_editor.specs.Cases.{cased}
use Rattle.line_editor.specs.Edits.{cut_text}
use Rattle.line_editor.specs.States.{EditorState}
use Rattle.line_editor.proofs.Sizing.{length-size}
use Rattle.line_editor.proofs.editor.Editor.cased_more.Goals as goal

pub returns : goal.returns
returns g c =
    let word = c.cut-word.ensures.text ∙ ap (cut_text (Forward WordEnd)) (c.line.ensures ∙ ap (λ (w : EditorState). w.line) c.self.view_is) in
    let len = length-size c.cut-word.result.now _ c.cut-word.utf8 word in
    c.saturating_sub.ensures ∙ ap (λ n. n - length c.cut-word.result.now) (c.cased_len.ensures ∙ ap (λ t. size (cased c.args.case t)) word)
    ∙ ap (λ n. size (cased c.args.case (cut_text (Forward WordEnd) c.args.self.now.line)) - n) len
