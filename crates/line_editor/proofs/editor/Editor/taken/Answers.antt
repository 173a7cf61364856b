use Rattle.std.proofs.Common.{refl, ap, ◌∙◌, true}
use Rattle.std.proofs.lemmas.Str.{chars-nil}
use Rattle.line_editor.specs.States.{EditorState, taken}
use Rattle.line_editor.proofs.Showing.{shown-nothing}
use Rattle.line_editor.proofs.Wording.{taken-none}
use Rattle.line_editor.proofs.editor.Editor.taken.Goals as goal

pub returns-in-Other : goal.returns-in-Other
returns-in-Other g c = record {
  text = chars-nil ∙ taken-none c.self.inside.last _ c.in-Other.is ∙ ap (λ (w : EditorState). taken w) c.self.view_is;
  shown = shown-nothing true _ refl;
}
