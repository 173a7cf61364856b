use Rattle.std.proofs.Common.{◌∙◌, refl, sym, ap, true}
use Rattle.std.proofs.lemmas.Str.{chars-nil}
use Rattle.line_editor.specs.States.{EditorState}
use Rattle.line_editor.proofs.Searching.{sought-any}
use Rattle.line_editor.proofs.Showing.{shown-nothing}
use Rattle.line_editor.proofs.editor.Editor.sought.Goals as goal

pub returns-in-Walked-clause-text : goal.returns-in-Walked-clause-text
returns-in-Walked-clause-text g c = chars-nil ∙ sought-any c.args.self.now (ap (λ (w : EditorState). w.last) (sym c.self.view_is) ∙ c.in-Walked.is)

pub returns-in-Walked-clause-shown : goal.returns-in-Walked-clause-shown
returns-in-Walked-clause-shown g c = shown-nothing true _ refl
