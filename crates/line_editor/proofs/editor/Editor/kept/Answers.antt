use Rattle.std.proofs.Common.{◌∙◌, refl, sym, ap, true}
use Rattle.std.proofs.lemmas.Str.{chars-nil}
use Rattle.line_editor.specs.States.{EditorState}
use Rattle.line_editor.proofs.Searching.{kept-other, kept-seeking, kept-took, kept-walked, kept-yanked}
use Rattle.line_editor.proofs.Showing.{shown-nothing}
use Rattle.line_editor.proofs.editor.Editor.kept.Goals as goal

pub returns-in-Other-clause-text : goal.returns-in-Other-clause-text
returns-in-Other-clause-text g c = chars-nil ∙ kept-other c.args.self.now (ap (λ (w : EditorState). w.last) (sym c.self.view_is) ∙ c.in-Other.is)

pub returns-in-Other-clause-shown : goal.returns-in-Other-clause-shown
returns-in-Other-clause-shown g c = shown-nothing true _ refl

pub returns-in-Walked-clause-text : goal.returns-in-Walked-clause-text
returns-in-Walked-clause-text g c = chars-nil ∙ kept-walked c.args.self.now (ap (λ (w : EditorState). w.last) (sym c.self.view_is) ∙ c.in-Walked.is)

pub returns-in-Walked-clause-shown : goal.returns-in-Walked-clause-shown
returns-in-Walked-clause-shown g c = shown-nothing true _ refl

pub returns-in-Yanked-clause-text : goal.returns-in-Yanked-clause-text
returns-in-Yanked-clause-text g c = chars-nil ∙ kept-yanked c.args.self.now (ap (λ (w : EditorState). w.last) (sym c.self.view_is) ∙ c.in-Yanked.is)

pub returns-in-Yanked-clause-shown : goal.returns-in-Yanked-clause-shown
returns-in-Yanked-clause-shown g c = shown-nothing true _ refl

pub returns-in-Took-clause-text : goal.returns-in-Took-clause-text
returns-in-Took-clause-text g c = chars-nil ∙ kept-took c.args.self.now _ (ap (λ (w : EditorState). w.last) (sym c.self.view_is) ∙ c.in-Took.is)

pub returns-in-Took-clause-shown : goal.returns-in-Took-clause-shown
returns-in-Took-clause-shown g c = shown-nothing true _ refl

pub returns-in-Seeking-clause-text : goal.returns-in-Seeking-clause-text
returns-in-Seeking-clause-text g c = chars-nil ∙ kept-seeking c.args.self.now _ (ap (λ (w : EditorState). w.last) (sym c.self.view_is) ∙ c.in-Seeking.is)

pub returns-in-Seeking-clause-shown : goal.returns-in-Seeking-clause-shown
returns-in-Seeking-clause-shown g c = shown-nothing true _ refl
