use Rattle.std.proofs.Common.{◌≡◌, ◌∙◌, [], ◌∷◌, ap, sym, subst}
use Rattle.std.specs.Prelude.{Bool, IfOk, OnOk}
use Rattle.line_editor.specs.Edits.{inserted}
use Rattle.line_editor.specs.Seeking.{rings_with, sought_with}
use Rattle.line_editor.specs.Splits.{Split, line_text}
use Rattle.line_editor.specs.States.{EditorState}
use Rattle.line_editor.proofs.Looking.{more_rings, more_some}
use Rattle.line_editor.proofs.editor.Editor.seek_more.Goals as goal

pub returns-clause-ok : goal.returns-clause-ok
returns-clause-ok g c =
    let w = c.args.self.now in
    let pattern = c.in_ok-pattern.ensures ∙ ap (λ (x : EditorState). inserted (c.args.c ∷ []) x.search.pattern) c.self.view_is in
    let P : EditorState → Type 0 = λ x. OnOk c.seek_with.result (c.seek_with.new.self ≡ x) in
    subst P (ap (λ (p : Split). sought_with p w) pattern ∙ more_some w c.args.c (sym c.is_more.ensures ∙ c.if-not-is_more.false)) c.seek_with.ensures.ok

pub returns-clause-rings : goal.returns-clause-rings
returns-clause-rings g c =
    let w = c.args.self.now in
    let pattern = c.in_ok-pattern.ensures ∙ ap (λ (x : EditorState). inserted (c.args.c ∷ []) x.search.pattern) c.self.view_is in
    let P : Bool → Type 0 = λ b. IfOk c.seek_with.result (λ rings. rings ≡ b) in
    subst P (ap (λ (p : Split). rings_with (line_text p) w) pattern ∙ more_rings w c.args.c (sym c.is_more.ensures ∙ c.if-not-is_more.false)) c.seek_with.ensures.rings
