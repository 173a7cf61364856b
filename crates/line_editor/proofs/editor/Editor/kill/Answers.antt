use Rattle.std.proofs.Common.{◌∙◌, ◌∷◌, sym, ap, take}
use Rattle.std.specs.Str.{chars}
use Rattle.std.specs.String.{string_bytes}
use Rattle.line_editor.specs.Edits.{cut_text, erased}
use Rattle.line_editor.specs.Kills.{kept_by, kill_text, kills_before}
use Rattle.line_editor.specs.States.{EditorState}
use Rattle.line_editor.proofs.Acting.{changed_as, kill_none, kill_some}
use Rattle.line_editor.proofs.Ringing.{kept-all, kept-texts}
use Rattle.line_editor.proofs.editor.Editor.kill.Goals as goal

pub returns-then-is_nothing-clause-ok : goal.returns-then-is_nothing-clause-ok
returns-then-is_nothing-clause-ok g c =
    kill_none c.args.target c.args.self.now _ _ (ap (λ (w : EditorState). w.line) (sym c.self.view_is) ∙ sym c.line.ensures) c.cut.ensures.text c.if-is_nothing.ensures

pub invariant_of-self-2 : goal.invariant_of-self-2
invariant_of-self-2 g c =
    kept-all c.self.inside.limits.kills c.self.inside.last c.in_ok-killed.killed c.self.inside.kills.items c.keep.new.kills.items
    (c.keep.ensures ∙ ap (λ l. take c.self.inside.limits.kills (c.in_ok-killed.killed ∷ kills_before c.self.inside.last l)) c.in_ok-reserve.ensures.items)
    c.in_ok-killed.ensures.shown c.self.invariant

pub returns-clause-ok : goal.returns-clause-ok
returns-clause-ok g c =
    let some = c.if-is_nothing.ensures in
    let v = c.args.self.now in
    let line = c.line.ensures ∙ ap (λ (w : EditorState). w.line) c.self.view_is in
    let text = c.in_ok-killed.ensures.text
    ∙ ap (λ t. kill_text c.args.target t (kept_by v.last v.kills)) (sym (c.cut.ensures.text ∙ ap (cut_text c.args.target) line)) in
    let kills = kept-texts c.self.inside.limits.kills c.self.inside.last c.in_ok-killed.killed c.self.inside.kills.items c.keep.new.kills.items
    (c.keep.ensures ∙ ap (λ l. take c.self.inside.limits.kills (c.in_ok-killed.killed ∷ kills_before c.self.inside.last l)) c.in_ok-reserve.ensures.items)
    ∙ ap (λ (w : EditorState). take w.limits.kills (chars (string_bytes c.in_ok-killed.killed) ∷ kills_before w.last w.kills)) c.self.view_is
    ∙ ap (λ t. take v.limits.kills (t ∷ kills_before v.last v.kills)) text in
    kill_some c.args.target v _ _ (ap (λ (w : EditorState). w.line) (sym c.self.view_is) ∙ sym c.line.ensures) c.cut.ensures.text some.0 some.1 some.2 _
    (ap (erased c.args.target) (sym c.line.ensures)) _ _ kills (changed_as _ _ c.self.view_is _ _ c.in_ok-erase.ensures.ok)
