use Rattle.std.proofs.Common.{◌≡◌, subst}
use Rattle.std.specs.Prelude.{OnOk}
use Rattle.line_editor.specs.States.{EditorState}
use Rattle.line_editor.proofs.Searching.{forward_none, forward_some}
use Rattle.line_editor.proofs.editor.Editor.search_forward.Goals as goal

pub returns-then-is_nothing-clause-ok : goal.returns-then-is_nothing-clause-ok
returns-then-is_nothing-clause-ok g c =
    let P : EditorState → Type 0 = λ w. OnOk c.newer.result (c.newer.new.self ≡ w) in
    subst P (forward_none c.args.self.now _ c.sought.ensures.text c.if-is_nothing.ensures) c.newer.ensures.ok

pub returns-clause-ok : goal.returns-clause-ok
returns-clause-ok g c =
    let some = c.if-is_nothing.ensures in
    let P : EditorState → Type 0 = λ w. OnOk c.search_newer.result (c.search_newer.new.self ≡ w) in
    subst P (forward_some c.args.self.now _ c.sought.ensures.text some.0 some.1 some.2) c.search_newer.ensures.ok
