use Rattle.std.proofs.Common.{sym}
use Rattle.line_editor.proofs.Naming.{none_named}
use Rattle.line_editor.specs.Names as spec
use Rattle.line_editor.proofs.names.word_named.Goals as goal

pub returns-in_default : goal.returns-in_default
returns-in_default c =
    let d = c.in_default in
    sym (none_named spec.action_rows c.args.name.now (d.not-yank, (d.not-text, (d.not-transpose, (d.not-undo, (d.not-redo, (d.not-older, (d.not-newer, (d.not-text-2, (d.not-text-3, (d.not-search, (d.not-text-4, (d.not-text-5, (d.not-text-6, (d.not-text-7, (d.not-text-8, (d.not-text-9, (d.not-text-10, tt))))))))))))))))))
