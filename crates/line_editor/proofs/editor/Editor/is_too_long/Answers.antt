use Rattle.std.proofs.Common.{refl}
use Rattle.line_editor.proofs.Sizing.{length-size}
use Rattle.line_editor.proofs.editor.Editor.is_too_long.Goals as goal

pub returns-in-Yank : goal.returns-in-Yank
returns-in-Yank g c =
    let len = length-size c.yanked.result.now _ c.yanked.utf8 c.yanked.ensures.text in
    rw (c.in-Yank.is, len, c.room-in-Yank.ensures) refl
