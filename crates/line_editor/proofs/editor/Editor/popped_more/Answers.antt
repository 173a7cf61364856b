use Rattle.std.proofs.Common.{◌-◌, ◌∙◌, length, ap, sym}
use Rattle.line_editor.specs.Bounds.{popped_more, size}
use Rattle.line_editor.specs.Kills.{kill_at}
use Rattle.line_editor.specs.States.{EditorState, next_yank, yanked}
use Rattle.line_editor.proofs.Sizing.{length-size}
use Rattle.line_editor.proofs.editor.Editor.popped_more.Goals as goal

pub returns-in-Some : goal.returns-in-Some
returns-in-Some g c =
    let v = c.args.self.now in
    let kill = c.kill_at-next.ensures.text ∙ ap (λ (w : EditorState). kill_at w.kills c.next_yank.result) c.self.view_is ∙ ap (kill_at v.kills) c.next_yank.ensures in
    let next = length-size c.kill_at-next.result.now _ c.kill_at-next.utf8 kill in
    let old = length-size c.yanked.result.now (yanked v) c.yanked.utf8 c.yanked.ensures.text in
    c.saturating_sub.ensures ∙ ap (λ n. n - length c.yanked.result.now) next ∙ ap (λ n. size (kill_at v.kills (next_yank v)) - n) old ∙ sym (ap (λ o. popped_more o v) c.in-Some.ensures.2)
