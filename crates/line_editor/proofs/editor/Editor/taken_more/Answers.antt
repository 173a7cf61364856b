use Rattle.std.proofs.Common.{◌-◌, ◌∙◌, length, ap, sym}
use Rattle.line_editor.specs.Bounds.{size, taken_more}
use Rattle.line_editor.specs.States.{next_word, taken}
use Rattle.line_editor.proofs.Sizing.{length-size}
use Rattle.line_editor.proofs.editor.Editor.taken_more.Goals as goal

pub returns-in-Some : goal.returns-in-Some
returns-in-Some g c =
    let v = c.args.self.now in
    let next = length-size c.next_word-next.result.now (next_word v) c.next_word-next.utf8 c.next_word-next.ensures.text in
    let old = length-size c.taken.result.now (taken v) c.taken.utf8 c.taken.ensures.text in
    c.saturating_sub.ensures ∙ ap (λ n. n - length c.taken.result.now) next ∙ ap (λ n. size (next_word v) - n) old ∙ sym (ap (λ o. taken_more o v) c.in-Some.ensures.2)
