use Rattle.std.proofs.Common.{◌≡◌, Bor, List, ℕ, chars, ap, ◌∙◌}
use Rattle.crossterm_style.specs.declared.styled_content.StyledContent.{StyledContent}
use Rattle.prompt.specs.Drawing.{column_behind}
use Rattle.prompt.specs.Pictures.{printed_from}
use Rattle.prompt.proofs.Pictures.{parts_behind, parts_printed}
use Rattle.prompt.proofs.filling.print_runs.Goals as goal

pub loop-part-preserved : goal.loop-part-preserved
loop-part-preserved c =
    let is = c.loop-part.invariant in
    let width = c.args.buffer.now.width in
    let p = c.loop-part.buffer in
    let column = c.loop-part.column in
    let text : c.content.result.now ≡ _ = c.content.ensures ∙ ap (λ (x : StyledContent (Bor (List ℕ))). x.content) c.part-item.is in
    let style : c.style.result.now ≡ _ = c.style.ensures ∙ ap (λ (x : StyledContent (Bor (List ℕ))). x.style) c.part-item.is in
    let made = c.in_ok-column-2.ensures.shown ∙ ap (λ (t : Bor (List ℕ)). printed_from p column t.now c.style.result.now) text ∙ ap (printed_from p column _) style in
    let behind = c.in_ok-column-2.ensures.behind ∙ ap (λ w. column_behind w column (chars c.content.result.now.now)) is.width ∙ ap (λ (t : Bor (List ℕ)). column_behind width column (chars t.now)) text in
    record {
      width = c.in_ok-column-2.ensures.width ∙ is.width;
      shown = is.shown ∙ parts_printed width c.args.parts.now c.loop-part.part-index _ c.loop-part-test.true p column _ _ made behind;
      behind = is.behind ∙ parts_behind width c.args.parts.now c.loop-part.part-index _ c.loop-part-test.true p column _ behind;
    }
