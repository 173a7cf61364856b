use Rattle.std.proofs.Common.{◌≡◌, ◌*◌, ◌/◌, ◌%◌, ◌<◌, ◌≤◌, nat_le, get_or, length, refl, subst, ap, sym, ◌∙◌, arith}
use Rattle.screen.specs.Areas.{styled, styled_from}
use Rattle.screen.proofs.Styling.{bottom, styled_end, styled_inside, styled_more, styled_start}
use Rattle.screen.proofs.areas.style_cells.Goals as goal

pub loop-at-init : goal.loop-at-init
loop-at-init c = styled_start c.from-width.result c.args.area.now c.args.style.now c.args.cells.now (c.from.result * c.from-width.result) (ap (λ n. n * c.from-width.result) c.from.ensures)

pub bounds-cells-at-in-loop-at : goal.bounds-cells-at-in-loop-at
bounds-cells-at-in-loop-at c =
    let w = c.from-width.result in
    let h = c.args.size.1 in
    let whole : length c.args.cells.now ≡ w * h = c.requires ∙ ap (λ n. n * h) (sym c.from-width.ensures) in
    let lt : c.loop-at.at < bottom h c.args.area.now * w = subst (λ n. c.loop-at.at < n * w) c.bottom.ensures c.loop-at-test.true in
    styled_inside w h c.args.area.now c.args.cells.now c.loop-at.cells c.loop-at.at whole c.loop-at.auto.cells lt

pub loop-at-preserved : goal.loop-at-preserved
loop-at-preserved c =
    let w = c.from-width.result in
    let h = c.args.size.1 in
    let whole : length c.args.cells.now ≡ w * h = c.requires ∙ ap (λ n. n * h) (sym c.from-width.ensures) in
    let lt : c.loop-at.at < bottom h c.args.area.now * w = subst (λ n. c.loop-at.at < n * w) c.bottom.ensures c.loop-at-test.true in
    let inside = styled_inside w h c.args.area.now c.args.cells.now c.loop-at.cells c.loop-at.at whole c.loop-at.auto.cells lt in
    styled_more w c.args.area.now c.args.style.now c.args.cells.now c.loop-at.cells c.loop-at.at _ c.styled.result (omega (arith, inside, c.loop-at.auto.cells)) (c.styled.ensures ∙ ap (λ s. styled c.args.area.now s (c.loop-at.at % w) (c.loop-at.at / w) (get_or c.loop-at.cells c.loop-at.at c.index-cells-at.result)) c.new-style.ensures) c.loop-at.invariant

pub returns : goal.returns
returns c =
    let w = c.from-width.result in
    let h = c.args.size.1 in
    let whole : length c.args.cells.now ≡ w * h = c.requires ∙ ap (λ n. n * h) (sym c.from-width.ensures) in
    let le : bottom h c.args.area.now * w ≤ c.loop-at.at = subst (λ n. n * w ≤ c.loop-at.at) c.bottom.ensures (omega (arith, c.loop-at-test.false)) in
    styled_end (nat_le c.loop-at.at (length c.args.cells.now)) w h c.args.area.now c.args.style.now c.args.cells.now c.loop-at.cells c.loop-at.at refl whole le c.loop-at.invariant
    ∙ ap (λ n. styled_from n c.args.area.now c.args.style.now 0 c.args.cells.now) c.from-width.ensures
