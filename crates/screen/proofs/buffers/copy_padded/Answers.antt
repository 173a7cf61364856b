use Rattle.std.proofs.Common.{◌≡◌, ◌++◌, ◌-◌, ◌∙◌, ap, arith, length, min, replicate, rules, take}
use Rattle.screen.specs.Cells.{blank}
use Rattle.screen.proofs.Padding.{padded_parts}
use Rattle.screen.proofs.buffers.copy_padded.Goals as goal

pub returns : goal.returns
returns c =
    let others = c.args.others.now in
    let shown = c.min-shown.result in
    let n = length c.args.cells.now in
    let front : c.copy_from_slice.new.self ≡ take shown others = search rules in
    let size : shown ≡ min (length others) n = search rules in
    let rest : length c.split_at_mut-front.result.1.now ≡ n - shown = omega (arith, c.split_at_mut-front.ensures.back_len) in
    let back : c.fill.new.cells ≡ replicate (n - shown) blank =
    c.fill.ensures ∙ ap (λ k. replicate k c.blank.result) rest ∙ ap (replicate (n - shown)) c.blank.ensures in
    ap (λ l. l ++ c.fill.new.cells) front ∙ ap (λ l. take shown others ++ l) back ∙ padded_parts n shown others size
