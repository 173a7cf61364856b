use Rattle.std.proofs.Common.{rules, ◌≡◌, ◌+◌, ◌<◌, get_or, length, set, ap, ◌∙◌}
use Rattle.screen.specs.inside.Ascii.{bare_cell}
use Rattle.screen.proofs.Ascii.{set_more}
use Rattle.screen.proofs.texts.set_ascii.Goals as goal

pub loop-k-preserved : goal.loop-k-preserved
loop-k-preserved c =
    let letters = c.args.letters.now in
    let at = c.args.at in
    let k = c.loop-k.k in
    let lt : k < length letters = search rules in
    let made : c.of.result ≡ bare_cell c.args.style (get_or letters k 0) =
    c.of.ensures ∙ ap (λ m. record { symbol = get_or letters k 0; marks = m; style = c.args.style }) c.none.ensures in
    ap (set c.loop-k.cells (at + k)) made ∙ set_more c.args.style c.args.cells.now c.loop-k.cells letters at k lt c.requires c.loop-k.invariant
