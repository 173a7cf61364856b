use Rattle.std.proofs.Common.{rules, ◌≡◌, ◌<◌, true, cond, get_or, length, set, sym, ap, ◌∙◌}
use Rattle.screen.specs.Cells.{is_covered}
use Rattle.screen.specs.Overwriting.{emptied, without_first}
use Rattle.screen.proofs.Halves.{begun_at}
use Rattle.screen.proofs.overwriting.begin_at.Goals as goal

pub returns-then-is_covered : goal.returns-then-is_covered
returns-then-is_covered c =
    let cells = c.args.cells.now in
    let at = c.args.at in
    let old = c.index-cells-at.result in
    let lt : at < length cells = search rules in
    let is : get_or cells at old ≡ old = search rules in
    let second : is_covered old ≡ true = search rules in
    let empty : c.emptied.result ≡ without_first old = c.emptied.ensures ∙ sym (ap (λ b. cond b (emptied old) old) second) in
    ap (set cells at) empty ∙ sym (begun_at cells at old lt is)
