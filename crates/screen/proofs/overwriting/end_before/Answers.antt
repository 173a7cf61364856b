use Rattle.std.proofs.Common.{rules, ◌≡◌, ◌+◌, ◌-◌, ◌++◌, ◌<◌, true, false, cond, get_or, length, set, take, drop, arith, sym, ap, ◌∙◌}
use Rattle.std.proofs.lemmas.List.{set-get_or}
use Rattle.screen.specs.Cells.{is_wide}
use Rattle.screen.specs.Overwriting.{emptied, ended, without_second}
use Rattle.screen.proofs.Halves.{ended_at}
use Rattle.screen.proofs.overwriting.end_before.Goals as goal

pub returns-then-is_wide : goal.returns-then-is_wide
returns-then-is_wide c =
    let cells = c.args.cells.now in
    let last = c.args.at - 1 in
    let old = c.index-cells-at.result in
    let more : last + 1 ≡ c.args.at = omega (arith, c.if-at-eq0.false) in
    let lt : last < length cells = omega (arith, more, c.requires) in
    let is : get_or cells last old ≡ old = search rules in
    let first : is_wide old ≡ true = search rules in
    let empty : c.emptied.result ≡ without_second old = c.emptied.ensures ∙ sym (ap (λ b. cond b (emptied old) old) first) in
    ap (set cells last) empty ∙ sym (ended_at cells last old lt is) ∙ ap (λ n. ended (take n cells) ++ drop n cells) more

pub returns-else-is_wide : goal.returns-else-is_wide
returns-else-is_wide c =
    let cells = c.args.cells.now in
    let last = c.args.at - 1 in
    let old = c.index-cells-at.result in
    let more : last + 1 ≡ c.args.at = omega (arith, c.if-at-eq0.false) in
    let lt : last < length cells = omega (arith, more, c.requires) in
    let is : get_or cells last old ≡ old = search rules in
    let first : is_wide old ≡ false = search rules in
    let same : old ≡ without_second old = sym (ap (λ b. cond b (emptied old) old) first) in
    sym (set-get_or cells last old) ∙ ap (set cells last) (is ∙ same) ∙ sym (ended_at cells last old lt is) ∙ ap (λ n. ended (take n cells) ++ drop n cells) more
