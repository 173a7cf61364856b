use Rattle.std.proofs.Common.{◌+◌, ◌-◌, drop, length, subst, sym, take}
use Rattle.crossterm_parse.specs.Transitions.{Opens}
use Rattle.crossterm_parse.specs.declared.paste.Opening.{Opening}
use Rattle.crossterm_parse.specs.declared.paste.Opening.TheVariants as opening
use Rattle.crossterm_parse.specs.declared.state.State.TheVariants.{Numbered}
use Rattle.crossterm_parse.proofs.RunLaws.{opens_on}
use Rattle.crossterm_parse.proofs.state.read_more_numbers.Goals as goal

pub returns-in-Not-clause-opens : goal.returns-in-Not-clause-opens
returns-in-Not-clause-opens c =
    let idle = c.read_idle-count in
    let few = c.read_few_numbers in
    let new = Numbered few.new.parameters few.new.opening in
    let all = c.args.bytes.now in
    let rest = take few.result (take (length all - idle.result) (drop idle.result all)) in
    let bytes = take (idle.result + few.result) c.args.bytes.now in
    subst (λ (o : Opening). Opens (Numbered c.args.parameters.now o) new bytes) (sym c.in-Not.is)
    (opens_on (Numbered c.args.parameters.now opening.Not) (Numbered idle.new.self opening.Not) new c.args.bytes.now idle.result few.result idle.ensures.numbered
    (subst (λ (o : Opening). Opens (Numbered idle.new.self o) new rest) c.in-Not.is few.ensures.opens))
