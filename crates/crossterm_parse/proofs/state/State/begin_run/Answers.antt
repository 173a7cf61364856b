use Rattle.std.proofs.Common.{◌+◌, ◌-◌, refl, drop, take, length}
use Rattle.crossterm_parse.specs.Putting.{PutsOn, bare}
use Rattle.crossterm_parse.proofs.RunLaws.{on_after, opened_on}
use Rattle.crossterm_parse.proofs.TakingLaws.{opened_outside, through_join, through_none}
use Rattle.crossterm_parse.proofs.state.State.begin_run.Goals as goal

pub returns-clause-puts : goal.returns-clause-puts
returns-clause-puts g c =
    let bytes = c.args.bytes.now in
    let count = c.give_whole-count.result in
    let rest = take (length bytes - count) (drop count bytes) in
    let s = c.args.self.now in
    let t = c.open.new.self in
    let out = c.give_whole-count.new.outlet in
    through_join g.O.Outlet.given (λ old new. PutsOn c.args.raw old new (take count bytes)) (λ old new. PutsOn c.args.raw old new (take c.open.result rest))
    (λ old new. PutsOn c.args.raw old new (take (count + c.open.result) bytes)) s s t c.args.outlet.now out out g.met.O.Outlet.given_on
    (λ old mid new all on. on_after c.args.raw old mid new bytes count c.open.result all on) c.give_whole-count.ensures.puts
    (through_none g.O.Outlet.given (λ old new. PutsOn c.args.raw old new (take c.open.result rest)) s t out out (g.met.O.Outlet.given_none out)
    (λ w. opened_on c.args.raw c.open.result (bare s w) (bare t w) rest c.requires c.open.ensures.none c.open.ensures.opens refl refl))

pub returns-clause-outside : goal.returns-clause-outside
returns-clause-outside g c =
    let bytes = c.args.bytes.now in
    let count = c.give_whole-count.result in
    opened_outside c.open.result c.args.self.now c.open.new.self (take (length bytes - count) (drop count bytes)) c.open.ensures.none c.open.ensures.opens
