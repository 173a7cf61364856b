use Rattle.std.proofs.Common.{refl, take}
use Rattle.crossterm_parse.specs.Putting.{PutsOn, bare}
use Rattle.crossterm_parse.proofs.RunLaws.{all_on, opens_puts}
use Rattle.crossterm_parse.proofs.TakingLaws.{opens_outside, through_none}
use Rattle.crossterm_parse.proofs.state.State.run.Goals as goal

pub returns-in-Numbered-clause-puts : goal.returns-in-Numbered-clause-puts
returns-in-Numbered-clause-puts g c =
    let s = c.args.self.now in
    let t = c.put_numbers.new.self in
    let bytes = take c.put_numbers.result c.args.bytes.now in
    through_none g.O.Outlet.given (λ old new. PutsOn c.args.raw old new bytes) s t c.args.outlet.now c.args.outlet.now (g.met.O.Outlet.given_none c.args.outlet.now)
    (λ w. all_on c.args.raw bytes (bare s w) (bare t w) (opens_puts bytes (bare s w) (bare t w) c.put_numbers.ensures.opens refl refl))

pub returns-in-Numbered-clause-outside : goal.returns-in-Numbered-clause-outside
returns-in-Numbered-clause-outside g c = opens_outside (take c.put_numbers.result c.args.bytes.now) c.args.self.now c.put_numbers.new.self c.requires c.put_numbers.ensures.opens
