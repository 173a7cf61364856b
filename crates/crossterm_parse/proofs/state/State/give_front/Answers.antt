use Rattle.std.proofs.Common.{take}
use Rattle.crossterm_parse.specs.Putting.{PutsAll, PutsOn}
use Rattle.crossterm_parse.proofs.RunLaws.{all_on}
use Rattle.crossterm_parse.proofs.TakingLaws.{through_as}
use Rattle.crossterm_parse.proofs.state.State.give_front.Goals as goal

pub returns-in-32-to-126-clause-puts : goal.returns-in-32-to-126-clause-puts
returns-in-32-to-126-clause-puts g c =
    let s = c.args.self.now in
    let bytes = take c.give_letters.result c.args.bytes.now in
    through_as g.O.Outlet.given (λ old new. PutsAll old new bytes) (λ old new. PutsOn c.args.raw old new bytes) s s c.args.outlet.now c.give_letters.new.outlet (all_on c.args.raw bytes)
    c.give_letters.ensures.puts

pub returns-in-128-to-255-clause-puts : goal.returns-in-128-to-255-clause-puts
returns-in-128-to-255-clause-puts g c =
    let s = c.args.self.now in
    let bytes = take c.give_utf8.result c.args.bytes.now in
    through_as g.O.Outlet.given (λ old new. PutsAll old new bytes) (λ old new. PutsOn c.args.raw old new bytes) s s c.args.outlet.now c.give_utf8.new.outlet (all_on c.args.raw bytes)
    c.give_utf8.ensures.puts
