use Rattle.crossterm_types.specs.Seen.{seen}
use Rattle.test_input.proofs.PlainLaws.{given_some, given_none}
use Rattle.test_input.proofs.plain.give.Goals as goal

pub returns-in_ok-push : goal.returns-in_ok-push
returns-in_ok-push g c = given_some seen c.args.events.now.items _ c.in-Some.event _ _ c.in-Some.is c.in_ok-push.ensures.items c.in_ok-event.ensures

pub returns-in_default : goal.returns-in_default
returns-in_default g c = given_none seen c.args.events.now.items _ _ c.in_default.is c.in_ok-event.ensures
