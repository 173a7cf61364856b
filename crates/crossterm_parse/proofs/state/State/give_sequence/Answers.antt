use Rattle.std.proofs.Common.{◌+◌, ◌++◌, [], ◌∷◌, Option, map, option_to_list, subst, take}
use Rattle.crossterm_parse.specs.Meaning.{seen_meaning}
use Rattle.crossterm_parse.specs.Putting.{PutsOn, bare}
use Rattle.crossterm_parse.specs.declared.meaning.Meaning.{Meaning}
use Rattle.crossterm_parse.proofs.RunLaws.{sequence_on}
use Rattle.crossterm_parse.proofs.state.State.give_sequence.Goals as goal

pub returns-in-Some-meaning-clause-puts : goal.returns-in-Some-meaning-clause-puts
returns-in-Some-meaning-clause-puts g c = (
  c.in-Some-meaning.meaning ∷ [],
  c.give.ensures.given,
  λ w.
      let s = c.args.self.now in
      subst (λ (m : Option Meaning). PutsOn c.args.raw (bare s w) (bare s (w ++ map seen_meaning (option_to_list m))) (take (1 + c.in-Some.sequence.count) c.args.bytes.now)) c.in-Some-meaning.is
      (sequence_on c.args.raw s c.args.bytes.now c.in-Some.sequence w c.requires.ground c.requires.escape.0 c.requires.escape.1 c.in-Some.ensures),
)

pub returns-in-None-clause-puts : goal.returns-in-None-clause-puts
returns-in-None-clause-puts g c = (
  [],
  g.met.O.Outlet.given_none c.args.outlet.now,
  λ w.
      let s = c.args.self.now in
      subst (λ (m : Option Meaning). PutsOn c.args.raw (bare s w) (bare s (w ++ map seen_meaning (option_to_list m))) (take (1 + c.in-Some.sequence.count) c.args.bytes.now)) c.in-None.is
      (sequence_on c.args.raw s c.args.bytes.now c.in-Some.sequence w c.requires.ground c.requires.escape.0 c.requires.escape.1 c.in-Some.ensures),
)
