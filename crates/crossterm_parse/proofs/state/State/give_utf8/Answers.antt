use Rattle.std.proofs.Common.{[], ◌∷◌, refl}
use Rattle.crossterm_parse.specs.Meaning.{typed}
use Rattle.crossterm_parse.proofs.TakingLaws.{one_character}
use Rattle.crossterm_parse.proofs.state.State.give_utf8.Goals as goal

pub returns-clause-puts : goal.returns-clause-puts
returns-clause-puts g c = (
  typed c.in-Some.c ∷ [],
  (c.give_typed.ensures.yes (c.if-not-give_typed.false)).0,
  λ w. one_character c.args.self.now c.args.bytes.now c.in-Some.c c.in-Some.size (typed c.in-Some.c) w c.requires c.in-Some.ensures refl,
)
