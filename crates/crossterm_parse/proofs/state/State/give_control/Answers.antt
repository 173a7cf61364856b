use Rattle.std.proofs.Common.{[], ◌∷◌, sym}
use Rattle.crossterm_parse.specs.declared.meaning.Meaning.TheVariants.{Key}
use Rattle.crossterm_parse.proofs.RunLaws.{control_on}
use Rattle.crossterm_parse.proofs.state.State.give_control.Goals as goal

pub returns-clause-puts : goal.returns-clause-puts
returns-clause-puts g c = (
  Key c.byte_key.result ∷ [],
  c.give.ensures.given,
  λ w. control_on c.args.raw c.args.self.now c.args.bytes.now (Key c.byte_key.result) w c.requires.ground c.requires.some c.requires.control (sym c.byte_key.ensures),
)
