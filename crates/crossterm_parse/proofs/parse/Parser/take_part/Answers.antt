use Rattle.std.proofs.Common.{subst}
use Rattle.crossterm_parse.specs.Putting.{TakesPart}
use Rattle.crossterm_parse.specs.View.{ParserView}
use Rattle.crossterm_parse.proofs.parse.Parser.take_part.Goals as goal

pub returns : goal.returns
returns g c =
    subst (λ (p : ParserView). TakesPart p c.take_outside.new.self c.args.piece.now c.args.more c.args.raw c.take_outside.result c.args.steps.now c.take_outside.new.steps)
    c.rewind.ensures c.take_outside.ensures
