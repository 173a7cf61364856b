use Rattle.std.proofs.Common.{false}
use Rattle.std.proofs.lemmas.Str.Pattern.{starts_text}
use Rattle.prompt.proofs.Naming.{no_rest, rest_behind}
use Rattle.prompt.proofs.words.rest_of.Goals as goal

pub returns-in-Some : goal.returns-in-Some
returns-in-Some c =
    let found = c.in-Some.ensures.cases in
    rest_behind c.args.text.now c.args.name.now c.in-Some.rest.now found.0 found.1.0 found.1.1 found.2

pub returns-in-None : goal.returns-in-None
returns-in-None c = no_rest c.args.text.now c.args.name.now (starts_text false c.args.text.now c.args.name.now c.in-None.ensures.cases)
