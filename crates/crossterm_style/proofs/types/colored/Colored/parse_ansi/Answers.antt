use Rattle.std.proofs.Common.{◌≢◌, []}
use Rattle.crossterm_style.specs.Fields.{fields_left}
use Rattle.crossterm_style.proofs.ReadingLaws.{answers_none, answers_no_ink, answers_set}
use Rattle.crossterm_style.proofs.types.colored.Colored.parse_ansi.Goals as goal

pub returns-in_default : goal.returns-in_default
returns-in_default c = answers_none _ (rw c.of.ensures at c.in_default.ensures)

pub returns-in-Some-sgr : goal.returns-in-Some-sgr
returns-in-Some-sgr c =
    answers_set _ _ _ _ _ _ (rw c.of.ensures at c.in-Some.ensures) c.in-Some-sgr.ensures c.color.ensures c.set_by.ensures

pub returns-in-None : goal.returns-in-None
returns-in-None c =
    let more : fields_left c.in-Some.fields.rest ≢ [] = λ e. (let t = c.is_empty.ensures.1 e in cc) in
    answers_no_ink _ _ _ (rw c.of.ensures at c.in-Some.ensures) more c.in-None.ensures
