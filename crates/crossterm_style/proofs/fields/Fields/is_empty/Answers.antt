use Rattle.crossterm_style.proofs.FieldLaws.{empty_left}
use Rattle.crossterm_style.proofs.fields.Fields.is_empty.Goals as goal

pub returns : goal.returns
returns c = empty_left c.args.self.rest _ c.is_none.ensures
