use Rattle.std.proofs.Common.{[], sym, ◌∙◌}
use Rattle.crossterm_c.specs.Held.{classes_at}
use Rattle.crossterm_c.proofs.ClassLaws.{users_are}
use Rattle.crossterm_c.proofs.held.class_of.Goals as goal

pub returns-else-is_attributes : goal.returns-else-is_attributes
returns-else-is_attributes c classes =
    users_are (classes_at classes) [] c.args.event.now (sym c.is_cursor.ensures ∙ c.if-is_cursor.false) (sym c.is_flags.ensures ∙ c.if-is_flags.false) (sym c.is_attributes.ensures ∙ c.if-is_attributes.false)
