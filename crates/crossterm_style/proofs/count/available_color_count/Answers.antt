use Rattle.std.proofs.Common.{sym, ◌∙◌}
use Rattle.crossterm_style.proofs.CountLaws.{first_says}
use Rattle.crossterm_style.proofs.count.available_color_count.Goals as goal

pub returns-in-Some : goal.returns-in-Some
returns-in-Some c = first_says _ _ _ _ (sym c.or.ensures ∙ c.in-Some.is) c.count_by_name.ensures
