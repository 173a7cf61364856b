use Rattle.std.proofs.Common.{ℕ, ap, ◌∙◌}
use Rattle.crossterm_types.specs.Timing.{left_over}
use Rattle.crossterm_read.proofs.read.reader.InternalEventReader.draw_in_time.Goals as goal

pub returns-clause-asked : goal.returns-clause-asked
returns-clause-asked g c = (c.leftover-left.result, c.leftover-left.ensures ∙ ap (λ (n : ℕ). left_over c.args.timeout.now n) c.now.ensures.latest, c.draw.ensures.asked)
