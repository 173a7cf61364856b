use Rattle.std.proofs.Common.{◌∙◌}
use Rattle.screen.proofs.buffers.Buffer.new.Goals as goal

pub invariant_of-result : goal.invariant_of-result
invariant_of-result g c = (c.in_ok-set_blank.ensures.count ∙ c.count_of.ensures, c.in_ok-set_blank.ensures.rows c.args.width)
