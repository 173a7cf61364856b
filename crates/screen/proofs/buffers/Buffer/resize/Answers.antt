use Rattle.std.proofs.Common.{◌∙◌}
use Rattle.screen.proofs.buffers.Buffer.resize.Goals as goal

pub invariant_of-self-2 : goal.invariant_of-self-2
invariant_of-self-2 g c = (c.in_ok-set_blank.ensures.count ∙ c.count_of.ensures, c.in_ok-set_blank.ensures.rows c.args.width)
