use Rattle.std.proofs.Common.{arith}
use Rattle.crossterm_read.proofs.Streaming.{polls_more}
use Rattle.crossterm_read.proofs.stream.worker.work.Goals as goal

pub loop-preserved-in-Ok-true : goal.loop-preserved-in-Ok-true
loop-preserved-in-Ok-true g c = record { ours = c.poll_by.ensures.pass; polls = polls_more g.S.EventSource.drawn g.S.EventSource.asked _ _ _ c.poll_by.result _ (λ start b. let most = b.1 in omega arith) c.loop.invariant.polls c.poll_by.ensures.call; can = tt; ends = tt }

pub loop-preserved-in-Ok-false : goal.loop-preserved-in-Ok-false
loop-preserved-in-Ok-false g c = record { ours = c.poll_by.ensures.pass; polls = polls_more g.S.EventSource.drawn g.S.EventSource.asked _ _ _ c.poll_by.result _ (λ start b. let most = b.1 in omega arith) c.loop.invariant.polls c.poll_by.ensures.call; can = tt; ends = tt }

pub loop-preserved : goal.loop-preserved
loop-preserved g c = record { ours = c.poll_by.ensures.pass; polls = polls_more g.S.EventSource.drawn g.S.EventSource.asked _ _ _ c.poll_by.result _ (λ start b. let most = b.1 in omega arith) c.loop.invariant.polls c.poll_by.ensures.call; can = tt; ends = tt }
