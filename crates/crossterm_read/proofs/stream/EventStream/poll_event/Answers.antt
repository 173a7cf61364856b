use Rattle.crossterm_read.specs.PassViews.{knows}
use Rattle.crossterm_read.proofs.Streaming.{event_given, fault_given, nothing_given}
use Rattle.crossterm_read.proofs.stream.EventStream.poll_event.Goals as goal

pub returns-in-Ok-Some-clause-item : goal.returns-in-Ok-Some-clause-item
returns-in-Ok-Some-clause-item g c = event_given g.S.EventSource.drawn g.S.EventSource.asked (knows c.args.self.now.pass) (knows c.try_read.new.pass) c.in-Ok-Some.event (rw (c.in-Ok-Some.field-0-is) at c.in-Ok-Some.ensures.call)

pub returns-in-Ok-None-clause-nothing : goal.returns-in-Ok-None-clause-nothing
returns-in-Ok-None-clause-nothing g c = nothing_given g.S.EventSource.drawn g.S.EventSource.asked (knows c.args.self.now.pass) (knows c.try_read.new.pass) (rw (c.in-Ok-None.field-0-is) at c.in-Ok-None.ensures.call)

pub returns-in-Err-clause-item : goal.returns-in-Err-clause-item
returns-in-Err-clause-item g c = fault_given g.S.EventSource.drawn g.S.EventSource.asked (knows c.args.self.now.pass) (knows c.try_read.new.pass) g.row.A.Denot c.in-Err.fault c.in-Err.ensures.call
