use Rattle.std.proofs.Common.{◌-◌, Option, ap, refl, subst, ◌∙◌, arith}
use Rattle.std.specs.Duration.{as_nanos}
use Rattle.std.specs.declared.time.Duration.{Duration}
use Rattle.crossterm_read.specs.Replies.{poll_reply}
use Rattle.crossterm_read.specs.Steps.{Within, PollStep}
use Rattle.crossterm_read.proofs.Waiting.{first_of}
use Rattle.crossterm_read.proofs.read.reader.InternalEventReader.poll.Goals as goal

pub poll_while-requires : goal.poll_while-requires
poll_while-requires g c = let start = ap as_nanos c.new-timeout.ensures.start ∙ c.now.ensures.latest in omega arith

pub returns-clause-step : goal.returns-clause-step
returns-clause-step g c =
    let start = ap as_nanos c.new-timeout.ensures.start ∙ c.now.ensures.latest in
    let e = c.poll_while.ensures.step in
    let step = subst (λ (limit : Option Duration). PollStep (Within limit (g.C.Clock.latest c.poll_while.new.clock - as_nanos c.new-timeout.result.start)) (g.F.Filter.admits c.args.filter.now) e.0 c.args.self.now.store c.poll_while.new.self.store (poll_reply c.poll_while.result))
    c.new-timeout.ensures.limit e.2 in
    let first = first_of g.C.Clock.latest g.C.Clock.began _ _ _ _ start c.now.ensures.later c.poll_while.ensures.later c.now.ensures.first c.poll_while.ensures.first in
    (as_nanos c.new-timeout.result.start, first, (c.new-timeout.result, c.new-timeout.ensures.limit, refl, c.poll_while.ensures.limits), e.0, e.1, step, e.3)

pub returns-clause-first : goal.returns-clause-first
returns-clause-first g c from start b = c.poll_while.ensures.first _ _ (c.now.ensures.again _ _ b)
