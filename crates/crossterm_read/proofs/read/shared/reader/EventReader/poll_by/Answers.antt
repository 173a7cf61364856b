use Rattle.std.proofs.Common.{◌-◌, Option, refl, ap, sym, subst, inl, arith, ◌∙◌}
use Rattle.std.specs.Duration.{as_nanos}
use Rattle.std.specs.declared.time.Duration.{Duration}
use Rattle.crossbeam_queue.specs.Passes.{view}
use Rattle.crossterm_types.specs.Admitting.{admitted}
use Rattle.crossterm_read.specs.Calls.{Poll}
use Rattle.crossterm_read.specs.Replies.{poll_reply, replied}
use Rattle.crossterm_read.specs.Steps.{Within, PollStep}
use Rattle.crossterm_read.proofs.Sharing.{taken_at, some_there, produces, extends, poll_memory, sits_taken, sits_put, last_after, last_poll}
use Rattle.crossterm_read.proofs.Waiting.{first_of}
use Rattle.crossterm_read.proofs.read.shared.reader.EventReader.poll_by.Goals as goal

pub take_within-requires-clause-opened : goal.take_within-requires-clause-opened
take_within-requires-clause-opened g c = some_there _ c.args.pass.now.sits.opened

pub poll_while-result-requires : goal.poll_while-result-requires
poll_while-result-requires g c = let start = ap as_nanos c.new-timeout.ensures.start ∙ c.now-start.ensures.latest in omega (arith, c.take_within.ensures.later)

pub put-requires-clause-produces : goal.put-requires-clause-produces
put-requires-clause-produces g c =
    let start = ap as_nanos c.new-timeout.ensures.start in
    let past = g.C.Clock.latest c.poll_while-result.new.clock - as_nanos c.new-timeout.result.start in
    let e = c.poll_while-result.ensures.step in
    let step = subst (λ (limit : Option Duration). PollStep (Within limit past) (admitted c.args.filter) e.0 c.deref_mut.result.now.store c.poll_while-result.new.self.store (poll_reply c.poll_while-result.result)) c.new-timeout.ensures.limit e.2 in
    produces g.S.EventSource.drawn _ _ _ c.deref_mut.result.now c.poll_while-result.new.self (taken_at g.S.EventSource.drawn _ _ _ _ c.deref_mut.ensures.value c.in-Some.ensures.taken) (Poll (Within c.args.limit past) c.args.filter) e.0 (replied (poll_reply c.poll_while-result.result))
    (record {
      call = (past, omega (arith, start), refl);
      reply = refl;
      limits_so = (c.new-timeout.result, c.new-timeout.ensures.limit, start, c.poll_while-result.ensures.limits);
      memory = poll_memory c.poll_while-result.result _ e.3;
    }) e.1 (_, step, refl) c.poll_while-result.ensures.room

pub invariant_of-pass-2 : goal.invariant_of-pass-2
invariant_of-pass-2 g c = record {
  clear = c.put.ensures.slot_pass.2 ∙ c.take_within.ensures.slot_pass.2 ∙ c.args.pass.now.clear;
  sits = sits_put g.S.EventSource.drawn _ _ _ _ (sits_taken g.S.EventSource.drawn _ _ _ c.args.pass.now.sits c.in-Some.ensures.taken) c.put.ensures.put;
  taken = sym (last_poll c.args.pass.now.last c.poll_while-result.result)
      ∙ last_after g.S.EventSource.drawn _ _ (view c.args.pass.now.slot_pass) (view c.take_within.new.slot_pass) (view c.put.new.slot_pass) _ _ c.args.pass.now.last c.in-Some.ensures.taken c.put.ensures.put c.put.ensures.put.0.such.reply c.args.pass.now.taken;
}

pub returns-clause-call : goal.returns-clause-call
returns-clause-call g c = (
  as_nanos c.now-start.result,
  first_of g.C.Clock.latest g.C.Clock.began _ _ _ _ c.now-start.ensures.latest c.now-start.ensures.later (omega (arith, c.take_within.ensures.later, c.poll_while-result.ensures.later)) c.now-start.ensures.first
      (λ from start b. c.poll_while-result.ensures.first _ _ (c.take_within.ensures.first _ _ b)),
  inl (extends g.S.EventSource.drawn _ (view c.args.pass.now.slot_pass) (view c.take_within.new.slot_pass) (view c.put.new.slot_pass) c.in-Some.reader.value c.poll_while-result.new.self c.requires.1 c.in-Some.ensures.taken c.put.ensures.put),
)

pub returns-clause-first : goal.returns-clause-first
returns-clause-first g c from start b = c.poll_while-result.ensures.first _ _ (c.take_within.ensures.first _ _ (c.now-start.ensures.again _ _ b))
