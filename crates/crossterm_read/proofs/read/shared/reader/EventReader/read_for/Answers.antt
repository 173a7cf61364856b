use Rattle.std.proofs.Common.{◌-◌, Option, Some, refl, ap, sym, subst, arith, ◌∙◌}
use Rattle.std.specs.Duration.{as_nanos}
use Rattle.std.specs.declared.time.Duration.{Duration}
use Rattle.crossbeam_queue.specs.Passes.{view}
use Rattle.crossterm_types.specs.declared.event.filter.AnyFilter.TheVariants as filters
use Rattle.crossterm_types.specs.Timing.{IsFirst}
use Rattle.crossterm_read.specs.Calls.{Step}
use Rattle.crossterm_read.specs.inside.Replies.{reply_within, request_within}
use Rattle.crossterm_read.specs.Steps.{Within}
use Rattle.crossterm_read.proofs.Next.{last_within, memory_within, reads_for}
use Rattle.crossterm_read.proofs.Sharing.{taken_at, some_there, produces, extends, sits_taken, sits_put, last_after}
use Rattle.crossterm_read.proofs.Waiting.{first_of}
use Rattle.crossterm_read.proofs.read.shared.reader.EventReader.read_for.Goals as goal

pub take_within-requires-clause-opened : goal.take_within-requires-clause-opened
take_within-requires-clause-opened g c = some_there _ c.args.pass.now.sits.opened

pub read_while-tried-requires : goal.read_while-tried-requires
read_while-tried-requires g c = let start = ap as_nanos c.new-timeout.ensures.start ∙ c.now-start.ensures.latest in omega (arith, c.take_within.ensures.later)

pub put-requires-clause-produces : goal.put-requires-clause-produces
put-requires-clause-produces g c =
    let start = ap as_nanos c.new-timeout.ensures.start in
    let past = g.C.Clock.latest c.read_while-tried.new.clock - as_nanos c.new-timeout.result.start in
    let e = c.read_while-tried.ensures.step in
    let tried = c.read_while-tried.result in
    let step = subst (λ (limit : Option Duration). Step (request_within (Within limit past) filters.Event tried) e.0 c.deref_mut.result.now.store c.read_while-tried.new.self.store (reply_within tried)) c.new-timeout.ensures.limit e.2 in
    produces g.S.EventSource.drawn _ _ _ c.deref_mut.result.now c.read_while-tried.new.self (taken_at g.S.EventSource.drawn _ _ _ _ c.deref_mut.ensures.value c.in-Some.ensures.taken) (request_within (Within c.args.limit past) filters.Event tried) e.0 (reply_within tried)
    (record {
      call = (past, omega (arith, start), refl);
      reply = refl;
      limits_so = (c.new-timeout.result, c.new-timeout.ensures.limit, start, c.read_while-tried.ensures.limits);
      memory = memory_within tried _ e.3;
    }) e.1 step c.read_while-tried.ensures.room

pub invariant_of-pass-2 : goal.invariant_of-pass-2
invariant_of-pass-2 g c = record {
  clear = c.put.ensures.slot_pass.2 ∙ c.take_within.ensures.slot_pass.2 ∙ c.args.pass.now.clear;
  sits = sits_put g.S.EventSource.drawn _ _ _ _ (sits_taken g.S.EventSource.drawn _ _ _ c.args.pass.now.sits c.in-Some.ensures.taken) c.put.ensures.put;
  taken = c.last_after_try-pass.ensures ∙ sym (last_within c.args.pass.now.last c.read_while-tried.result)
      ∙ last_after g.S.EventSource.drawn _ _ (view c.args.pass.now.slot_pass) (view c.take_within.new.slot_pass) (view c.put.new.slot_pass) _ _ c.args.pass.now.last c.in-Some.ensures.taken c.put.ensures.put c.put.ensures.put.0.such.reply c.args.pass.now.taken;
}

pub returns-clause-call : goal.returns-clause-call
returns-clause-call g c =
    let begun = first_of g.C.Clock.latest g.C.Clock.began _ _ _ _ c.now-start.ensures.latest c.now-start.ensures.later (omega (arith, c.take_within.ensures.later, c.read_while-tried.ensures.later)) c.now-start.ensures.first
    (λ from start b. c.read_while-tried.ensures.first _ _ (c.take_within.ensures.first _ _ b)) in
    let entry = extends g.S.EventSource.drawn _ (view c.args.pass.now.slot_pass) (view c.take_within.new.slot_pass) (view c.put.new.slot_pass) c.in-Some.reader.value c.read_while-tried.new.self c.requires.1 c.in-Some.ensures.taken c.put.ensures.put in
    reads_for g.S.EventSource.drawn g.S.EventSource.asked filters.Event c.args.limit (IsFirst g.C.Clock.latest g.C.Clock.began c.args.clock.now c.read_while-tried.new.clock) (as_nanos c.now-start.result) (g.C.Clock.latest c.read_while-tried.new.clock) _ _ begun
    c.read_while-tried.result c.users_tried.result c.users_tried.ensures.reply entry

pub returns-clause-first : goal.returns-clause-first
returns-clause-first g c from start b = c.read_while-tried.ensures.first _ _ (c.take_within.ensures.first _ _ (c.now-start.ensures.again _ _ b))
