use Rattle.std.proofs.Common.{◌-◌, Option, Some, refl, ap, sym, subst, inl, arith, ◌∙◌}
use Rattle.std.specs.Duration.{as_nanos}
use Rattle.std.specs.declared.time.Duration.{Duration}
use Rattle.crossbeam_queue.specs.Passes.{view}
use Rattle.crossterm_types.specs.Admitting.{is_cursor_position}
use Rattle.crossterm_read.specs.Calls.{Position}
use Rattle.crossterm_read.specs.inside.Replies.{read_reply}
use Rattle.crossterm_read.specs.Queries.{QueryStep}
use Rattle.crossterm_read.specs.Steps.{Within}
use Rattle.crossterm_read.proofs.Sharing.{taken_at, some_there, produces, extends, read_memory, sits_taken, sits_put, last_after, last_read}
use Rattle.crossterm_read.proofs.Waiting.{first_of}
use Rattle.crossterm_read.proofs.read.shared.reader.EventReader.position_by.Goals as goal

pub take_within-requires-clause-opened : goal.take_within-requires-clause-opened
take_within-requires-clause-opened g c = some_there _ c.args.pass.now.sits.opened

pub query_while-taken-requires : goal.query_while-taken-requires
query_while-taken-requires g c = let start = ap as_nanos c.new-timeout.ensures.start ∙ c.now-start.ensures.latest in omega (arith, c.take_within.ensures.later)

pub put-requires-clause-produces : goal.put-requires-clause-produces
put-requires-clause-produces g c =
    let start = ap as_nanos c.new-timeout.ensures.start in
    let past = g.C.Clock.latest c.query_while-taken.new.clock - as_nanos c.new-timeout.result.start in
    let e = c.query_while-taken.ensures.step in
    let step = subst (λ (limit : Option Duration). QueryStep is_cursor_position (Within limit past) e.0 c.deref_mut.result.now.store c.query_while-taken.new.self.store (read_reply c.query_while-taken.result)) c.new-timeout.ensures.limit e.2 in
    produces g.S.EventSource.drawn _ _ _ c.deref_mut.result.now c.query_while-taken.new.self (taken_at g.S.EventSource.drawn _ _ _ _ c.deref_mut.ensures.value c.in-Some.ensures.taken) (Position (Within (Some c.args.limit) past)) e.0 (read_reply c.query_while-taken.result)
    (record {
      call = (past, omega (arith, start), refl);
      reply = refl;
      limits_so = (c.new-timeout.result, c.new-timeout.ensures.limit, start, c.query_while-taken.ensures.limits);
      memory = read_memory c.query_while-taken.result _ e.3;
    }) e.1 step c.query_while-taken.ensures.room

pub invariant_of-pass-2 : goal.invariant_of-pass-2
invariant_of-pass-2 g c = record {
  clear = c.put.ensures.slot_pass.2 ∙ c.take_within.ensures.slot_pass.2 ∙ c.args.pass.now.clear;
  sits = sits_put g.S.EventSource.drawn _ _ _ _ (sits_taken g.S.EventSource.drawn _ _ _ c.args.pass.now.sits c.in-Some.ensures.taken) c.put.ensures.put;
  taken = c.last_after-pass.ensures ∙ sym (last_read c.args.pass.now.last c.query_while-taken.result)
      ∙ last_after g.S.EventSource.drawn _ _ (view c.args.pass.now.slot_pass) (view c.take_within.new.slot_pass) (view c.put.new.slot_pass) _ _ c.args.pass.now.last c.in-Some.ensures.taken c.put.ensures.put c.put.ensures.put.0.such.reply c.args.pass.now.taken;
}

pub returns-clause-call : goal.returns-clause-call
returns-clause-call g c = (
  as_nanos c.now-start.result,
  first_of g.C.Clock.latest g.C.Clock.began _ _ _ _ c.now-start.ensures.latest c.now-start.ensures.later (omega (arith, c.take_within.ensures.later, c.query_while-taken.ensures.later)) c.now-start.ensures.first
      (λ from start b. c.query_while-taken.ensures.first _ _ (c.take_within.ensures.first _ _ b)),
  inl (
    read_reply c.query_while-taken.result,
    c.placed.ensures,
    extends g.S.EventSource.drawn _ (view c.args.pass.now.slot_pass) (view c.take_within.new.slot_pass) (view c.put.new.slot_pass) c.in-Some.reader.value c.query_while-taken.new.self c.requires.1 c.in-Some.ensures.taken c.put.ensures.put,
  ),
)

pub returns-clause-first : goal.returns-clause-first
returns-clause-first g c from start b = c.query_while-taken.ensures.first _ _ (c.take_within.ensures.first _ _ (c.now-start.ensures.again _ _ b))
