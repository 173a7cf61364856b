use Rattle.std.proofs.Common.{refl, sym, inl, ◌∙◌}
use Rattle.crossbeam_queue.specs.Passes.{view}
use Rattle.crossterm_types.specs.declared.event.filter.AnyFilter.TheVariants as filters
use Rattle.crossterm_read.specs.Calls.{Read}
use Rattle.crossterm_read.specs.Steps.{UpTo}
use Rattle.crossterm_read.specs.inside.Replies.{try_reply}
use Rattle.crossterm_read.proofs.Sharing.{taken_at, some_there, produces, extends, sits_taken, sits_put, last_after, last_try, try_memory}
use Rattle.crossterm_read.proofs.read.shared.reader.EventReader.try_read.Goals as goal

pub try_take-requires-clause-opened : goal.try_take-requires-clause-opened
try_take-requires-clause-opened g c = some_there _ c.args.pass.now.sits.opened

pub put-requires-clause-produces : goal.put-requires-clause-produces
put-requires-clause-produces g c =
    let p = c.next-tried.ensures.step in
    produces g.S.EventSource.drawn _ _ _ c.deref_mut.result.now c.next-tried.new.self (taken_at g.S.EventSource.drawn _ _ _ _ c.deref_mut.ensures.value c.in-Some.ensures.taken) (Read (UpTo 1) filters.Event) p.0 (try_reply c.next-tried.result)
    (record { call = refl; reply = refl; limits_so = c.next-tried.ensures.limits; memory = try_memory c.next-tried.result _ p.3 }) p.1 p.2 c.next-tried.ensures.room

pub invariant_of-pass-2 : goal.invariant_of-pass-2
invariant_of-pass-2 g c = record {
  clear = c.put.ensures.slot_pass.2 ∙ c.try_take.ensures.slot_pass.2 ∙ c.args.pass.now.clear;
  sits = sits_put g.S.EventSource.drawn _ _ _ _ (sits_taken g.S.EventSource.drawn _ _ _ c.args.pass.now.sits c.in-Some.ensures.taken) c.put.ensures.put;
  taken = c.last_after_try-pass.ensures ∙ sym (last_try c.args.pass.now.last c.next-tried.result)
      ∙ last_after g.S.EventSource.drawn _ _ (view c.args.pass.now.slot_pass) (view c.try_take.new.slot_pass) (view c.put.new.slot_pass) _ _ c.args.pass.now.last c.in-Some.ensures.taken c.put.ensures.put c.put.ensures.put.0.such.reply c.args.pass.now.taken;
}

pub returns-clause-call : goal.returns-clause-call
returns-clause-call g c = inl (
  try_reply c.next-tried.result,
  c.users_tried.ensures.reply,
  extends g.S.EventSource.drawn _ (view c.args.pass.now.slot_pass) (view c.try_take.new.slot_pass) (view c.put.new.slot_pass) c.in-Some.reader.value c.next-tried.new.self c.requires.1 c.in-Some.ensures.taken c.put.ensures.put,
)
