use Rattle.std.proofs.Common.{ap, refl, sym, subst, ◌∙◌}
use Rattle.crossbeam_queue.specs.Passes.{view}
use Rattle.crossterm_types.specs.declared.event.filter.AnyFilter.TheVariants as filters
use Rattle.crossterm_read.specs.Calls.{Poll}
use Rattle.crossterm_read.specs.Replies.{poll_reply, replied}
use Rattle.crossterm_read.specs.Steps.{UpTo}
use Rattle.crossterm_read.specs.Store.{ReaderState}
use Rattle.crossterm_read.specs.Sources.{HasPaste, Source, SourceDrawn}
use Rattle.crossterm_read.proofs.Sharing.{taken_at, some_there, produces, extends, extends_at, sits_taken, sits_put, last_after, last_poll, poll_memory}
use Rattle.crossterm_read.proofs.read.shared.pasting.EventReader+DeviceSource+D+A+A.paste_len.Goals as goal

pub try_take-requires-clause-opened : goal.try_take-requires-clause-opened
try_take-requires-clause-opened g c = some_there _ c.args.pass.now.sits.opened

pub put-requires-clause-produces : goal.put-requires-clause-produces
put-requires-clause-produces g c =
    let p = c.poll_within-polled.ensures.step in
    produces (SourceDrawn g.D.Device.answering.answered) _ _ _ c.deref_mut.result.now c.poll_within-polled.new.self (taken_at (SourceDrawn g.D.Device.answering.answered) _ _ _ _ c.deref_mut.ensures.value c.in-Some.ensures.taken) (Poll (UpTo 0) filters.Event) p.0 (replied (poll_reply c.poll_within-polled.result)) (
      record { call = refl; reply = refl; limits_so = c.poll_within-polled.ensures.at_once; memory = poll_memory c.poll_within-polled.result _ p.3 },
      subst (HasPaste c.paste_len-count.result) (c.source.ensures ∙ ap (λ (r : ReaderState (Source g.row.D.Denot)). r.source) c.deref-2.ensures) c.paste_len-count.ensures,
    ) p.1 (_, p.2, refl) c.poll_within-polled.ensures.room

pub invariant_of-pass-2 : goal.invariant_of-pass-2
invariant_of-pass-2 g c = record {
  clear = c.put.ensures.slot_pass.2 ∙ c.try_take.ensures.slot_pass.2 ∙ c.args.pass.now.clear;
  sits = sits_put (SourceDrawn g.D.Device.answering.answered) _ _ _ _ (sits_taken (SourceDrawn g.D.Device.answering.answered) _ _ _ c.args.pass.now.sits c.in-Some.ensures.taken) c.put.ensures.put;
  taken = sym (last_poll c.args.pass.now.last c.poll_within-polled.result)
      ∙ last_after (SourceDrawn g.D.Device.answering.answered) _ _ (view c.args.pass.now.slot_pass) (view c.try_take.new.slot_pass) (view c.put.new.slot_pass) _ _ c.args.pass.now.last c.in-Some.ensures.taken c.put.ensures.put c.put.ensures.put.0.such.0.reply c.args.pass.now.taken;
}

pub returns-clause-call : goal.returns-clause-call
returns-clause-call g c =
    let x = extends (SourceDrawn g.D.Device.answering.answered) _ (view c.args.pass.now.slot_pass) (view c.try_take.new.slot_pass) (view c.put.new.slot_pass) c.in-Some.reader.value c.poll_within-polled.new.self c.requires.1 c.in-Some.ensures.taken c.put.ensures.put in
    extends_at (SourceDrawn g.D.Device.answering.answered) _ _ _ _ x ((replied (poll_reply c.poll_within-polled.result), x.such.0), x.such.1)
