use Rattle.std.proofs.Common.{◌≡◌, None, true, refl, sym, ◌∙◌}
use Rattle.crossbeam_queue.specs.Passes.{view}
use Rattle.crossterm_types.specs.Admitting.{admitted}
use Rattle.crossterm_read.specs.Calls.{Read}
use Rattle.crossterm_read.specs.Steps.{Within}
use Rattle.crossterm_read.specs.inside.Replies.{read_reply}
use Rattle.crossterm_read.proofs.Sharing.{taken_at, some_there, produces, extends, sits_taken, sits_put, last_after, last_read, read_memory, read_kept}
use Rattle.crossterm_read.proofs.read.shared.reader.EventReader.read_by.Goals as goal

pub take-reader-requires-clause-opened : goal.take-reader-requires-clause-opened
take-reader-requires-clause-opened g c = some_there _ c.args.pass.now.sits.opened

pub put-requires-clause-produces : goal.put-requires-clause-produces
put-requires-clause-produces g c =
    let p = c.read_numbered-taken.ensures.step in
    produces g.S.EventSource.drawn _ _ _ c.deref_mut.result.now c.read_numbered-taken.new.self (taken_at g.S.EventSource.drawn _ _ _ _ c.deref_mut.ensures.value c.take-reader.ensures.taken) (Read (Within None p.0) c.args.filter) p.1 (read_reply c.read_numbered-taken.result)
    (record { call = (p.0, refl); reply = refl; limits_so = c.read_numbered-taken.ensures.asked; memory = read_memory c.read_numbered-taken.result _ p.4 }) p.2 p.3 c.read_numbered-taken.ensures.room

pub invariant_of-pass : goal.invariant_of-pass
invariant_of-pass g c = record {
  clear = c.put.ensures.slot_pass.2 ∙ c.take-reader.ensures.slot_pass.2 ∙ c.args.pass.now.clear;
  sits = sits_put g.S.EventSource.drawn _ _ _ _ (sits_taken g.S.EventSource.drawn _ _ _ c.args.pass.now.sits c.take-reader.ensures.taken) c.put.ensures.put;
  taken = c.last_after-pass.ensures ∙ sym (last_read c.args.pass.now.last c.read_numbered-taken.result)
      ∙ last_after g.S.EventSource.drawn _ _ (view c.args.pass.now.slot_pass) (view c.take-reader.new.slot_pass) (view c.put.new.slot_pass) _ _ c.args.pass.now.last c.take-reader.ensures.taken c.put.ensures.put c.put.ensures.put.0.such.reply c.args.pass.now.taken;
}

pub returns-clause-call : goal.returns-clause-call
returns-clause-call g c = (
  read_reply c.read_numbered-taken.result,
  c.unnumbered.ensures.reply,
  extends g.S.EventSource.drawn _ (view c.args.pass.now.slot_pass) (view c.take-reader.new.slot_pass) (view c.put.new.slot_pass) c.take-reader.result.value c.read_numbered-taken.new.self c.requires.1 c.take-reader.ensures.taken c.put.ensures.put,
)

pub returns-clause-admitted : goal.returns-clause-admitted
returns-clause-admitted g c = read_kept (λ x. admitted c.args.filter x ≡ true) c.read_numbered-taken.result c.unnumbered.result c.unnumbered.ensures.reply c.read_numbered-taken.ensures.admitted
