use Rattle.std.proofs.Common.{◌-◌, Option, Some, refl, ap, sym, subst, inl, arith, ◌∙◌}
use Rattle.std.specs.Duration.{as_nanos}
use Rattle.std.specs.declared.time.Duration.{Duration}
use Rattle.crossbeam_queue.specs.Passes.{view}
use Rattle.crossterm_read.specs.Calls.{Keyboard}
use Rattle.crossterm_read.specs.Queries.{KeyboardStep}
use Rattle.crossterm_read.specs.Steps.{Within}
use Rattle.crossterm_read.proofs.Sharing.{taken_at, some_there, produces, extends, extends_at, flags_memory, sits_taken, sits_put, last_after}
use Rattle.crossterm_read.proofs.Waiting.{first_of}
use Rattle.crossterm_read.proofs.read.shared.reader.EventReader.keyboard_by.Goals as goal

pub take_within-requires-clause-opened : goal.take_within-requires-clause-opened
take_within-requires-clause-opened g c = some_there _ c.args.pass.now.sits.opened

pub keyboard_until-taken-requires : goal.keyboard_until-taken-requires
keyboard_until-taken-requires g c = let start = ap as_nanos c.new-timeout.ensures.start ∙ c.now-start.ensures.latest in omega (arith, c.take_within.ensures.later)

pub put-requires-clause-produces : goal.put-requires-clause-produces
put-requires-clause-produces g c =
    let start = ap as_nanos c.new-timeout.ensures.start in
    let s = c.keyboard_until-taken.ensures.step in
    let first = s.0 - as_nanos c.new-timeout.result.start in
    let past = g.C.Clock.latest c.keyboard_until-taken.new.clock - s.1 in
    let again = Within (Some c.args.limit) past in
    let step = subst (λ (limit : Option Duration). KeyboardStep (Within limit first) again s.5 c.deref_mut.result.now.store c.keyboard_until-taken.new.self.store s.6) c.new-timeout.ensures.limit s.8 in
    produces g.S.EventSource.drawn _ _ _ c.deref_mut.result.now c.keyboard_until-taken.new.self (taken_at g.S.EventSource.drawn _ _ _ _ c.deref_mut.ensures.value c.in-Some.ensures.taken) (Keyboard (Within (Some c.args.limit) first) again) s.5 s.6 (
      (
        s.0,
        s.1,
        omega (arith, start, c.now-start.ensures.latest, c.take_within.ensures.later, s.2),
        s.3,
        s.4,
        record {
          call = (first, past, omega (arith, start), omega arith, refl);
          reply = refl;
          limits_so = (s.12, (c.new-timeout.result, c.new-timeout.ensures.limit, start, s.13), s.14);
          memory = flags_memory c.keyboard_until-taken.result s.6 _ s.9 s.10;
        },
      ),
      s.9,
      s.11,
    ) s.7 step c.keyboard_until-taken.ensures.room

pub invariant_of-pass-2 : goal.invariant_of-pass-2
invariant_of-pass-2 g c =
    let b = c.put.ensures.put in record {
      clear = c.put.ensures.slot_pass.2 ∙ c.take_within.ensures.slot_pass.2 ∙ c.args.pass.now.clear;
      sits = sits_put g.S.EventSource.drawn _ _ _ _ (sits_taken g.S.EventSource.drawn _ _ _ c.args.pass.now.sits c.in-Some.ensures.taken) b;
      taken = c.last_after-pass.ensures ∙ sym (b.0.such.2 c.args.pass.now.last)
          ∙ last_after g.S.EventSource.drawn _ b.0.call.reply (view c.args.pass.now.slot_pass) (view c.take_within.new.slot_pass) (view c.put.new.slot_pass) _ _ c.args.pass.now.last c.in-Some.ensures.taken b refl c.args.pass.now.taken;
    }

pub returns-clause-call : goal.returns-clause-call
returns-clause-call g c =
    let x = extends g.S.EventSource.drawn _ (view c.args.pass.now.slot_pass) (view c.take_within.new.slot_pass) (view c.put.new.slot_pass) c.in-Some.reader.value c.keyboard_until-taken.new.self c.requires.1 c.in-Some.ensures.taken c.put.ensures.put in (
      as_nanos c.now-start.result,
      first_of g.C.Clock.latest g.C.Clock.began _ _ _ _ c.now-start.ensures.latest c.now-start.ensures.later (omega (arith, c.take_within.ensures.later, c.keyboard_until-taken.ensures.later)) c.now-start.ensures.first
          (λ from start b. c.keyboard_until-taken.ensures.first _ _ (c.take_within.ensures.first _ _ b)),
      inl (x.call.reply, c.flagged.ensures ∙ x.such.1, extends_at g.S.EventSource.drawn _ _ _ _ x x.such.0),
    )

pub returns-clause-first : goal.returns-clause-first
returns-clause-first g c from start b = c.keyboard_until-taken.ensures.first _ _ (c.take_within.ensures.first _ _ (c.now-start.ensures.again _ _ b))
