use Rattle.std.proofs.Common.{arith, inl, inr, sym, ◌∙◌}
use Rattle.recorder.specs.inside.Words.{session_of}
use Rattle.recorder.proofs.Wording.{bad_line, next_line}
use Rattle.recorder.proofs.reading.read_session.Goals as goal

pub returns-in-Err-clause-err : goal.returns-in-Err-clause-err
returns-in-Err-clause-err g c = elim c.in-Err.ensures.err [
  | inl memory ↦ inl memory
  | inr bad ↦ inr (sym c.loop-rest.invariant.0 ∙ bad_line (session_of c.loop-rest.session) c.loop-rest.line c.loop-rest.rest.now c.in-Some.this.now c.in-Some.after.now c.in-Err.reason c.in-Some.ensures.0 bad)
]

pub loop-rest-preserved : goal.loop-rest-preserved
loop-rest-preserved g c = (
  sym (next_line (session_of c.loop-rest.session) (session_of c.add_line.new.self) c.loop-rest.line c.loop-rest.rest.now c.in-Some.this.now c.in-Some.after.now c.in-Some.ensures.0 c.in-Ok-add_line.ensures.ok) ∙ c.loop-rest.invariant.0,
  omega (arith, c.in-Some.ensures.1, c.loop-rest.invariant.1),
)
