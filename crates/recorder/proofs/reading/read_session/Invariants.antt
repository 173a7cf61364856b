-- What was read and what is left read as the whole. Each line has an end, so that lines can be counted.
use Rattle.std.proofs.Common.{◌≡◌, ◌≤◌, ◌+◌, length}
use Rattle.recorder.specs.Reads.{parts, read_after, read_text}
use Rattle.recorder.specs.inside.Words.{session_of}
use Rattle.recorder.proofs.reading.read_session.Given as goal

abbrev pub invariant-loop-rest : goal.invariant-loop-rest
invariant-loop-rest g l = (read_after (session_of l.session) l.line (parts 10 l.rest) ≡ read_text l.text) × (l.line + length l.rest ≤ length l.text + 1)

abbrev pub decreases-loop-rest : goal.decreases-loop-rest
decreases-loop-rest g l = length l.rest
