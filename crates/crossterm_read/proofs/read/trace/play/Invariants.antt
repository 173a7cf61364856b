use Rattle.std.proofs.Common.{take, map}
use Rattle.crossterm_read.specs.Sources.{SourceDrawn}
use Rattle.crossterm_read.specs.Scripted.{ScriptAnswers}
use Rattle.crossterm_read.specs.Calls.{said}
use Rattle.crossterm_read.proofs.Runs.{Played}
use Rattle.crossterm_read.proofs.read.trace.play.Given as goal

abbrev pub invariant-loop-call : goal.invariant-loop-call
invariant-loop-call g l = Played (SourceDrawn ScriptAnswers) l.initial.reader (take l.call-index l.calls) (map said l.replies.items) l.reader
