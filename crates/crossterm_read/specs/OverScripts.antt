-- Histories of a shared reader over a script.
use Rattle.std.specs.Prelude.{◌≡◌, List, []}
use Rattle.crossterm_parse.specs.View.{Represents}
use Rattle.crossterm_read.specs.Answers.{SourceAnswer}
use Rattle.crossterm_read.specs.Calls.{IsAccounted, empty}
use Rattle.crossterm_read.specs.History.{Entry, Runs, answers_of, taken_by}
use Rattle.crossterm_read.specs.Outcomes.{Answered}
use Rattle.crossterm_read.specs.Scripted.{ScriptLeft, ScriptAnswers}
use Rattle.crossterm_read.specs.Store.{ReaderState}
use Rattle.crossterm_read.specs.Sources.{Source, SourceDrawn}

-- A source that wasn't asked yet: it has no event waiting and no byte.
pub record IsNew {D : Type 0} (s : Source D) : Type 0 where
  pub waiting : s.parser.waiting ≡ []
  pub represents : Represents s.parser []
  pub untaken : s.untaken ≡ []

-- The answers of a new source over a script follow from those of the script.
abbrev pub ScriptsReplay : Type 0
ScriptsReplay = (s t : Source ScriptLeft) (xs : List SourceAnswer) → IsNew s → SourceDrawn ScriptAnswers s xs t → Answered s.device.left xs

-- In a legal history over a script, each of the first events that happen was taken or is held, once. The reader held
-- nothing at first.
abbrev pub HistoriesOverScripts : Type 0
HistoriesOverScripts = (o t : ReaderState (Source ScriptLeft)) (log : List Entry) → IsNew o.source → o.store ≡ empty → Runs (SourceDrawn ScriptAnswers) o log t
    → Answered o.source.device.left (answers_of log) × IsAccounted o.source.device.left (taken_by log) t.store.held
