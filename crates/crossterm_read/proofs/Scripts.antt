-- Legal histories over a script.
use Rattle.std.proofs.Common.{List, [], ◌∷◌, ◌++◌, subst}
use Rattle.crossterm_read.specs.Answers.{SourceAnswer}
use Rattle.crossterm_read.specs.History.{Entry, Runs, answers_of, taken_by}
use Rattle.crossterm_read.specs.OverScripts.{HistoriesOverScripts, ScriptsReplay}
use Rattle.crossterm_read.specs.Scripted.{ScriptAnswers, script_none, script_on}
use Rattle.crossterm_read.specs.Store.{EventStore, ReaderState, arrived}
use Rattle.crossterm_read.specs.Sources.{SourceDrawn, source_none, source_on}
use Rattle.crossterm_read.proofs.Accounting.{Account, accounted}
use Rattle.crossterm_read.proofs.Histories.{history_account}
use Rattle.crossterm_read.proofs.Spelling.{script_answered}

-- What a source answered in a history it answered in one run.
runs_drawn : {S : Type 0} (drawn : S → List SourceAnswer → S → Type 0) → ((s : S) → drawn s [] s) → ((s t u : S) (xs ys : List SourceAnswer) → drawn s xs t → drawn t ys u → drawn s (xs ++ ys) u)
    → (o t : ReaderState S) (log : List Entry) → Runs drawn o log t → drawn o.source (answers_of log) t.source
runs_drawn drawn none on o t [] h = subst (λ (y : ReaderState _). drawn o.source [] y.source) h (none o.source)
runs_drawn drawn none on o t (e ∷ log) h = on o.source h.0.source t.source e.answers (answers_of log) h.1.0 (runs_drawn drawn none on h.0 t log h.2)

pub scripts_replay : ScriptsReplay
scripts_replay s t xs new d = script_answered s t xs new.waiting new.represents new.untaken d

pub histories_over_scripts : HistoriesOverScripts
histories_over_scripts o t log new nothing runs =
    let latest = scripts_replay o.source t.source (answers_of log) new (runs_drawn (SourceDrawn ScriptAnswers) (source_none ScriptAnswers script_none) (source_on ScriptAnswers script_on) o t log runs) in
    let account = subst (λ (s : EventStore). Account (s.held ++ arrived s.arrivals (answers_of log)) (taken_by log) t.store) nothing (history_account (SourceDrawn ScriptAnswers) o t log runs).0 in
    (latest, accounted o.source.device.left (answers_of log) (taken_by log) t.store latest account)
