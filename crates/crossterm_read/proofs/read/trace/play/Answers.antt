use Rattle.std.proofs.Common.{◌≡◌, ◌+◌, List, [], take, map, sym, ap, subst, ◌∙◌, arith}
use Rattle.std.proofs.lemmas.List.{take_all}
use Rattle.crossterm_read.specs.Outcomes.{Answered}
use Rattle.crossterm_read.specs.Device.{DeviceAnswer}
use Rattle.crossterm_read.specs.Scripted.{ScriptLeft, ScriptAnswers, script_none, script_on}
use Rattle.crossterm_read.specs.Sources.{Source, SourceDrawn, source_none, source_on}
use Rattle.crossterm_read.proofs.Spelling.{script_answered}
use Rattle.crossterm_read.specs.declared.read.call.Call.{Call}
use Rattle.crossterm_read.specs.declared.read.call.Reply.{Reply}
use Rattle.crossterm_read.specs.Store.{ReaderState}
use Rattle.crossterm_read.specs.Calls.{said, all_answers, empty, Run}
use Rattle.crossterm_read.proofs.Accounting.{accounts}
use Rattle.crossterm_read.proofs.Runs.{Played, played_none, played_more}
use Rattle.crossterm_read.proofs.read.trace.play.Goals as goal

pub loop-call-init : goal.loop-call-init
loop-call-init g c = subst (λ (l : List (Reply g.row.A.Denot)). Played (SourceDrawn ScriptAnswers) c.new-reader.result [] (map said l) c.new-reader.result) (sym c.new-replies.ensures.items)
    (played_none (SourceDrawn ScriptAnswers) (source_none ScriptAnswers script_none) c.new-reader.result)

pub loop-call-preserved : goal.loop-call-preserved
loop-call-preserved g c =
    let e = c.call-reply.ensures in
    subst (λ (l : List (Reply g.row.A.Denot)). Played (SourceDrawn ScriptAnswers) c.new-reader.result (take (c.loop-call.call-index + 1) c.args.calls.now) (map said l) c.call-reply.new.self) (sym c.in-Ok.ensures.items)
    (played_more (SourceDrawn ScriptAnswers) (source_on ScriptAnswers script_on) _ c.loop-call.reader c.call-reply.new.self c.args.calls.now c.loop-call.call-index _ c.loop-call.replies.items c.call-reply.result e.1 e.0 (omega arith) c.loop-call.invariant e.2 e.3 e.4)

pub returns-clause-run : goal.returns-clause-run
returns-clause-run g c =
    let source = c.new-source.result in
    let all : take c.loop-call.call-index c.args.calls.now ≡ c.args.calls.now = take_all c.loop-call.call-index c.args.calls.now (omega arith) in
    let p : Played (SourceDrawn ScriptAnswers) (record { store = empty; room = 0; source = source }) (take c.loop-call.call-index c.args.calls.now) (map said c.loop-call.replies.items) c.loop-call.reader =
    subst (λ (y : ReaderState (Source ScriptLeft)). Played (SourceDrawn ScriptAnswers) y (take c.loop-call.call-index c.args.calls.now) (map said c.loop-call.replies.items) c.loop-call.reader) c.new-reader.ensures c.loop-call.invariant in
    let answered = script_answered source c.loop-call.reader.source (all_answers p.answers) c.new-source.ensures.waiting c.new-source.ensures.represents c.new-source.ensures.untaken p.drawn_so in
    record {
      drawn = p.answers;
      replies = p.replies;
      shows = p.said_so;
      last = c.loop-call.reader.store;
      answered = subst (λ (l : List DeviceAnswer). Answered l (all_answers p.answers)) (ap (λ (d : ScriptLeft). d.left) (c.new-source.ensures.device ∙ c.new.ensures)) answered;
      run = subst (λ (l : List Call). Run empty l p.answers p.replies c.loop-call.reader.store) all p.run;
      left = c.in_ok-held.ensures;
    }

pub returns-clause-account : goal.returns-clause-account
returns-clause-account g c = accounts _ c.args.calls.now _ _ (returns-clause-run g c)
