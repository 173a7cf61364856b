use Rattle.std.proofs.Common.{ℕ, List, sym, ap, subst}
use Rattle.prompt.specs.Histories.{HistoryState, LosesNone}
use Rattle.prompt.proofs.histories.HistoryFile.append.Goals as goal

pub returns-in-Ok-clause-kept : goal.returns-in-Ok-clause-kept
returns-in-Ok-clause-kept g c =
    subst (λ (h : HistoryState). LosesNone g.R.File.Write.contents h.pending c.write.new.self.pending) c.in_ok-take.ensures.ok c.write.ensures.kept

pub returns-in-Err-clause-kept : goal.returns-in-Err-clause-kept
returns-in-Err-clause-kept g c =
    let same = sym (ap (λ (h : HistoryState). h.pending) c.say.ensures.said) in
    let kept = subst (λ (after : List ℕ). LosesNone g.R.File.Write.contents c.take.new.self.pending after) same c.write.ensures.kept in
    subst (λ (h : HistoryState). LosesNone g.R.File.Write.contents h.pending c.say.new.self.pending) c.in_ok-take.ensures.ok kept
