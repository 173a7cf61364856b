use Rattle.std.proofs.Common.{◌≡◌, ℕ, List, rules, subst}
use Rattle.prompt.specs.Histories.{LosesNone}
use Rattle.prompt.proofs.Appended.{none_lost}
use Rattle.prompt.proofs.histories.HistoryFile.write.Goals as goal

pub returns-clause-kept : goal.returns-clause-kept
returns-clause-kept g c =
    let is : c.self.inside.pending.items ≡ c.args.self.now.pending = search rules in
    subst (λ (before : List ℕ). LosesNone g.R.File.Write.contents before c.append_pending.new.pending.items) is
    (none_lost c.append_pending.result g.R.File.Write.contents c.in-Ok.file c.append_pending.new.file _ _ c.append_pending.ensures.ok c.append_pending.ensures.err)
