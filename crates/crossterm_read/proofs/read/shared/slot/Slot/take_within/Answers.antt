use Rattle.std.proofs.Common.{ap, subst, ◌∙◌}
use Rattle.crossbeam_queue.specs.Passes.{view}
use Rattle.crossterm_read.specs.History.{Known}
use Rattle.crossterm_read.specs.inside.Slot.{Took}
use Rattle.crossterm_read.proofs.Moves.{takes_as}
use Rattle.crossterm_read.proofs.Sharing.{taken_at}
use Rattle.crossterm_read.proofs.read.shared.slot.Slot.take_within.Goals as goal

pub pop_as-requires-clause-rule : goal.pop_as-requires-clause-rule
pop_as-requires-clause-rule g c = let same = c.loop.invariant.same in let o = c.requires.opened in takes_as g.S.EventSource.drawn _ _ o.0 (ap (λ v. v.opening) same ∙ o.1)

pub returns-in-Some-pop_as-clause-taken : goal.returns-in-Some-pop_as-clause-taken
returns-in-Some-pop_as-clause-taken g c =
    taken_at g.S.EventSource.drawn _ _ c.in-Some-pop_as.boxed c.unboxed.result.value c.unboxed.ensures
    (subst (λ (v : Known g.row.S.Denot). Took g.S.EventSource.drawn v c.in-Some-pop_as.boxed (view c.pop_as.new.pass)) c.loop.invariant.same c.in-Some-pop_as.ensures.rule)
