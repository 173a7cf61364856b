use Rattle.std.proofs.Common.{sym, ap, ◌∙◌, subst}
use Rattle.crossbeam_queue.specs.Passes.{view}
use Rattle.crossbeam_queue.specs.Fifo.{Merges}
use Rattle.crossterm_read.specs.History.{Known}
use Rattle.crossterm_read.specs.inside.Slot.{SlotRule, Learnt, taught}
use Rattle.crossterm_read.proofs.Moves.{meets, learns}
use Rattle.crossterm_read.proofs.read.shared.slot.Slot.meet.Goals as goal

pub absorb-requires-clause-rule : goal.absorb-requires-clause-rule
absorb-requires-clause-rule g c =
    let o = c.requires.opened in
    let v = view c.args.one.now in
    let w = view c.args.other in
    subst (λ (x : Known g.row.S.Denot). Merges (SlotRule g.S.EventSource.drawn) c.args.one.now.id v c.args.other.id w (taught v w) x) (sym c.requires.left)
    (meets g.S.EventSource.drawn c.args.one.now.id v c.args.other.id w o.0 o.1)

pub learn_as-requires-clause-rule : goal.learn_as-requires-clause-rule
learn_as-requires-clause-rule g c = let o = c.requires.opened in learns g.S.EventSource.drawn _ _ o.0 (ap (λ v. v.opening) c.absorb.ensures.rule ∙ o.1)

pub returns-clause-learnt : goal.returns-clause-learnt
returns-clause-learnt g c = subst (λ (v : Known g.row.S.Denot). Learnt g.S.EventSource.drawn v) (sym c.learn_as.ensures.queue.1) c.learn_as.ensures.rule.1
