use Rattle.std.proofs.Common.{◌≡◌, sym, ap, subst, ◌∙◌, All}
use Rattle.crossterm_read.specs.History.{opened}
use Rattle.crossterm_read.specs.PassViews.{IsInSlot, knows, pass_number}
use Rattle.crossterm_read.specs.inside.Slot.{first_pass}
use Rattle.crossterm_read.specs.declared.read.shared.slot.Slot.{Slot}
use Rattle.crossterm_read.proofs.read.shared.reader.EventReader.new.Goals as goal

pub passes-requires-clause-first : goal.passes-requires-clause-first
passes-requires-clause-first g c = (c.args.reader, c.in_ok-slot.ensures.first.1 ∙ ap (λ n. first_pass c.args.reader n n) c.saturating_sub-others.ensures)

pub returns-clause-passes : goal.returns-clause-passes
returns-clause-passes g c =
    subst (λ (r : Slot g.row.S.Denot g.row.A.Denot). All (λ p. IsInSlot r.queue p × (knows p ≡ opened c.args.reader c.args.passes (pass_number p))) c.in_ok-made.made.items) (sym c.in_ok-slot-2.ensures.ok)
    (c.in_ok-made.ensures.passes c.args.reader (c.in_ok-slot.ensures.first.1 ∙ ap (λ n. first_pass c.args.reader n n) c.saturating_sub-others.ensures))
