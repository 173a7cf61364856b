use Rattle.std.proofs.Common.{rules, ◌∷◌, ◌∙◌, Some, ap, map, subst, sym}
use Rattle.crossterm_types.specs.Seen.{seen}
use Rattle.crossterm_read.specs.inside.Kinds.{has_class}
use Rattle.crossterm_read.specs.inside.Queues.{IsEarliest, all_kinds, behind, queues_of}
use Rattle.crossterm_read.specs.declared.read.held.queues.Member.{Member}
use Rattle.crossterm_read.proofs.Joining.{all_classes, are_joined, joined_is, left_of}
use Rattle.crossterm_read.proofs.read.held.queued.QueuedIterator.next.Goals as goal

pub invariant_of-self : goal.invariant_of-self
invariant_of-self g c =
    let at = c.self.inside.at in
    let to = c.after-self-inside.result in
    let q = queues_of c.self.inside.queues.now in
    let earliest = subst (λ o. IsEarliest (behind (queues_of o) at) (has_class all_classes) all_kinds (Some c.in_ok-front-in-Some.front)) (sym c.in-Some.is) c.in_ok-front-in-Some.ensures in
    let left = left_of q at to c.in_ok-front-in-Some.front c.self.invariant earliest c.after-self-inside.ensures in
    are_joined left.0 (behind q to) left.2

pub returns-in_ok-front-in-Some-clause-steps : goal.returns-in_ok-front-in-Some-clause-steps
returns-in_ok-front-in-Some-clause-steps g c =
    let f = c.in_ok-front-in-Some.front in
    let q = queues_of c.self.inside.queues.now in
    let earliest = subst (λ o. IsEarliest (behind (queues_of o) c.self.inside.at) (has_class all_classes) all_kinds (Some f)) (sym c.in-Some.is) c.in_ok-front-in-Some.ensures in
    let left = left_of q c.self.inside.at c.after-self-inside.result f c.self.invariant earliest c.after-self-inside.ensures in
    sym c.self.view_is ∙ ap (λ l. map (λ (m : Member g.row.A.Denot). seen m.event) l) (left.1 ∙ ap (λ l. f.member.now ∷ l) (sym (joined_is left.0 (behind q c.after-self-inside.result) left.2)))

pub returns-in_ok-front-in-Some-clause-goes : goal.returns-in_ok-front-in-Some-clause-goes
returns-in_ok-front-in-Some-clause-goes g c = let steps = returns-in_ok-front-in-Some-clause-steps g c in search rules
