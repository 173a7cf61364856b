-- Events that are given one after another come in order.
use Rattle.std.proofs.Common.{◌≡◌, [], ◌∷◌, refl, subst, ap, arith, ◌∙◌}
use Rattle.crossterm_types.specs.Seen.{seen}
use Rattle.crossterm_parse.specs.declared.parse.events.Events.{Events}
use Rattle.crossterm_parse.specs.Giving.{GivesInOrder, KeepsParser, events_left_in}

module _ {A : Type 0} where
  keeps_itself : (e : Events A) → KeepsParser e e
  keeps_itself e = record { same = refl; represents = λ before s. s; capacity = refl; room = omega arith }

  keeps_on : (d e f : Events A) → KeepsParser d e → KeepsParser e f → KeepsParser d f
  keeps_on d e f p q = record { same = q.same ∙ p.same; represents = λ before s. q.represents before (p.represents before s); capacity = q.capacity ∙ p.capacity; room = omega (arith, p.room, q.room) }

  pub gives_in_order : (e : Events A) → GivesInOrder e
  gives_in_order e [] f run = subst (λ x. (events_left_in e ≡ events_left_in x) × KeepsParser e x) run (refl, keeps_itself e)
  gives_in_order e (x ∷ xs) f run =
      let step = run.1 in
      let rest = gives_in_order run.0 xs f run.2 in
      (step.0 ∙ ap (λ l. seen x ∷ l) rest.0, keeps_on e run.0 f step.1 rest.1)
