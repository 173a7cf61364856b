use Rattle.std.proofs.Common.{ℕ, refl, sym, subst, [], ◌∷◌}
use Rattle.crossterm_parse.specs.Transitions.{Opens}
use Rattle.crossterm_parse.specs.declared.state.State.TheVariants.{Escape, Csi}
use Rattle.crossterm_parse.proofs.state.State.open_front.Goals as goal

pub returns-then-introduce-clause-three : goal.returns-then-introduce-clause-three
returns-then-introduce-clause-three c three =
    subst (λ (b : ℕ). Opens Escape c.introduce.new.self (b ∷ c.args.third ∷ [])) (sym c.in-91.is)
    (Csi, (λ raw pause. refl), refl, (c.introduce.new.self, (λ raw pause. c.introduce.ensures.reads.yes c.if-introduce.true raw pause), c.introduce.ensures.outside, refl))
