use Rattle.std.proofs.Common.{sym, subst}
use Rattle.crossterm_read.specs.Waking.{AreOneKind}
use Rattle.crossterm_read.specs.declared.source.waker.Kind.TheVariants.{Nobody, Flag}
use Rattle.crossterm_read.proofs.source.waker.Waker.share.Goals as goal

pub returns-in-Nobody-clause-same : goal.returns-in-Nobody-clause-same
returns-in-Nobody-clause-same c = subst (λ k. AreOneKind k c.none.result.kind) (sym c.in-Nobody.is) (subst (λ k. AreOneKind Nobody k) (sym c.none.ensures.nobody) tt)

pub returns-in_ok-try_clone-in-Flag-clause-same : goal.returns-in_ok-try_clone-in-Flag-clause-same
returns-in_ok-try_clone-in-Flag-clause-same c =
    subst (λ k. AreOneKind k c.from_flag.result.kind) (sym c.in-Flag.is) (subst (λ k. AreOneKind (Flag c.in-Flag.flag) k) (sym c.from_flag.ensures.flag) (sym c.in_ok-try_clone-in-Flag.ensures))
