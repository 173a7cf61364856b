use Rattle.std.proofs.Common.{rules}
use Rattle.crossterm_command.specs.declared.writing.Adapter.{Adapter}
use Rattle.crossterm_command.proofs.Taking.{took_text, if_some_weaken, at_ok}
use Rattle.crossterm_command.proofs.writing.write_command.Goals as goal

pub returns-in-Ok-None-clause-ok : goal.returns-in-Ok-None-clause-ok
returns-in-Ok-None-clause-ok g c =
    let wrote = at_ok c.in-Ok-None.is-0 c.write_ansi-result.ensures.ok in
    if_some_weaken (g.C.Command.text c.args.command.now c.args.colors) _ _ (λ bs took. search rules)
    (took_text {W = Adapter g.row.W.Denot} (λ s. s.inner.ghost_name) (λ s. g.W.Write.contents s.inner.now) (λ s. s.fault) _ _ _ _ c.in-Ok-None.is-1 wrote)

pub returns-in-Ok-Some-clause-err : goal.returns-in-Ok-Some-clause-err
returns-in-Ok-Some-clause-err g c =
    let wrote = at_ok c.in-Ok-Some.is-0 c.write_ansi-result.ensures.ok in
    if_some_weaken (g.C.Command.text c.args.command.now c.args.colors) _ _ (λ bs took. search rules)
    (took_text {W = Adapter g.row.W.Denot} (λ s. s.inner.ghost_name) (λ s. g.W.Write.contents s.inner.now) (λ s. s.fault) _ _ _ _ c.in-Ok-Some.is-1 wrote)
