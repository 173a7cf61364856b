use Rattle.std.proofs.Common.{rules}
use Rattle.crossterm_command.proofs.Taking.{at_ok, if_some_weaken}
use Rattle.crossterm_command.proofs.Texts.{in_calls}
use Rattle.crossterm_c.specs.declared.outlet.Outlet.{Outlet}
use Rattle.crossterm_c.proofs.OutletLaws.{puts_whole}
use Rattle.crossterm_c.proofs.outlet.fill.Goals as goal

pub returns-in-Ok : goal.returns-in-Ok
returns-in-Ok g c = if_some_weaken (g.C.Command.text c.args.command.now c.args.colors) _ _
    (λ bs k. let put = puts_whole {W = Outlet} (λ s. s.slice.ghost_name) (λ s. s.slice.now) (λ s. s.length) _ bs _ (in_calls _ _ bs _ k) in let puts = put.1 in search rules)
    (at_ok c.in-Ok.is c.write_ansi-result.ensures.ok)
