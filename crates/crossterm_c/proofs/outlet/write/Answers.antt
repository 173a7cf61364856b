use Rattle.std.proofs.Common.{rules}
use Rattle.std.proofs.lemmas.Fmt.{contents_after_writes}
use Rattle.crossterm_command.proofs.Taking.{at_ok, if_some_weaken}
use Rattle.crossterm_command.proofs.Texts.{in_calls}
use Rattle.crossterm_c.proofs.outlet.write.Goals as goal

pub returns-in-Ok : goal.returns-in-Ok
returns-in-Ok g c = if_some_weaken (g.C.Command.text c.args.command.now c.args.colors) _ _
    (λ bs k. let whole = contents_after_writes _ (λ v. v.bytes) (λ w x v h. h) c.new-short.result bs c.write_ansi.new.f (in_calls _ _ bs _ k) in search rules)
    (at_ok c.in-Ok.is c.write_ansi.ensures.ok)
