use Rattle.std.proofs.Common.{rules}
use Rattle.std.proofs.lemmas.Fmt.{contents_after_writes}
use Rattle.crossterm_command.proofs.Taking.{at_ok, if_some_weaken}
use Rattle.crossterm_command.proofs.Texts.{in_calls}
use Rattle.crossterm_command.specs.Writing.{AppendsFront}
use Rattle.crossterm_command.specs.declared.color_output.ColorOutput.TheVariants.{Enabled}
use Rattle.std.specs.Io.KnownBytes.{Appends}
use Rattle.prompt.proofs.Sending.{sent_err, sent_ok}
use Rattle.prompt.proofs.drawing.send.Goals as goal

pub returns-in-Ok-clause-ok : goal.returns-in-Ok-clause-ok
returns-in-Ok-clause-ok g c =
    let is = if_some_weaken (g.C.Command.text c.args.command.now Enabled) _ _
    (λ bs k. let whole = contents_after_writes _ (λ v. v.bytes) (λ w x v h. h) c.new-text.result bs c.write_ansi.new.f (in_calls _ _ bs _ k) in search rules)
    (at_ok c.in-Ok.is c.write_ansi.ensures.ok) in
    sent_ok c.write_text.result _ (Appends (g.W.Write.contents c.args.out.now) (g.W.Write.contents c.write_text.new.writer)) c.as_str.result.now is c.write_text.ensures.ok

pub returns-in-Ok-clause-err : goal.returns-in-Ok-clause-err
returns-in-Ok-clause-err g c =
    let is = if_some_weaken (g.C.Command.text c.args.command.now Enabled) _ _
    (λ bs k. let whole = contents_after_writes _ (λ v. v.bytes) (λ w x v h. h) c.new-text.result bs c.write_ansi.new.f (in_calls _ _ bs _ k) in search rules)
    (at_ok c.in-Ok.is c.write_ansi.ensures.ok) in
    sent_err c.write_text.result _ (AppendsFront (g.W.Write.contents c.args.out.now) (g.W.Write.contents c.write_text.new.writer)) c.as_str.result.now is c.write_text.ensures.err
