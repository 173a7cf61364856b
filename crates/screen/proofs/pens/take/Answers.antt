use Rattle.std.proofs.Common.{◌≡◌, ◌⊎◌, ℕ, List, Option, Some, refl, subst}
use Rattle.std.specs.Fmt.{WritesInCalls}
use Rattle.std.proofs.lemmas.Fmt.{contents_after_writes}
use Rattle.crossterm_command.specs.Writing.{Writes}
use Rattle.crossterm_command.specs.declared.fault.CommandFault.TheVariants.{Text}
use Rattle.crossterm_command.proofs.Texts.{in_calls}
use Rattle.screen.proofs.Putting.{text_lost, text_refused, text_waits}
use Rattle.screen.proofs.pens.take.Goals as goal

-- What was written of a text that is there.
of_text : {W : Type 0} {took : W → List ℕ → W → Type 0} (w v : W) (o : Option (List ℕ)) (text : List ℕ) → o ≡ Some text → Writes took w o v → WritesInCalls took w text v ⊎ took w text v
of_text {took = took} w v o text is wrote = subst (λ p. Writes took w p v) is wrote

pub returns-in-Some : goal.returns-in-Some
returns-in-Some g c = λ text known is. text_lost text c.args.pen.now c.in-Some.field-0 known c.in-Some.is

pub returns-in-Ok : goal.returns-in-Ok
returns-in-Ok g c = λ text known is.
    let whole = contents_after_writes _ (λ v. v.bytes) (λ w x v h. h) c.args.pen.now.waiting text c.write_ansi.new.f (in_calls _ _ text _ (of_text c.args.pen.now.waiting c.write_ansi.new.f (g.C.Command.text c.args.command.now c.args.pen.now.colors) text is c.in-Ok.ensures.ok)) in
    text_waits text c.args.pen.now (record c.args.pen.now { waiting = c.write_ansi.new.f }) known c.in-None.is refl refl c.in-None.is whole

pub returns-in-Err : goal.returns-in-Err
returns-in-Err g c = λ text known is. text_refused text c.args.pen.now (record c.args.pen.now { waiting = c.write_ansi.new.f; fault = Some Text }) Text known c.in-None.is refl refl refl
