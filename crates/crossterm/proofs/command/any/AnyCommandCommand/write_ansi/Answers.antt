use Rattle.std.proofs.Common.{◌≡◌, ◌⊎◌, ◌∙◌, ℕ, List, Result, OnOk, ap, sym, subst, string_bytes}
use Rattle.std.specs.Fmt.{WritesInCalls}
use Rattle.std.proofs.lemmas.Str.{IsUtf8-string_bytes}
use Rattle.crossterm_command.specs.Tokens.{text_of}
use Rattle.crossterm_command.specs.declared.color_output.ColorOutput.{ColorOutput}
use Rattle.crossterm_command.proofs.Readings.{text_printed}
use Rattle.crossterm.specs.Functions.{functions}
use Rattle.crossterm.specs.declared.command.any.AnyCommand.{AnyCommand}
use Rattle.crossterm.proofs.Printed.{text_styled}
use Rattle.crossterm.proofs.command.any.AnyCommandCommand.write_ansi.Goals as goal

-- a text that was written is that of the command's functions
as_text : {W A X E : Type 0} (took : W → List ℕ → W → Type 0) (f g : W) (r : Result X E) (colors : ColorOutput) (command a : AnyCommand A) (text : List ℕ)
    → command ≡ a → text ≡ text_of (functions colors a) → OnOk r (WritesInCalls took f text g ⊎ took f text g)
    → OnOk r (WritesInCalls took f (text_of (functions colors command)) g ⊎ took f (text_of (functions colors command)) g)
as_text took f g r colors command a text is same wrote =
    subst (λ l. OnOk r (WritesInCalls took f l g ⊎ took f l g)) (same ∙ ap (λ c. text_of (functions colors c)) (sym is)) wrote

pub returns-in-PrintStyledContent-clause-ok : goal.returns-in-PrintStyledContent-clause-ok
returns-in-PrintStyledContent-clause-ok g c =
    let styled = c.in-PrintStyledContent.command.0 in let call = c.write_ansi-in-PrintStyledContent in
    let same = text_styled c.args.colors styled.style (string_bytes styled.content) (IsUtf8-string_bytes styled.content) in
    as_text g.W.Write.write_str_gives c.args.f.now call.new.f call.result c.args.colors _ _ _ c.in-PrintStyledContent.is same call.ensures.ok

pub returns-in-Print-clause-ok : goal.returns-in-Print-clause-ok
returns-in-Print-clause-ok g c =
    let text = c.in-Print.command.0 in let call = c.write_ansi-in-Print in
    as_text g.W.Write.write_str_gives c.args.f.now call.new.f call.result c.args.colors _ _ _ c.in-Print.is (sym (text_printed (string_bytes text) (IsUtf8-string_bytes text))) call.ensures.ok
