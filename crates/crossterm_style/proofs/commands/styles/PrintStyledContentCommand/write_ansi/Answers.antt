use Rattle.std.proofs.Common.{Some}
use Rattle.std.proofs.lemmas.Result.{on_ok_weaker}
use Rattle.std.specs.Fmt.{option_append}
use Rattle.crossterm_command.specs.Tokens.{text_of}
use Rattle.crossterm_command.proofs.Texts.{in_calls, text_of_both, text_writes}
use Rattle.crossterm_style.specs.Acts.{end_acts, style_acts}
use Rattle.crossterm_style.specs.Styles.{act_tokens}
use Rattle.crossterm_style.proofs.commands.styles.PrintStyledContentCommand.write_ansi.Goals as goal

pub returns-clause-ok : goal.returns-clause-ok
returns-clause-ok g c =
    let took = g.W.Write.write_str_gives in
    let styled = c.args.self.now.0 in
    let content = g.D.Display.output styled.content in
    let end = Some (text_of (act_tokens c.args.colors (end_acts styled.style))) in
    on_ok_weaker _ (λ last. text_writes took _ _ _ (text_of_both took _ (Some (text_of (act_tokens c.args.colors (style_acts styled.style)))) _ (option_append content end) _ (in_calls took _ _ _ c.in_ok-write_ansi.ensures.ok)
    (text_of_both took _ content _ end _ c.in_ok-write.ensures.writes (in_calls took _ _ _ last)))) c.end_style.ensures
