use Rattle.std.proofs.Common.{◌++◌, inl}
use Rattle.crossterm_command.proofs.Texts.{in_calls}
use Rattle.std.proofs.lemmas.Result.{on_ok_weaker}
use Rattle.crossterm_style.specs.Acts.{attribute_acts, where_there}
use Rattle.crossterm_style.specs.declared.types.colored.Colored.TheVariants.{BackgroundColor, ForegroundColor, UnderlineColor}
use Rattle.crossterm_style.proofs.ActTokens.{tokens_of_acts}
use Rattle.crossterm_style.proofs.commands.styles.SetStyleCommand.write_ansi.Goals as goal

pub returns-clause-ok : goal.returns-clause-ok
returns-clause-ok g c =
    let took = g.W.Write.write_str_gives in
    let colors = c.args.colors in
    let s = c.args.self.now.0 in
    let attributes = attribute_acts s.attributes.0 in
    let underline = where_there UnderlineColor s.underline_color in
    let foreground = where_there ForegroundColor s.foreground_color in
    let background = where_there BackgroundColor s.background_color in
    on_ok_weaker _ (λ last. inl (tokens_of_acts took colors _ background _ (foreground ++ (underline ++ attributes)) _ (in_calls took _ _ _ c.in_ok-set_background.ensures)
    (tokens_of_acts took colors _ foreground _ (underline ++ attributes) _ (in_calls took _ _ _ c.in_ok-set_foreground.ensures) (tokens_of_acts took colors _ underline _ attributes _ (in_calls took _ _ _ c.in_ok-set_underline.ensures) (in_calls took _ _ _ last))))) c.write_ansi.ensures.ok
