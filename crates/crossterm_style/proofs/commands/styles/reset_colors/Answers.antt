use Rattle.std.proofs.Common.{inl, Some, Option, ◌++◌, subst}
use Rattle.std.proofs.lemmas.Result.{on_ok_weaker}
use Rattle.crossterm_command.proofs.Texts.{in_calls}
use Rattle.crossterm_command.specs.Writing.{Writes}
use Rattle.std.specs.Prelude.{OnOk}
use Rattle.crossterm_command.specs.Tokens.{text_of}
use Rattle.crossterm_style.specs.declared.types.color.Color.{Color}
use Rattle.crossterm_style.specs.declared.types.colored.Colored.TheVariants.{BackgroundColor, ForegroundColor}
use Rattle.crossterm_style.specs.Acts.{reset_where, where_there}
use Rattle.crossterm_style.specs.Styles.{act_tokens}
use Rattle.crossterm_style.proofs.ActTokens.{tokens_of_acts}
use Rattle.crossterm_style.proofs.commands.styles.reset_colors.Goals as goal

pub returns : goal.returns
returns g c =
    let took = g.W.Write.write_str_gives in
    let colors = c.args.colors in
    let back = where_there BackgroundColor in
    let front = where_there ForegroundColor in
    let Written : Option Color → Option Color → Type 0 = λ b f.
    OnOk c.set_foreground.result (Writes took c.args.f.now (Some (text_of (act_tokens colors (back b ++ front f)))) c.set_foreground.new.f) in
    let both : Written c.reset_where.result c.reset_where-2.result = on_ok_weaker _ (λ last. inl (tokens_of_acts took colors _ (back c.reset_where.result) _ (front c.reset_where-2.result) _ (in_calls took _ _ _ c.in_ok-set_background.ensures) (in_calls took _ _ _ last))) c.set_foreground.ensures in
    subst (λ f. Written (reset_where c.args.background) f) c.reset_where-2.ensures (subst (λ b. Written b c.reset_where-2.result) c.reset_where.ensures both)
