-- The text of a content in its style.
use Rattle.std.proofs.Common.{◌≡◌, ℕ, List, ◌∷◌, ◌++◌, map, sym, ap, ◌∙◌}
use Rattle.std.specs.Str.{chars, IsUtf8}
use Rattle.crossterm_command.specs.Tokens.{text_of}
use Rattle.crossterm_command.specs.Tokens.Token.{Char}
use Rattle.crossterm_command.specs.declared.color_output.ColorOutput.{ColorOutput}
use Rattle.crossterm_command.proofs.Readings.{text_joined, text_printed}
use Rattle.crossterm_style.specs.declared.content_style.ContentStyle.{ContentStyle}
use Rattle.crossterm_style.specs.Acts.{end_acts, style_acts, styled_acts}
use Rattle.crossterm_style.specs.Acts.StyleAct.{Prints}
use Rattle.crossterm_style.specs.Styles.{act_tokens}
use Rattle.crossterm_style.proofs.ActTokens.{tokens_joined}

pub text_styled : (colors : ColorOutput) (s : ContentStyle) (bs : List ℕ) → IsUtf8 bs
    → text_of (act_tokens colors (style_acts s)) ++ (bs ++ text_of (act_tokens colors (end_acts s))) ≡ text_of (act_tokens colors (styled_acts s (chars bs)))
text_styled colors s bs u =
    let printed = map Char (chars bs) in
    let style = act_tokens colors (style_acts s) in
    let end = act_tokens colors (end_acts s) in
    sym (ap text_of (tokens_joined colors (style_acts s) (Prints (chars bs) ∷ end_acts s)) ∙ text_joined style (printed ++ end)
    ∙ ap (λ l. text_of style ++ l) (text_joined printed end ∙ ap (λ l. l ++ text_of end) (text_printed bs u)))
