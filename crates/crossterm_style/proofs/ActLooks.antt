-- The tokens of acts show as the acts paint.
use Rattle.std.proofs.Common.{◌≡◌, ℕ, List, [], ◌∷◌, ◌++◌, Some, None, refl, sym, ap, ◌∙◌, append_assoc, map}
use Rattle.crossterm_command.specs.Tokens.{Token}
use Rattle.crossterm_command.specs.Tokens.Token.{Char}
use Rattle.crossterm_command.specs.declared.color_output.ColorOutput.{ColorOutput}
use Rattle.crossterm_command.specs.declared.color_output.ColorOutput.TheVariants.{Enabled, Disabled}
use Rattle.crossterm_style.specs.declared.types.attribute.Attribute.{Attribute}
use Rattle.crossterm_style.specs.declared.types.attribute.Attribute.TheVariants as attribute
use Rattle.crossterm_style.specs.declared.types.color.Color.{Color}
use Rattle.crossterm_style.specs.declared.types.colored.Colored.{Colored}
use Rattle.crossterm_style.specs.declared.types.colored.Colored.TheVariants.{ForegroundColor, BackgroundColor, UnderlineColor}
use Rattle.crossterm_style.specs.Acts.{StyleAct, after_act, after_acts, painted, painted_by, shade, with_attribute}
use Rattle.crossterm_style.specs.Acts.StyleAct.{Prints, Colors, Takes}
use Rattle.crossterm_style.specs.Appearance.{ActsShow, ColorsShow, FitsAct, ShowsAs}
use Rattle.crossterm_style.specs.Attributes.{code_of}
use Rattle.crossterm_style.specs.Colors.{FitsColored, colored_text, sgr_of}
use Rattle.crossterm_style.specs.Looks.{Style, after_token, put, sgr, displayed, shown_by, style_after}
use Rattle.crossterm_style.specs.Looks.ColorPlace.{Foreground, Background, Underlining}
use Rattle.crossterm_style.specs.Styles.{act_functions, act_tokens}
use Rattle.crossterm_style.proofs.SgrLooks.{sgr_looks, sgr_shade, sgrs_look, shade_of}

-- ---- tokens and acts in a row

shown_joined : (ts us : List Token) (s : Style) → displayed (ts ++ us) s ≡ displayed ts s ++ displayed us (style_after ts s)
shown_joined [] us s = refl
shown_joined (t ∷ ts) us s = ap (λ l. shown_by t s ++ l) (shown_joined ts us (after_token t s)) ∙ sym (append_assoc (shown_by t s) (displayed ts (after_token t s)) (displayed us (style_after ts (after_token t s))))

style_joined : (ts us : List Token) (s : Style) → style_after (ts ++ us) s ≡ style_after us (style_after ts s)
style_joined [] us s = refl
style_joined (t ∷ ts) us s = style_joined ts us (after_token t s)

painted_joined : (colors : ColorOutput) (xs ys : List StyleAct) (s : Style) → painted colors (xs ++ ys) s ≡ painted colors xs s ++ painted colors ys (after_acts colors xs s)
painted_joined colors [] ys s = refl
painted_joined colors (x ∷ xs) ys s =
    let t = after_act colors x s in
    ap (λ l. painted_by x s ++ l) (painted_joined colors xs ys t) ∙ sym (append_assoc (painted_by x s) (painted colors xs t) (painted colors ys (after_acts colors xs t)))

pub after_joined : (colors : ColorOutput) (xs ys : List StyleAct) (s : Style) → after_acts colors (xs ++ ys) s ≡ after_acts colors ys (after_acts colors xs s)
after_joined colors [] ys s = refl
after_joined colors (x ∷ xs) ys s = after_joined colors xs ys (after_act colors x s)

-- What shows as acts paint, and then what shows as others do.
pub shows_joined : (colors : ColorOutput) (ts us : List Token) (xs ys : List StyleAct) → ((s : Style) → ShowsAs colors ts xs s) → ((s : Style) → ShowsAs colors us ys s)
    → (s : Style) → ShowsAs colors (ts ++ us) (xs ++ ys) s
shows_joined colors ts us xs ys first second s =
    let (a, b) = first s in
    let (d, e) = second (after_acts colors xs s) in (
      shown_joined ts us s ∙ ap (λ l. l ++ displayed us (style_after ts s)) a ∙ ap (λ z. painted colors xs s ++ displayed us z) b ∙ ap (λ l. painted colors xs s ++ l) d ∙ sym (painted_joined colors xs ys s),
      style_joined ts us s ∙ ap (style_after us) b ∙ e ∙ sym (after_joined colors xs ys s),
    )

-- ---- one act

chars_shown : (cs : List ℕ) (s : Style) → displayed (map Char cs) s ≡ map (λ c. (c, s)) cs
chars_shown [] s = refl
chars_shown (c ∷ cs) s = ap (λ l. (c, s) ∷ l) (chars_shown cs s)

chars_keep : (cs : List ℕ) (s : Style) → style_after (map Char cs) s ≡ s
chars_keep [] s = refl
chars_keep (c ∷ cs) s = chars_keep cs s

attribute_looks : (a : Attribute) (s : Style) → sgr (code_of a) s ≡ with_attribute a s
attribute_looks attribute.Reset s = refl
attribute_looks a s = refl

color_looks : (colors : ColorOutput) (c : Colored) (s : Style) → FitsColored c → sgr (colored_text colors c) s ≡ after_act colors (Colors c) s
color_looks Disabled c s h = refl
color_looks Enabled (ForegroundColor c) s h = sgr_looks Foreground (sgr_of c) s h ∙ ap (λ o. put Foreground o s) (shade_of c)
color_looks Enabled (BackgroundColor c) s h = sgr_looks Background (sgr_of c) s h ∙ ap (λ o. put Background o s) (shade_of c)
color_looks Enabled (UnderlineColor c) s h = sgr_looks Underlining (sgr_of c) s h ∙ ap (λ o. put Underlining o s) (shade_of c)

act_shown : (colors : ColorOutput) (a : StyleAct) (s : Style) → displayed (act_functions colors a) s ≡ painted_by a s
act_shown colors (Prints cs) s = chars_shown cs s
act_shown colors (Colors c) s = refl
act_shown colors (Takes a) s = refl

act_after : (colors : ColorOutput) (a : StyleAct) (s : Style) → FitsAct a → style_after (act_functions colors a) s ≡ after_act colors a s
act_after colors (Prints cs) s h = chars_keep cs s
act_after colors (Colors c) s h = color_looks colors c s h
act_after colors (Takes a) s h = attribute_looks a s

-- ---- acts

pub acts_show : ActsShow
acts_show colors [] s h = (refl, refl)
acts_show colors (a ∷ acts) s h =
    let rest = act_tokens colors acts in
    let t = after_act colors a s in
    let (shows, leaves) = acts_show colors acts t h.1 in
    let same : style_after (act_functions colors a) s ≡ t = act_after colors a s h.0 in (
      shown_joined (act_functions colors a) rest s ∙ ap (λ l. l ++ displayed rest (style_after (act_functions colors a) s)) (act_shown colors a s)
          ∙ ap (λ z. painted_by a s ++ displayed rest z) same ∙ ap (λ l. painted_by a s ++ l) shows,
      style_joined (act_functions colors a) rest s ∙ ap (style_after rest) same ∙ leaves,
    )

-- ---- two colours by one sequence

both_look : (f b : Color) (s : Style) → FitsColored (ForegroundColor f) → FitsColored (BackgroundColor b)
    → sgr (colored_text Enabled (ForegroundColor f) ++ (59 ∷ colored_text Enabled (BackgroundColor b))) s ≡ put Background (shade b) (put Foreground (shade f) s)
both_look f b s h k =
    sgrs_look Foreground (sgr_of f) Background (sgr_of b) s h k ∙ ap (λ o. put Background o (put Foreground (sgr_shade (sgr_of f)) s)) (shade_of b) ∙ ap (λ o. put Background (shade b) (put Foreground o s)) (shade_of f)

pub colors_show : ColorsShow
colors_show Disabled (Some f) (Some b) s h = (refl, refl)
colors_show Enabled (Some f) (Some b) s h = (refl, both_look f b s h.0 h.1.0)
colors_show colors (Some f) None s h = (refl, color_looks colors (ForegroundColor f) s h.0)
colors_show colors None (Some b) s h = (refl, color_looks colors (BackgroundColor b) s h.0)
colors_show colors None None s h = (refl, refl)
