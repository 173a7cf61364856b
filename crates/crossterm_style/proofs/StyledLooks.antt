-- When a content in its style leaves the plain style plain, and some looks.
use Rattle.std.proofs.Common.{◌≡◌, ◌≢◌, ℕ, ◌==◌, Bool, true, false, cond, List, [], ◌∷◌, ◌++◌, Option, Some, None, ◌⊎◌, inl, inr, ◌↔◌, refl, sym, ap, ◌∙◌, arith, codes}
use Rattle.std.specs.List.{AllByRecursion}
use Rattle.std.proofs.lemmas.Bool.Decides.{nat_tests}
use Rattle.crossterm_command.specs.declared.color_output.ColorOutput.TheVariants.{Enabled}
use Rattle.crossterm_command.proofs.Readings.{all_joined}
use Rattle.crossterm_style.specs.declared.types.attribute.Attribute.TheVariants.{Bold, Reset}
use Rattle.crossterm_style.specs.declared.types.color.Color.{Color}
use Rattle.crossterm_style.specs.declared.types.color.Color.TheVariants as color
use Rattle.crossterm_style.specs.declared.types.colored.Colored.TheVariants.{ForegroundColor, BackgroundColor, UnderlineColor}
use Rattle.crossterm_style.specs.declared.content_style.ContentStyle.{ContentStyle}
use Rattle.crossterm_style.specs.Acts.{StyleAct, after_acts, attribute_acts, either_there, end_acts, reset_acts, shade, style_acts, styled_acts, where_there}
use Rattle.crossterm_style.specs.Acts.StyleAct.{Colors, Prints, Takes}
use Rattle.crossterm_style.specs.Appearance.{DisabledMakesPlain, FitsAct, OneUnderline, IndexedHasNames, ResetComesFirst, StyledEndsPlain, UnderlineColorStays}
use Rattle.crossterm_style.specs.Attributes.{members, of_list}
use Rattle.crossterm_style.specs.Looks.{plain, put, style_after}
use Rattle.crossterm_style.specs.Looks.ColorPlace.{Underlining}
use Rattle.crossterm_style.specs.Styles.{no_style, act_tokens}
use Rattle.crossterm_style.proofs.ActLooks.{acts_show, after_joined}

-- ---- the end of a content in its style

reset_fits : (b f : Bool) → AllByRecursion FitsAct (reset_acts b f)
reset_fits true true = (tt, (tt, tt))
reset_fits true false = (tt, tt)
reset_fits false true = (tt, tt)
reset_fits false false = tt

end_fits : (s : ContentStyle) → AllByRecursion FitsAct (end_acts s)
end_fits s =
    let resets = reset_acts (either_there s.background_color None) (either_there s.foreground_color s.underline_color) in
    elim (s.attributes.0 == 0) as (λ b. AllByRecursion FitsAct (cond b resets (Takes Reset ∷ []))) [ true ↦ reset_fits _ _ | false ↦ (tt, tt) ]

pub styled_fits : (s : ContentStyle) (content : List ℕ) → AllByRecursion FitsAct (style_acts s) → AllByRecursion FitsAct (styled_acts s content)
styled_fits s content h = all_joined FitsAct (style_acts s) (Prints content ∷ end_acts s) h (tt, end_fits s)

zero_is : (n : ℕ) → (n == 0) ≡ true → n ≡ 0
zero_is n e = grind (arith, nat_tests)

not_zero : (n : ℕ) → (n == 0) ≡ false → n ≢ 0
not_zero n e z = grind (arith, nat_tests)

no_members : (bits : ℕ) → (bits == 0) ≡ true → attribute_acts bits ≡ []
unfolding members
no_members bits e = rw (zero_is bits e) refl

-- The colour of an underline as it looks.
abbrev shade_there : Option Color → Option Color
shade_there None = None
shade_there (Some c) = shade c

-- A style without attributes, and its end.
colors_end : (b f u : Option Color)
    → after_acts Enabled (reset_acts (either_there b None) (either_there f u)) (after_acts Enabled (where_there BackgroundColor b ++ (where_there ForegroundColor f ++ (where_there UnderlineColor u ++ []))) plain)
    ≡ put Underlining (shade_there u) plain
colors_end None None None = refl
colors_end None None (Some u) = refl
colors_end None (Some f) None = refl
colors_end None (Some f) (Some u) = refl
colors_end (Some b) None None = refl
colors_end (Some b) None (Some u) = refl
colors_end (Some b) (Some f) None = refl
colors_end (Some b) (Some f) (Some u) = refl

without_attributes : (s : ContentStyle) (content : List ℕ) → (s.attributes.0 == 0) ≡ true → after_acts Enabled (styled_acts s content) plain ≡ put Underlining (shade_there s.underline_color) plain
without_attributes s content e =
    after_joined Enabled (style_acts s) (Prints content ∷ end_acts s) plain
    ∙ rw (e, no_members s.attributes.0 e) (colors_end s.background_color s.foreground_color s.underline_color)

with_attributes : (s : ContentStyle) (content : List ℕ) → (s.attributes.0 == 0) ≡ false → after_acts Enabled (styled_acts s content) plain ≡ plain
with_attributes s content e = after_joined Enabled (style_acts s) (Prints content ∷ end_acts s) plain ∙ rw e refl

abbrev HasOwn : Option Color → Type 0
HasOwn u = (u ≡ None) ⊎ (u ≡ Some color.Reset)

own_from : (u : Option Color) → shade_there u ≡ None → HasOwn u
own_from None e = inl refl
own_from (Some color.Reset) e = inr refl
own_from (Some c) e = cc

own_to : (u : Option Color) → HasOwn u → shade_there u ≡ None
own_to u (inl e) = rw e refl
own_to u (inr e) = rw e refl

pub styled_ends_plain : StyledEndsPlain
styled_ends_plain s content h =
    let same = (acts_show Enabled (styled_acts s content) plain (styled_fits s content h)).1 in
    let Ends : Type 0 = style_after (act_tokens Enabled (styled_acts s content)) plain ≡ plain in
    let Has : Type 0 = (s.attributes.0 ≢ 0) ⊎ HasOwn s.underline_color in
    elim (s.attributes.0 == 0) as (λ b. (s.attributes.0 == 0) ≡ b → Ends ↔ Has) [
      | true ↦ λ e.
          let ends = without_attributes s content e in (
            (λ p. inr (own_from s.underline_color (ap (λ z. z.underline_color) (sym ends ∙ sym same ∙ p)))),
            (λ has. elim has [ inl other ↦ absurd (other (zero_is s.attributes.0 e)) | inr own ↦ same ∙ ends ∙ ap (λ o. put Underlining o plain) (own_to s.underline_color own) ]),
          )
      | false ↦ λ e. ((λ p. inl (not_zero s.attributes.0 e)), (λ has. same ∙ with_attributes s content e))
    ] refl

-- ---- some looks

pub indexed_has_names : IndexedHasNames
indexed_has_names =
    let acts : List StyleAct = (Colors (ForegroundColor (color.AnsiValue 9)) ∷ Prints (codes "a") ∷ []) in
    let fits : AllByRecursion FitsAct acts = (omega arith, (tt, tt)) in ((acts_show Enabled acts plain fits).0, refl)

pub disabled_makes_plain : DisabledMakesPlain
disabled_makes_plain = (refl, refl)

pub reset_comes_first : ResetComesFirst
unfolding members
reset_comes_first =
    let acts : List StyleAct = (Colors (ForegroundColor color.Red) ∷ (attribute_acts (of_list (Bold ∷ Reset ∷ [])) ++ (Prints (codes "x") ∷ []))) in
    let fits : AllByRecursion FitsAct acts = (omega arith, (tt, (tt, (tt, tt)))) in ((acts_show Enabled acts plain fits).0, refl)

pub one_underline : OneUnderline
one_underline = (refl, refl)

pub underline_color_stays : UnderlineColorStays
unfolding members
underline_color_stays =
    let acts : List StyleAct = (styled_acts (record no_style { underline_color = Some color.Green }) (codes "x") ++ (Prints (codes "y") ∷ [])) in
    let fits : AllByRecursion FitsAct acts = (omega arith, (tt, (tt, (tt, tt)))) in ((acts_show Enabled acts plain fits).0, refl)

-- What is said of some looks.
pub ruleset said = (indexed_has_names, disabled_makes_plain, reset_comes_first, one_underline, underline_color_stays)
