-- How a terminal shows what it reads: each character has the style that is set when it is printed. SGR alone changes
-- the style (ECMA-48, 8.3.117; the kinds of underlines and their colour as kitty and xterm read them).
use Rattle.std.specs.Prelude.{ℕ, zero, suc, ◌==◌, ◌&&◌, nat_le, nat_lt, Bool, true, false, List, [], ◌∷◌, ◌++◌, Option, Some, None, map, if◌then◌else◌}
use Rattle.std.specs.List.{list_all, slice_split}
use Rattle.std.specs.Str.Parse.{digits_value}
use Rattle.crossterm_command.specs.Tokens.{Token}
use Rattle.crossterm_command.specs.Tokens.Token.{Char, Csi}
use Rattle.crossterm_style.specs.declared.types.color.Color.{Color}
use Rattle.crossterm_style.specs.declared.types.color.Color.TheVariants as color
use Rattle.crossterm_style.specs.Colors.{indexed_color}

-- ---- a style

-- The kinds of an underline.
pub data Underline : Type 0 where
  Straight : Underline
  Double : Underline
  Curled : Underline
  Dotted : Underline
  Dashed : Underline

-- The kinds of blinking.
pub data Blink : Type 0 where
  Slow : Blink
  Rapid : Blink

-- The style of a character. A colour that is `None` is the terminal's own, and there is one kind of underline and of
-- blinking at most.
pub record Style : Type 0 where
  pub foreground : Option Color
  pub background : Option Color
  pub underline_color : Option Color
  pub underline : Option Underline
  pub blink : Option Blink
  pub bold : Bool
  pub dim : Bool
  pub italic : Bool
  pub fraktur : Bool
  pub reverse : Bool
  pub hidden : Bool
  pub crossed_out : Bool
  pub framed : Bool
  pub encircled : Bool
  pub overlined : Bool

-- The style without any colour or attribute.
abbrev pub plain : Style
plain = record {
  foreground = None;
  background = None;
  underline_color = None;
  underline = None;
  blink = None;
  bold = false;
  dim = false;
  italic = false;
  fraktur = false;
  reverse = false;
  hidden = false;
  crossed_out = false;
  framed = false;
  encircled = false;
  overlined = false;
}

-- The part of a look that a colour is for.
pub data ColorPlace : Type 0 where
  Foreground : ColorPlace
  Background : ColorPlace
  Underlining : ColorPlace

-- The style with a colour at a place. `None` is the terminal's own colour.
abbrev pub put : ColorPlace → Option Color → Style → Style
put Foreground o s = record s { foreground = o }
put Background o s = record s { background = o }
put Underlining o s = record s { underline_color = o }

-- ---- the parameters of SGR

-- A parameter of SGR.
pub data Parameter : Type 0 where
  -- A number below 256 in digits. An empty one is 0.
  Number : ℕ → Parameter
  -- The number 4, and after a colon the kind of an underline.
  Kind : ℕ → Parameter
  -- Any other parameter.
  Other : Parameter

-- Whether a byte is a decimal digit.
abbrev pub is_decimal : ℕ → Bool
is_decimal c = nat_le 48 c && nat_le c 57

-- The number of digits if it is below 256, 0 if there are none, and `None` otherwise.
abbrev pub byte_number : List ℕ → Option ℕ
byte_number digits = if list_all is_decimal digits && nat_lt (digits_value 10 digits) 256 then Some (digits_value 10 digits) else None

-- A parameter that is a number, or another one if there is no number.
abbrev pub number_or_other : Option ℕ → Parameter
number_or_other (Some n) = Number n
number_or_other None = Other

-- The kind of an underline if the first number is 4 and the second is there, otherwise another parameter.
abbrev pub kind_or_other : Option ℕ → Option ℕ → Parameter
kind_or_other (Some n) (Some k) = if n == 4 then Kind k else Other
kind_or_other n k = Other

-- A parameter by its parts between colons: a number, the kind of an underline as in `4:3`, or another one.
abbrev pub parameter_of : List (List ℕ) → Parameter
parameter_of (n ∷ []) = number_or_other (byte_number n)
parameter_of (n ∷ kind ∷ []) = kind_or_other (byte_number n) (byte_number kind)
parameter_of parts = Other

-- The parameter that a text is.
abbrev pub parameter : List ℕ → Parameter
parameter text = parameter_of (slice_split (λ b. b == 58) text)

-- The parameters of a text between semicolons. There is at least one.
abbrev pub parameters : List ℕ → List Parameter
parameters text = map parameter (slice_split (λ b. b == 59) text)

-- ---- what they do to a style

-- The style after a parameter that is a number. Unknown numbers change nothing.
abbrev pub by_number : ℕ → Style → Style
by_number n s =
    if n == 0 then plain else (
    if n == 1 then record s { bold = true } else (
    if n == 2 then record s { dim = true } else (
    if n == 3 then record s { italic = true } else (
    if n == 4 then record s { underline = Some Straight } else (
    if n == 5 then record s { blink = Some Slow } else (
    if n == 6 then record s { blink = Some Rapid } else (
    if n == 7 then record s { reverse = true } else (
    if n == 8 then record s { hidden = true } else (
    if n == 9 then record s { crossed_out = true } else (
    if n == 20 then record s { fraktur = true } else (
    if n == 21 then record s { bold = false } else (
    if n == 22 then record s { bold = false; dim = false } else (
    if n == 23 then record s { italic = false; fraktur = false } else (
    if n == 24 then record s { underline = None } else (
    if n == 25 then record s { blink = None } else (
    if n == 27 then record s { reverse = false } else (
    if n == 28 then record s { hidden = false } else (
    if n == 29 then record s { crossed_out = false } else (
    if n == 39 then put Foreground None s else (
    if n == 49 then put Background None s else (
    if n == 51 then record s { framed = true } else (
    if n == 52 then record s { encircled = true } else (
    if n == 53 then record s { overlined = true } else (
    if n == 54 then record s { framed = false; encircled = false } else (
    if n == 55 then record s { overlined = false } else (
    if n == 59 then put Underlining None s else (
    s)))))))))))))))))))))))))))

-- The style after a kind of underline from 2 to 5. Other kinds change nothing.
abbrev pub by_kind : ℕ → Style → Style
by_kind k s =
    if k == 2 then record s { underline = Some Double } else (
    if k == 3 then record s { underline = Some Curled } else (
    if k == 4 then record s { underline = Some Dotted } else (
    if k == 5 then record s { underline = Some Dashed } else (
    s))))

-- The place that a number sets to the colour behind it, or `None` for other numbers.
abbrev pub color_place : ℕ → Option ColorPlace
color_place n = if n == 38 then Some Foreground else (if n == 48 then Some Background else (if n == 58 then Some Underlining else None))

-- The colour of `r` and the next two parameters, and how many parameters it takes. `None` if they aren't numbers.
abbrev pub rgb_at : ℕ → List Parameter → Option (Color × ℕ)
rgb_at r (Number g ∷ Number b ∷ rest) = Some (color.Rgb r g b, 4)
rgb_at r ps = None

-- The colour that parameters begin with, and how many it takes: `5;n`, or `2;r;g;b`. `None` if there is none.
abbrev pub color_at : List Parameter → Option (Color × ℕ)
color_at (Number form ∷ Number n ∷ rest) = if form == 5 then Some (indexed_color n, 2) else (if form == 2 then rgb_at n rest else None)
color_at ps = None

-- The style after parameters, one after another, without the first `taken` ones, which are a colour's.
-- A place without a colour behind it ends the reading.
abbrev pub by_parameters : List Parameter → ℕ → Style → Style
by_parameters [] taken s = s
by_parameters (p ∷ ps) (suc taken) s = by_parameters ps taken s
by_parameters (Number n ∷ ps) zero s =
    elim (color_place n) [
      | None ↦ by_parameters ps zero (by_number n s)
      | Some place ↦ elim (color_at ps) [ None ↦ s | Some found ↦ by_parameters ps found.1 (put place (Some found.0) s) ]
    ]
by_parameters (Kind k ∷ ps) zero s = by_parameters ps zero (by_kind k s)
by_parameters (Other ∷ ps) zero s = by_parameters ps zero s

-- Whether parameters are private, and so not SGR's: their first byte is 3C or above.
abbrev pub are_private : List ℕ → Bool
are_private [] = false
are_private (b ∷ bs) = nat_le 0x3C b

-- The style after SGR with these parameters. Private ones change nothing.
abbrev pub sgr : List ℕ → Style → Style
sgr text s = if are_private text then s else by_parameters (parameters text) 0 s

-- ---- tokens

-- The style after a token. Only SGR changes it.
abbrev pub after_token : Token → Style → Style
after_token (Csi text [] final) s = if final == 0x6D then sgr text s else s
after_token t s = s

-- The character that a token prints, with the style. Other tokens print none.
abbrev pub shown_by : Token → Style → List (ℕ × Style)
shown_by (Char c) s = (c, s) ∷ []
shown_by t s = []

-- Each character that tokens print, with the style that is set when it is printed.
abbrev pub displayed : List Token → Style → List (ℕ × Style)
displayed [] s = []
displayed (t ∷ ts) s = shown_by t s ++ displayed ts (after_token t s)

-- The style after tokens, one after another.
abbrev pub style_after : List Token → Style → Style
style_after [] s = s
style_after (t ∷ ts) s = style_after ts (after_token t s)
