-- How colours are written as SGR parameters, and how an SGR colour is read.
use Rattle.std.specs.Prelude.{◌≡◌, ℕ, ◌==◌, ◌<◌, ⊤, List, [], ◌++◌, Option, Some, None, codes, if◌then◌else◌}
use Rattle.std.specs.Fmt.{decimal}
use Rattle.crossterm_command.specs.declared.color_output.ColorOutput.{ColorOutput}
use Rattle.crossterm_command.specs.declared.color_output.ColorOutput.TheVariants.{Enabled, Disabled}
use Rattle.crossterm_style.specs.declared.types.color.Color.{Color}
use Rattle.crossterm_style.specs.declared.types.color.Color.TheVariants as color
use Rattle.crossterm_style.specs.declared.types.colored.Colored.{Colored}
use Rattle.crossterm_style.specs.declared.types.colored.Colored.TheVariants.{ForegroundColor, BackgroundColor, UnderlineColor}
use Rattle.crossterm_style.specs.declared.types.colors.Colors.{Colors}
use Rattle.crossterm_style.specs.declared.types.sgr.SgrColor.{SgrColor}
use Rattle.crossterm_style.specs.declared.types.sgr.SgrColor.TheVariants.{Own, Indexed, Rgb}

-- ---- how it is written

-- The SGR colour that is written for a colour: the named ones are the first sixteen of the palette.
abbrev pub sgr_of : Color → SgrColor
sgr_of color.Reset = Own
sgr_of color.Black = Indexed 0
sgr_of color.DarkRed = Indexed 1
sgr_of color.DarkGreen = Indexed 2
sgr_of color.DarkYellow = Indexed 3
sgr_of color.DarkBlue = Indexed 4
sgr_of color.DarkMagenta = Indexed 5
sgr_of color.DarkCyan = Indexed 6
sgr_of color.Grey = Indexed 7
sgr_of color.DarkGrey = Indexed 8
sgr_of color.Red = Indexed 9
sgr_of color.Green = Indexed 10
sgr_of color.Yellow = Indexed 11
sgr_of color.Blue = Indexed 12
sgr_of color.Magenta = Indexed 13
sgr_of color.Cyan = Indexed 14
sgr_of color.White = Indexed 15
sgr_of (color.Rgb r g b) = Rgb r g b
sgr_of (color.AnsiValue n) = Indexed n

-- The SGR parameters of a colour: `set` and then `;5;n` or `;2;r;g;b`, or `reset` for the terminal's own colour.
abbrev pub sgr_text : List ℕ → List ℕ → SgrColor → List ℕ
sgr_text set reset Own = reset
sgr_text set reset (Indexed n) = set ++ (codes ";5;" ++ decimal n)
sgr_text set reset (Rgb r g b) = set ++ (codes ";2;" ++ (decimal r ++ (codes ";" ++ (decimal g ++ (codes ";" ++ decimal b)))))

-- The SGR parameters of a colour at its place, as `38;5;9` for a red foreground. There are none if colours aren't
-- written.
abbrev pub colored_text : ColorOutput → Colored → List ℕ
colored_text Disabled c = []
colored_text Enabled (ForegroundColor c) = sgr_text (codes "38") (codes "39") (sgr_of c)
colored_text Enabled (BackgroundColor c) = sgr_text (codes "48") (codes "49") (sgr_of c)
colored_text Enabled (UnderlineColor c) = sgr_text (codes "58") (codes "59") (sgr_of c)

-- ---- how it is read

-- The palette's colour of this number. The first sixteen have names.
abbrev pub indexed_color : ℕ → Color
indexed_color n =
    if n == 0 then color.Black else (
    if n == 1 then color.DarkRed else (
    if n == 2 then color.DarkGreen else (
    if n == 3 then color.DarkYellow else (
    if n == 4 then color.DarkBlue else (
    if n == 5 then color.DarkMagenta else (
    if n == 6 then color.DarkCyan else (
    if n == 7 then color.Grey else (
    if n == 8 then color.DarkGrey else (
    if n == 9 then color.Red else (
    if n == 10 then color.Green else (
    if n == 11 then color.Yellow else (
    if n == 12 then color.Blue else (
    if n == 13 then color.Magenta else (
    if n == 14 then color.Cyan else (
    if n == 15 then color.White else (
    color.AnsiValue n))))))))))))))))

-- The colour that an SGR colour is. The palette's first sixteen have names.
abbrev pub color_of : SgrColor → Color
color_of Own = color.Reset
color_of (Indexed n) = indexed_color n
color_of (Rgb r g b) = color.Rgb r g b

-- A colour at its place, by its name if it is one of the palette's first sixteen.
abbrev pub with_name : Colored → Colored
with_name (ForegroundColor c) = ForegroundColor (color_of (sgr_of c))
with_name (BackgroundColor c) = BackgroundColor (color_of (sgr_of c))
with_name (UnderlineColor c) = UnderlineColor (color_of (sgr_of c))

-- The numbers of an SGR colour are bytes.
abbrev pub FitsSgr : SgrColor → Type 0
FitsSgr Own = ⊤
FitsSgr (Indexed n) = n < 256
FitsSgr (Rgb r g b) = (r < 256) × (g < 256) × (b < 256)

-- The numbers of a colour at its place are bytes.
abbrev pub FitsColored : Colored → Type 0
FitsColored (ForegroundColor c) = FitsSgr (sgr_of c)
FitsColored (BackgroundColor c) = FitsSgr (sgr_of c)
FitsColored (UnderlineColor c) = FitsSgr (sgr_of c)

-- ---- a foreground and a background

-- Neither a foreground nor a background.
abbrev pub no_colors : Colors
no_colors = record { foreground = None; background = None }

-- A foreground colour becomes the foreground. A background or underline colour becomes the background.
abbrev pub colors_of : Colored → Colors
colors_of (ForegroundColor c) = record { foreground = Some c; background = None }
colors_of (BackgroundColor c) = record { foreground = None; background = Some c }
colors_of (UnderlineColor c) = record { foreground = None; background = Some c }

-- The later of two colours, or the first one if there is no later one.
abbrev pub later_color : Option Color → Option Color → Option Color
later_color first None = first
later_color first (Some c) = Some c

-- Colours after others: at each place the later one, or the first one if there is no later one.
abbrev pub later : Colors → Colors → Colors
later first second = record {
  foreground = later_color first.foreground second.foreground;
  background = later_color first.background second.background;
}

-- At each place the later colour wins, and the first one stays if there is no later one.
abbrev pub LaterWins : Type 0
LaterWins = (first second : Colors) (c : Color)
    → (second.foreground ≡ Some c → (later first second).foreground ≡ Some c)
    × (second.background ≡ Some c → (later first second).background ≡ Some c)
    × (second.foreground ≡ None → (later first second).foreground ≡ first.foreground)
    × (second.background ≡ None → (later first second).background ≡ first.background)

-- No colours, before or after others, change nothing.
abbrev pub NoColorsAreNeutral : Type 0
NoColorsAreNeutral = (colors : Colors) → (later colors no_colors ≡ colors) × (later no_colors colors ≡ colors)

-- Of three colours in turn it doesn't matter which two are combined first.
abbrev pub LaterIsAssociative : Type 0
LaterIsAssociative = (a b c : Colors) → later a (later b c) ≡ later (later a b) c
