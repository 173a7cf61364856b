-- The names of colours.
use Rattle.std.specs.Prelude.{ℕ, List, [], ◌∷◌, Contains, codes, map}
use Rattle.std.specs.Borrow.{Bor}
use Rattle.std.specs.Str.{str_to_ascii_lowercase}
use Rattle.crossterm_style.specs.declared.types.color.Color.{Color}
use Rattle.crossterm_style.specs.declared.types.color.Color.TheVariants as color

-- The colours by their names, as `dark_red`.
abbrev pub names : List (List ℕ × Color)
names =
    (codes "reset", color.Reset) ∷
    (codes "black", color.Black) ∷
    (codes "dark_grey", color.DarkGrey) ∷
    (codes "red", color.Red) ∷
    (codes "dark_red", color.DarkRed) ∷
    (codes "green", color.Green) ∷
    (codes "dark_green", color.DarkGreen) ∷
    (codes "yellow", color.Yellow) ∷
    (codes "dark_yellow", color.DarkYellow) ∷
    (codes "blue", color.Blue) ∷
    (codes "dark_blue", color.DarkBlue) ∷
    (codes "magenta", color.Magenta) ∷
    (codes "dark_magenta", color.DarkMagenta) ∷
    (codes "cyan", color.Cyan) ∷
    (codes "dark_cyan", color.DarkCyan) ∷
    (codes "white", color.White) ∷
    (codes "grey", color.Grey) ∷
    []

-- The text, in small ASCII letters, is a name of the colour in the table.
abbrev pub NamesIn : List (List ℕ × Color) → List ℕ → Color → Type 0
NamesIn table text c = Contains table (str_to_ascii_lowercase text, c)

-- No colour has this name in the table, if large and small letters of ASCII count as the same.
abbrev pub NamesNoneIn : List (List ℕ × Color) → List ℕ → Type 0
NamesNoneIn table text = (c : Color) → NamesIn table text c → ⊥

-- The colour has this name, if large and small letters of ASCII count as the same.
abbrev pub Names : List ℕ → Color → Type 0
Names text c = NamesIn names text c

-- No colour has this name, if large and small letters of ASCII count as the same.
abbrev pub NamesNone : List ℕ → Type 0
NamesNone text = NamesNoneIn names text

-- A program's table of colours, with their names in small ASCII letters.
abbrev pub entries : List (Bor (List ℕ) × Color) → List (List ℕ × Color)
entries table = map (λ entry. (str_to_ascii_lowercase entry.0.now, entry.1)) table
