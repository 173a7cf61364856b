-- What is shown of a line in the cursor's row, and the texts between frames.
use Rattle.std.specs.Prelude.{◌≡◌, ◌⊎◌, ℕ, ◌+◌, ◌-◌, ◌++◌, ◌∷◌, ◌==◌, Bool, min, nat_le, true, codes, List, [], Option, Some, None, if◌then◌else◌}
use Rattle.std.specs.Str.{chars}
use Rattle.std.specs.List.{starts_with}
use Rattle.crossterm.specs.Functions.{AppendsReading}
use Rattle.crossterm_command.specs.Tokens.{Token}
use Rattle.crossterm_command.specs.declared.color_output.ColorOutput.TheVariants.{Enabled}
use Rattle.line_editor.specs.Splits.{Split}
use Rattle.line_editor.specs.Views.{seen_text}
use Rattle.screen.specs.Buffers.{Picture}
use Rattle.screen.specs.Parts.{text_parts}
use Rattle.screen.specs.Strips.{StripView, IsNextFrame, IsRowFrame, with_row}
use Rattle.screen.specs.Texts.{replaced, text_columns, within}

-- A text is two parts, and another text begins with the second one.
abbrev pub IsParted : List ℕ → List ℕ → List ℕ → List ℕ → Type 0
IsParted text front rest after = (text ≡ front ++ rest) × (starts_with (λ a b. a == b) after rest ≡ true)

-- The column behind a text that is printed from a column of a row of this width on, or 65,535 if that is less.
abbrev pub column_behind : ℕ → ℕ → List ℕ → ℕ
column_behind width column text = min (column + text_columns (within (width - column) (replaced 0xFFFD (text_parts text)))) 65535

-- A column, or the last one of a row of this width if it is behind that.
abbrev pub inside : ℕ → ℕ → ℕ
inside width column = if nat_le column (width - 1) then column else width - 1

-- What is shown in the prompt's place while an incremental search goes on: its name by its direction, and what it looks
-- for, in UTF-8.
abbrev pub search_text : Bool → List ℕ → List ℕ
search_text is_ahead pattern =
    codes "(" ++ ((if is_ahead then codes "i-search" else codes "reverse-i-search") ++ (codes ")`" ++ (pattern ++ codes "': ")))

-- The text that erases the window and brings the cursor to its top: ED 2, and CUP to the first row and column.
abbrev pub clearing : List ℕ
clearing = 0x1B ∷ codes "[2J" ++ 0x1B ∷ codes "[1;1H"
