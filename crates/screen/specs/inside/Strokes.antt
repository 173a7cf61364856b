-- The tokens that strokes are written as.
use Rattle.std.specs.Prelude.{◌≡◌, ⊤, ℕ, ◌+◌, ◌<◌, ◌^◌, Bool, true, false, List, [], ◌∷◌, ◌++◌, Option, Some, None, if◌then◌else◌, flat_map, map}
use Rattle.std.specs.List.{AllByRecursion}
use Rattle.crossterm_command.specs.Controls.{reset, set}
use Rattle.crossterm_command.specs.Tokens.{Token}
use Rattle.crossterm_command.specs.Tokens.Token.{Char}
use Rattle.crossterm_command.specs.declared.color_output.ColorOutput.{ColorOutput}
use Rattle.crossterm_command.specs.declared.color_output.ColorOutput.TheVariants.{Enabled, Disabled}
use Rattle.crossterm_style.specs.declared.content_style.ContentStyle.{ContentStyle}
use Rattle.crossterm_style.specs.declared.types.attribute.Attribute.TheVariants.{Reset}
use Rattle.crossterm_style.specs.Acts.{style_acts}
use Rattle.crossterm_style.specs.Styles.{attribute_functions, no_style, act_tokens}
use Rattle.crossterm.specs.Sequences.{by, clear, move_to}
use Rattle.crossterm.specs.declared.terminal.ClearType.TheVariants.{All, UntilNewLine}
use Rattle.screen.specs.declared.settings.Setting.{Setting}
use Rattle.screen.specs.declared.settings.Setting.TheVariants as setting
use Rattle.screen.specs.declared.starts.Start.{Start}
use Rattle.screen.specs.declared.starts.Start.TheVariants as start
use Rattle.screen.specs.declared.strokes.RowStroke.{RowStroke}
use Rattle.screen.specs.declared.strokes.RowStroke.TheVariants as row
use Rattle.screen.specs.declared.strokes.Stroke.{Stroke}
use Rattle.screen.specs.declared.strokes.Stroke.TheVariants as stroke
use Rattle.screen.specs.Cells.{Cell, FitsCell}

-- The tokens that set colours, or none if colours aren't written.
abbrev pub color_tokens : ColorOutput → ContentStyle → List Token
color_tokens Enabled change = act_tokens Enabled (style_acts change)
color_tokens Disabled change = []

-- The tokens of a stroke.
abbrev pub tokens : ColorOutput → Stroke → List Token
tokens colors stroke.Begin = set "2026"
tokens colors stroke.End = reset "2026"
tokens colors stroke.Erase = clear All
tokens colors (stroke.Move column row) = move_to column row
tokens colors (stroke.Style s) = attribute_functions Reset ++ act_tokens colors (style_acts s)
tokens colors (stroke.Colors change) = color_tokens colors change
tokens colors (stroke.Print c marks) = Char c ∷ map Char marks
tokens colors stroke.Show = set "25"
tokens colors stroke.Hide = reset "25"

-- The tokens of strokes, one after another.
abbrev pub tokens_of : ColorOutput → List Stroke → List Token
tokens_of colors strokes = flat_map (tokens colors) strokes

-- What replaces a stroke in the cursor's row, or `None` if it stays: a move to a column, and an erasure of the row.
abbrev pub row_stroke : Stroke → Option RowStroke
row_stroke stroke.Erase = Some row.Erase
row_stroke (stroke.Move column r) = Some (row.Move column)
row_stroke s = None

-- The same, or `None` on the whole screen.
abbrev pub replaced : Bool → Stroke → Option RowStroke
replaced in_row s = if in_row then row_stroke s else None

-- The tokens in the cursor's row: CHA for a move, and CHA with EL for an erasure.
abbrev pub row_tokens : RowStroke → List Token
row_tokens row.Erase = by 1 "G" ++ clear UntilNewLine
row_tokens (row.Move column) = by (column + 1) "G"

-- The tokens of what replaces a stroke, or of the stroke if it stays.
abbrev pub tokens_by : ColorOutput → Stroke → Option RowStroke → List Token
tokens_by colors s None = tokens colors s
tokens_by colors s (Some other) = row_tokens other

-- The tokens of a stroke, in the cursor's row or on the whole screen.
abbrev pub written : Bool → ColorOutput → Stroke → List Token
written in_row colors s = tokens_by colors s (replaced in_row s)

-- The tokens of strokes, one after another, in the cursor's row or on the whole screen.
abbrev pub written_of : Bool → ColorOutput → List Stroke → List Token
written_of in_row colors strokes = flat_map (written in_row colors) strokes

-- A stroke behind those that begin a frame doesn't erase, moves by numbers below 2^32, and prints what a cell can hold.
abbrev pub IsFitting : Stroke → Type 0
IsFitting stroke.Erase = ⊥
IsFitting (stroke.Move column row) = (column < 2 ^ 32) × (row < 2 ^ 32)
IsFitting (stroke.Print c marks) = FitsCell (c ∷ marks)
IsFitting s = ⊤

-- ---- kinds of strokes

-- Whether a stroke moves the cursor.
abbrev pub is_move_stroke : Stroke → Bool
is_move_stroke (stroke.Move column row) = true
is_move_stroke s = false

-- Whether a stroke sets a style or colours.
abbrev pub is_style_stroke : Stroke → Bool
is_style_stroke (stroke.Style s) = true
is_style_stroke (stroke.Colors change) = true
is_style_stroke s = false

-- Whether a stroke neither moves the cursor nor sets a style or colours nor prints a character.
abbrev pub is_other_stroke : Stroke → Bool
is_other_stroke (stroke.Move column row) = false
is_other_stroke (stroke.Style s) = false
is_other_stroke (stroke.Colors change) = false
is_other_stroke (stroke.Print c marks) = false
is_other_stroke s = true

-- The stroke neither begins an update nor ends one.
abbrev pub IsInner : Stroke → Type 0
IsInner stroke.Begin = ⊥
IsInner stroke.End = ⊥
IsInner s = ⊤

-- ---- the strokes of a cell

-- The stroke that moves the cursor, or none if it is there.
abbrev pub move_strokes : Bool → ℕ → ℕ → List Stroke
move_strokes there column row = if there then [] else stroke.Move column row ∷ []

-- The stroke that sets a style or colours, or none if the style is kept.
abbrev pub style_strokes : Setting → List Stroke
style_strokes setting.Kept = []
style_strokes (setting.Colors change) = stroke.Colors change ∷ []
style_strokes (setting.Whole s) = stroke.Style s ∷ []

-- The strokes that paint a cell: a move unless the cursor is there, the style, and the character.
abbrev pub cell_strokes : Bool → Setting → ℕ → ℕ → Cell → List Stroke
cell_strokes there how column row c = move_strokes there column row ++ (style_strokes how ++ (stroke.Print c.symbol c.marks ∷ []))

-- The strokes that print cells again.
abbrev pub again_strokes : List Cell → List Stroke
again_strokes cells = map (λ c. stroke.Print c.symbol c.marks) cells

-- ---- the beginning and the end of a frame

-- The strokes that begin a frame. If the cells aren't known, they are erased in the empty style. If all is known, there
-- are none.
abbrev pub first_strokes : Start → List Stroke
first_strokes start.Nothing = stroke.Begin ∷ stroke.Style no_style ∷ stroke.Erase ∷ []
first_strokes start.Cells = stroke.Begin ∷ []
first_strokes (start.All at) = []

-- The strokes that hide the cursor, or move it to a place and show it.
abbrev pub cursor_strokes : Option (ℕ × ℕ) → List Stroke
cursor_strokes None = stroke.Hide ∷ []
cursor_strokes (Some place) = stroke.Move place.0 place.1 ∷ stroke.Show ∷ []

-- The strokes that end a frame: the empty style, the cursor, and the end of the update.
abbrev pub last_strokes : Option (ℕ × ℕ) → List Stroke
last_strokes cursor = stroke.Style no_style ∷ (cursor_strokes cursor ++ (stroke.End ∷ []))

-- The strokes that end a frame of which all was known: a move to the cursor's column and the empty style, if they are
-- needed.
abbrev pub stop_strokes : Bool → Setting → ℕ → List Stroke
stop_strokes there how column = move_strokes there column 0 ++ style_strokes how

-- The strokes begin as a frame does, and the others fit behind them.
abbrev pub AreFitting : Start → List Stroke → Type 0
AreFitting s strokes = (later : List Stroke) × (strokes ≡ first_strokes s ++ later) × AllByRecursion IsFitting later
