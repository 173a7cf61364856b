-- The tokens of the commands that have fields.
use Rattle.std.specs.Prelude.{ℕ, ◌+◌, ◌==◌, List, [], ◌∷◌, ◌++◌, codes, if◌then◌else◌}
use Prim.Native.String.{String}
use Rattle.std.specs.Fmt.{decimal}
use Rattle.crossterm_command.specs.Controls.{control, letter, reset, set}
use Rattle.crossterm_command.specs.Tokens.{Token}
use Rattle.crossterm_command.specs.Tokens.OscEnd.{Bell}
use Rattle.crossterm_command.specs.Tokens.Token.{Csi, Osc}
use Rattle.crossterm.specs.declared.cursor.SetCursorStyle.{SetCursorStyle}
use Rattle.crossterm.specs.declared.cursor.SetCursorStyle.TheVariants.{DefaultUserShape, BlinkingBlock, SteadyBlock, BlinkingUnderScore, SteadyUnderScore, BlinkingBar, SteadyBar}
use Rattle.crossterm.specs.declared.terminal.ClearType.{ClearType}
use Rattle.crossterm.specs.declared.terminal.ClearType.TheVariants.{All, Purge, FromCursorDown, FromCursorUp, CurrentLine, UntilNewLine}

-- CUP (ECMA-48, 8.3.21): row and column count from 1 here, and from 0 in the command.
abbrev pub move_to : ℕ → ℕ → List Token
move_to column row = control (decimal (row + 1) ++ (codes ";" ++ decimal (column + 1))) "H"

-- A move by some rows or columns, or to one.
abbrev pub by : ℕ → String → List Token
by n final = control (decimal n) final

-- SU and SD (ECMA-48, 8.3.147, 8.3.113): nothing for 0 lines.
abbrev pub scroll : ℕ → String → List Token
scroll n final = if n == 0 then [] else control (decimal n) final

-- DECSCUSR (xterm).
abbrev pub cursor_shape : String → List Token
cursor_shape n = Csi (codes n) (codes " ") (letter "q") ∷ []

-- The shape of the cursor, by its number.
abbrev pub cursor_style : SetCursorStyle → List Token
cursor_style DefaultUserShape = cursor_shape "0"
cursor_style BlinkingBlock = cursor_shape "1"
cursor_style SteadyBlock = cursor_shape "2"
cursor_style BlinkingUnderScore = cursor_shape "3"
cursor_style SteadyUnderScore = cursor_shape "4"
cursor_style BlinkingBar = cursor_shape "5"
cursor_style SteadyBar = cursor_shape "6"

-- The shapes of the cursor, in declared order.
abbrev pub all_shapes : List SetCursorStyle
all_shapes = DefaultUserShape ∷ BlinkingBlock ∷ SteadyBlock ∷ BlinkingUnderScore ∷ SteadyUnderScore ∷ BlinkingBar ∷ SteadyBar ∷ []

-- ED and EL (ECMA-48, 8.3.39, 8.3.41).
abbrev pub clear : ClearType → List Token
clear All = control (codes "2") "J"
clear Purge = control (codes "3") "J"
clear FromCursorDown = control [] "J"
clear FromCursorUp = control (codes "1") "J"
clear CurrentLine = control (codes "2") "K"
clear UntilNewLine = control [] "K"

-- Sets the size of the window in characters (xterm, `CSI 8 t`).
abbrev pub set_size : ℕ → ℕ → List Token
set_size columns rows = control (codes "8;" ++ (decimal rows ++ (codes ";" ++ decimal columns))) "t"

-- Sets the title of the window (xterm, `OSC 0`), ended by a bell.
abbrev pub set_title : List ℕ → List Token
set_title title = Osc (codes "0;" ++ title) Bell ∷ []

-- Sets the modes 1000, 1002, 1003, 1015 and 1006, in this order (xterm).
abbrev pub enable_mouse : List Token
enable_mouse = set "1000" ++ (set "1002" ++ (set "1003" ++ (set "1015" ++ set "1006")))

-- Resets the same modes in the other order.
abbrev pub disable_mouse : List Token
disable_mouse = reset "1006" ++ (reset "1015" ++ (reset "1003" ++ (reset "1002" ++ reset "1000")))

-- Pushes keyboard flags (kitty).
abbrev pub push_flags : ℕ → List Token
push_flags bits = control (codes ">" ++ decimal bits) "u"
