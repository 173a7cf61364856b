-- The commands of keys: the Emacs bindings of GNU readline.
use Rattle.std.specs.Prelude.{ℕ, ◌==◌, if◌then◌else◌, bit_and, List, [], ◌∷◌, Option, Some, None}
use Rattle.std.specs.Char.{to_ascii_lowercase}
use Rattle.crossterm_types.specs.declared.event.key.KeyCode.{KeyCode}
use Rattle.crossterm_types.specs.declared.event.key.KeyCode.TheVariants as key
use Rattle.crossterm_types.specs.declared.event.key.KeyEvent.{KeyEvent}
use Rattle.crossterm_types.specs.declared.event.key.KeyEventKind.{KeyEventKind}
use Rattle.crossterm_types.specs.declared.event.key.KeyEventKind.TheVariants.{Press, Repeat, Release}
use Rattle.line_editor.specs.declared.actions.Action.TheVariants.{Insert, Go, Erase, Kill, Yank, YankPop, Transpose, Undo, Redo, Older, Newer, RowUp, RowDown, Search, SearchForward, CaseWord, TransposeWords, EraseBlanks, LastWord}
use Rattle.line_editor.specs.declared.actions.Case.TheVariants.{Upper, Lower, Title}
use Rattle.line_editor.specs.declared.keys.KeyCommand.{KeyCommand}
use Rattle.line_editor.specs.declared.keys.KeyCommand.TheVariants.{Act, Accept, Interrupt, EraseOrClose, Clear, SearchBack, SearchAhead, Abort, EndSearch}
use Rattle.line_editor.specs.declared.places.Stop.TheVariants.{Cluster, WordStart, WordEnd, Blank, Edge}
use Rattle.line_editor.specs.declared.places.Target.TheVariants.{Back, Forward}

-- The command of a key without Control and Alt, or `None`. A character is typed, Up and Down go through the rows and then
-- the history, and Page Up and Page Down search that.
abbrev pub unmodified : KeyCode → Option KeyCommand
unmodified (key.Char c) = Some (Act (Insert c))
unmodified key.Enter = Some Accept
unmodified key.Esc = Some EndSearch
unmodified key.Backspace = Some (Act (Erase (Back Cluster)))
unmodified key.Delete = Some (Act (Erase (Forward Cluster)))
unmodified key.Left = Some (Act (Go (Back Cluster)))
unmodified key.Right = Some (Act (Go (Forward Cluster)))
unmodified key.Home = Some (Act (Go (Back Edge)))
unmodified key.End = Some (Act (Go (Forward Edge)))
unmodified key.Up = Some (Act RowUp)
unmodified key.Down = Some (Act RowDown)
unmodified key.PageUp = Some (Act Search)
unmodified key.PageDown = Some (Act SearchForward)
unmodified code = None

-- The command in the row of a character, or `None` if it has no row.
abbrev pub row_in : List (ℕ × KeyCommand) → ℕ → Option KeyCommand
row_in [] c = None
row_in (row ∷ rows) c = if c == row.0 then Some row.1 else row_in rows c

-- The commands of letters with Control. The underscore means undo, and so does 7, which terminals report for it.
abbrev pub control_rows : List (ℕ × KeyCommand)
control_rows =
    (97, Act (Go (Back Edge))) ∷ (98, Act (Go (Back Cluster))) ∷ (99, Interrupt) ∷ (100, EraseOrClose) ∷ (101, Act (Go (Forward Edge))) ∷
    (102, Act (Go (Forward Cluster))) ∷ (103, Abort) ∷ (104, Act (Erase (Back Cluster))) ∷ (106, Accept) ∷ (107, Act (Kill (Forward Edge))) ∷ (108, Clear) ∷ (109, Accept) ∷
    (110, Act Newer) ∷ (112, Act Older) ∷ (114, SearchBack) ∷ (115, SearchAhead) ∷ (116, Act Transpose) ∷ (117, Act (Kill (Back Edge))) ∷
    (119, Act (Kill (Back Blank))) ∷ (121, Act Yank) ∷ (95, Act Undo) ∷ (55, Act Undo) ∷ []

-- The commands of characters with Alt: to go back or forward by a word, to kill one, and to turn the ring of kills. With c,
-- l and u a word is brought into a case, and with t two are exchanged. The full stop, 46, takes the last word of an
-- accepted line, and the backslash, 92, erases white space.
abbrev pub alt_rows : List (ℕ × KeyCommand)
alt_rows = (98, Act (Go (Back WordStart))) ∷ (100, Act (Kill (Forward WordEnd))) ∷ (102, Act (Go (Forward WordEnd))) ∷ (121, Act YankPop) ∷
    (99, Act (CaseWord Title)) ∷ (108, Act (CaseWord Lower)) ∷ (117, Act (CaseWord Upper)) ∷ (116, Act TransposeWords) ∷ (46, Act LastWord) ∷
    (92, Act EraseBlanks) ∷ []

-- The command of the underscore with Control and Alt, and of 7, which terminals report for it: redo.
abbrev pub both_rows : List (ℕ × KeyCommand)
both_rows = (95, Act Redo) ∷ (55, Act Redo) ∷ []

-- The command of a key with Control, or `None`. A character has its row, in small letters, and Left and Right go by
-- words.
abbrev pub control_key : KeyCode → Option KeyCommand
control_key (key.Char c) = row_in control_rows (to_ascii_lowercase c)
control_key key.Left = Some (Act (Go (Back WordStart)))
control_key key.Right = Some (Act (Go (Forward WordEnd)))
control_key code = None

-- The command of a key with Alt, or `None`. A character has its row, in small letters, Backspace kills a word, and Enter
-- types a line feed.
abbrev pub alt : KeyCode → Option KeyCommand
alt (key.Char c) = row_in alt_rows (to_ascii_lowercase c)
alt key.Backspace = Some (Act (Kill (Back WordStart)))
alt key.Enter = Some (Act (Insert 10))
alt code = None

-- The command of a key with Control and Alt, or `None`. Only characters have a row.
abbrev pub control_alt_key : KeyCode → Option KeyCommand
control_alt_key (key.Char c) = row_in both_rows c
control_alt_key code = None

-- The command of a key with no modifiers (0), Control (2), Alt (4) or both (6). With any others it has none.
abbrev pub by_modifiers : ℕ → KeyCode → Option KeyCommand
by_modifiers bits code =
    if bits == 0 then unmodified code else (if bits == 2 then control_key code else (if bits == 4 then alt code else (if bits == 6 then control_alt_key code else None)))

-- The command of a key with its modifiers but Shift, which is in its character. A key that is released has none.
abbrev pub command_of_key : KeyEventKind → KeyEvent → Option KeyCommand
command_of_key Press k = by_modifiers (bit_and k.modifiers.0 254) k.code
command_of_key Repeat k = by_modifiers (bit_and k.modifiers.0 254) k.code
command_of_key Release k = None

-- The command of a key event, or `None`.
abbrev pub command_of : KeyEvent → Option KeyCommand
command_of k = command_of_key k.kind k
