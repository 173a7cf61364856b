-- A terminal's screen as a grid of cells, and what it does at each token that it reads. If terminals differ, nothing
-- is claimed.
use Rattle.std.specs.Prelude.{ℕ, ◌+◌, ◌-◌, ◌*◌, ◌%◌, ◌==◌, ◌&&◌, ◌||◌, not, nat_le, nat_lt, Bool, true, false, List, [], ◌∷◌, ◌++◌, Option, Some, None, bytes_eq, codes, if◌then◌else◌, drop, get_or, is_none, length, map, replicate, take}
use Rattle.std.specs.List.{list_all, slice_split}
use Rattle.std.specs.Str.Parse.{digits_value}
use Rattle.unicode_width.specs.Width.{char_width}
use Rattle.crossterm_command.specs.Tokens.{Token}
use Rattle.crossterm_command.specs.Tokens.Token.{Char, Csi}
use Rattle.crossterm_style.specs.Looks.{Style, is_decimal, plain, sgr}
use Rattle.screen.specs.Marks.{is_joined, is_mark_of, is_width, takes_none}

-- What a cell of the screen shows.
pub data Square : Type 0 where
  -- What the cell shows isn't known.
  Unknown : Square
  -- A character that takes one cell, and its marks, in its style.
  Whole : List ℕ → Style → Square
  -- The first cell of a character that takes two, and its marks, in its style.
  First : List ℕ → Style → Square
  -- The second cell of such a character.
  Second : Square

-- A terminal's screen. Its cells are row by row, and a place is the number of cells before it.
pub record Grid : Type 0 where
  pub width : ℕ
  pub height : ℕ
  pub cells : List Square
  -- The cursor's place, or `None` if it isn't known, as behind a row's last cell.
  pub cursor : Option ℕ
  -- Whether the cursor is shown.
  pub visible : Bool
  -- The style that the next character gets.
  pub style : Style
  -- The place of the character that the next mark is added to. `None` unless nothing but its marks was read since it.
  pub printed : Option ℕ

-- ---- characters

-- Whether a character takes one cell.
abbrev pub takes_one : ℕ → Bool
takes_one c = is_width 1 (char_width false c)

-- Whether a character takes two cells.
abbrev pub takes_two : ℕ → Bool
takes_two c = is_width 2 (char_width false c)

-- A cell whose right neighbour is overwritten: a first cell becomes unknown, any other stays.
abbrev pub without_second : Square → Square
without_second (First c s) = Unknown
without_second x = x

-- A cell whose left neighbour is overwritten: a second cell becomes unknown, any other stays.
abbrev pub without_first : Square → Square
without_first Second = Unknown
without_first x = x

-- The cells before overwritten ones: if the last of them is a first cell, it becomes unknown.
abbrev pub ended : List Square → List Square
ended [] = []
ended (x ∷ []) = without_second x ∷ []
ended (x ∷ y ∷ cells) = x ∷ ended (y ∷ cells)

-- The cells behind overwritten ones: if the first of them is a second cell, it becomes unknown.
abbrev pub begun : List Square → List Square
begun [] = []
begun (x ∷ cells) = without_first x ∷ cells

-- The cells with others in place of those from `at` on. If a character loses one of its two cells, the other becomes
-- unknown.
abbrev pub overwritten : List Square → ℕ → List Square → List Square
overwritten cells at others = ended (take at cells) ++ (others ++ begun (drop (at + length others) cells))

-- Whether a place is the last one of its row.
abbrev pub is_last : ℕ → ℕ → Bool
is_last width at = (at + 1) % width == 0

-- The place to the right of another, or `None` at the end of a row.
abbrev pub right_of : ℕ → ℕ → Option ℕ
right_of width at = if is_last width at then None else Some (at + 1)

-- The grid with a character of one cell at a place, and the cursor to the right of it.
abbrev pub print_one : ℕ → ℕ → Grid → Grid
print_one at c g = record g { cells = overwritten g.cells at (Whole (c ∷ []) g.style ∷ []); cursor = right_of g.width at; printed = Some at }

-- The grid with a character of two cells from a place on, and the cursor to the right of both.
abbrev pub print_two : ℕ → ℕ → Grid → Grid
print_two at c g = record g { cells = overwritten g.cells at (First (c ∷ []) g.style ∷ Second ∷ []); cursor = right_of g.width (at + 1); printed = Some at }

-- Whether a style has no colour and no attribute.
abbrev pub is_plain : Style → Bool
is_plain s =
    is_none s.foreground && is_none s.background && is_none s.underline_color && is_none s.underline && is_none s.blink
    && not s.bold && not s.dim && not s.italic && not s.fraktur && not s.reverse
    && not s.hidden && not s.crossed_out && not s.framed && not s.encircled && not s.overlined

-- A space in the plain style.
abbrev pub blank_square : Square
blank_square = Whole (32 ∷ []) plain

-- The grid after a line feed with the cursor at a place: the cursor goes to the row below. Below the last row there is
-- none, and all rows move up in place of that. A blank row comes in below them if the plain style is set, otherwise the
-- grid isn't known.
abbrev pub line_feed : ℕ → Grid → Option Grid
line_feed at g =
    if nat_lt (at + g.width) (length g.cells) then Some (record g { cursor = Some (at + g.width) }) else (
    if is_plain g.style then Some (record g { cells = drop g.width g.cells ++ replicate g.width blank_square }) else (
    None))

-- The grid after CR, which brings the cursor to the start of its row, or LF (ECMA-48, 8.3.15 and 8.3.74). Other control
-- characters give `None`.
abbrev pub control_at : ℕ → ℕ → Grid → Option Grid
control_at at c g =
    if c == 0x0D then Some (record g { cursor = Some (at - at % g.width); printed = None }) else (
    if c == 0x0A then line_feed at (record g { printed = None }) else (
    None))

-- The grid after a character is printed at the cursor. `None` if the cursor's place or the result isn't known, as for
-- a wide character in a row's last cell.
abbrev pub print_at : Option ℕ → ℕ → Grid → Option Grid
print_at None c g = None
print_at (Some at) c g =
    if takes_one c then Some (print_one at c g) else (
    if takes_two c && not (is_last g.width at) then Some (print_two at c g) else (
    control_at at c g))

-- The last character of a text, or 0 if it is empty.
abbrev pub last_character : List ℕ → ℕ
last_character [] = 0
last_character (c ∷ []) = c
last_character (c ∷ d ∷ text) = last_character (d ∷ text)

-- The last character that a cell shows, or 0 if it isn't known or is in the cell before.
abbrev pub last_shown : Square → ℕ
last_shown (Whole text s) = last_character text
last_shown (First text s) = last_character text
last_shown x = 0

-- A cell whose character has one more mark.
abbrev pub with_mark : ℕ → Square → Square
with_mark c (Whole text s) = Whole (text ++ c ∷ []) s
with_mark c (First text s) = First (text ++ c ∷ []) s
with_mark c x = x

-- The cells with one more mark in the first of them.
abbrev pub first_marked : ℕ → List Square → List Square
first_marked c [] = []
first_marked c (x ∷ cells) = with_mark c x ∷ cells

-- The grid after a character of no column is read. It is added to the character that was printed last if it is a mark
-- of what that cell shows. Otherwise `None`.
abbrev pub mark_at : Option ℕ → ℕ → Grid → Option Grid
mark_at None c g = None
mark_at (Some at) c g =
    if is_mark_of (last_shown (get_or g.cells at Unknown)) c then Some (record g { cells = take at g.cells ++ first_marked c (drop at g.cells) }) else None

-- The grid after a character. `None` if some terminals join it with its neighbours.
abbrev pub char_effect : ℕ → Grid → Option Grid
char_effect c g = if is_joined c then None else (if takes_none c then mark_at g.printed c g else print_at g.cursor c g)

-- ---- places

-- The number that decimal digits write, 0 if there are none, or `None` if a byte isn't a digit.
abbrev pub parameter_number : List ℕ → Option ℕ
parameter_number digits = if list_all is_decimal digits then Some (digits_value 10 digits) else None

-- The place of a row and a column, both counted from 1, or `None` if the grid hasn't it.
abbrev pub place : Option ℕ → Option ℕ → Grid → Option ℕ
place (Some row) (Some column) g =
    if (nat_le 1 row && nat_le row g.height) && (nat_le 1 column && nat_le column g.width) then Some ((row - 1) * g.width + (column - 1)) else None
place row column g = None

-- The place that two parameters give, a row and a column. `None` if there aren't two, or the grid hasn't the place.
abbrev pub place_by : List (List ℕ) → Grid → Option ℕ
place_by (row ∷ column ∷ []) g = place (parameter_number row) (parameter_number column) g
place_by parts g = None

-- The grid with the cursor at a place, or `None` if there is no place.
abbrev pub move_cursor : Option ℕ → Grid → Option Grid
move_cursor None g = None
move_cursor (Some at) g = Some (record g { cursor = Some at })

-- The place of a column, counted from 1, in the row that begins at `start`. `None` if the row hasn't it.
abbrev pub place_after : ℕ → Option ℕ → Grid → Option ℕ
place_after start (Some column) g = if nat_le 1 column && nat_le column g.width then Some (start + (column - 1)) else None
place_after start None g = None

-- The place of a column in the cursor's row, or `None` if the cursor's place isn't known or the row hasn't the column.
abbrev pub place_beside : Option ℕ → Option ℕ → Grid → Option ℕ
place_beside (Some at) column g = place_after (at - at % g.width) column g
place_beside None column g = None

-- The place so many rows above another, at least one, or `None` if there aren't so many.
abbrev pub place_above : Option ℕ → Option ℕ → Grid → Option ℕ
place_above (Some at) (Some n) g = if nat_le 1 n && nat_le (n * g.width) at then Some (at - n * g.width) else None
place_above at n g = None

-- The place so many rows below another, at least one, or `None` if there aren't so many.
abbrev pub place_below : Option ℕ → Option ℕ → Grid → Option ℕ
place_below (Some at) (Some n) g = if nat_le 1 n && nat_lt (at + n * g.width) (length g.cells) then Some (at + n * g.width) else None
place_below at n g = None

-- ---- other control functions

-- ED with the parameter 2 makes every cell blank if the plain style is set. Other parameters and other styles give
-- `None`.
abbrev pub erase : List ℕ → Grid → Option Grid
erase text g = if bytes_eq text (codes "2") && is_plain g.style then Some (record g { cells = map (λ c. blank_square) g.cells }) else None

-- The grid with blank cells from a place to the end of its row, or `None` if there is no place.
abbrev pub erase_from : Option ℕ → Grid → Option Grid
erase_from (Some at) g = Some (record g { cells = overwritten g.cells at (replicate (g.width - at % g.width) blank_square) })
erase_from None g = None

-- EL with no parameter or 0 makes the cells from the cursor to the end of its row blank if the plain style is set.
-- Otherwise `None`.
abbrev pub erase_right : List ℕ → Grid → Option Grid
erase_right text g = if (bytes_eq text (codes "") || bytes_eq text (codes "0")) && is_plain g.style then erase_from g.cursor g else None

-- DECTCEM (`?25`) shows or hides the cursor, and synchronized output (`?2026`) changes nothing. Other modes give
-- `None`.
abbrev pub mode : List ℕ → Bool → Grid → Option Grid
mode text on g =
    if bytes_eq text (codes "?25") then Some (record g { visible = on }) else (
    if bytes_eq text (codes "?2026") then Some g else (
    None))

-- ---- tokens

-- The grid after CUP, ED, SGR, SM, RM, CHA, EL, CUU or CUD, chosen by the final byte. Other control functions give
-- `None`.
abbrev pub control_effect : List ℕ → ℕ → Grid → Option Grid
control_effect text final g =
    if final == 0x48 then move_cursor (place_by (slice_split (λ b. b == 59) text) g) g else (
    if final == 0x4A then erase text g else (
    if final == 0x6D then Some (record g { style = sgr text g.style }) else (
    if final == 0x68 then mode text true g else (
    if final == 0x6C then mode text false g else (
    if final == 0x47 then move_cursor (place_beside g.cursor (parameter_number text) g) g else (
    if final == 0x4B then erase_right text g else (
    if final == 0x41 then move_cursor (place_above g.cursor (parameter_number text) g) g else (
    if final == 0x42 then move_cursor (place_below g.cursor (parameter_number text) g) g else (
    None)))))))))

-- The grid after a token, or `None` if it isn't known.
abbrev pub step : Token → Grid → Option Grid
step (Char c) g = char_effect c g
step (Csi text [] final) g = control_effect text final (record g { printed = None })
step t g = None

-- The grid after tokens, one after another, or `None` if it isn't known.
abbrev pub run : List Token → Grid → Option Grid
run [] g = Some g
run (t ∷ ts) g = elim (step t g) [ None ↦ None | Some h ↦ run ts h ]
