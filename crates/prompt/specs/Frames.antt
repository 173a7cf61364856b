-- The texts that show a line: a frame of the rows from the cursor's on, and those between frames.
use Rattle.std.specs.Prelude.{◌≡◌, ◌⊎◌, ℕ, ◌<◌, ◌==◌, ◌++◌, Bool, true, false, if◌then◌else◌, length, List, [], ◌∷◌, Option, None}
use Rattle.std.specs.Io.KnownBytes.{Appends}
use Rattle.std.specs.List.{flat_map}
use Rattle.std.specs.Str.Lines.{lines}
use Rattle.crossterm_command.specs.Tokens.{Token, text_of}
use Rattle.crossterm_command.specs.declared.color_output.ColorOutput.TheVariants.{Enabled}
use Rattle.crossterm.specs.Sequences.{by, clear}
use Rattle.crossterm.specs.declared.terminal.ClearType.TheVariants.{FromCursorDown, UntilNewLine}
use Rattle.screen.specs.Blocks.{BlockView, FitsBlock, IsBlockFrame, to_row, with_rows, without_rows}
use Rattle.screen.specs.Buffers.{Picture}
use Rattle.prompt.specs.declared.rows.Rows.{Rows}
use Rattle.prompt.specs.Pictures.{IsPicture}
use Rattle.prompt.specs.Shown.{Shown}
use Rattle.prompt.specs.Wrapping.{IsWrapped}

-- The part of a terminal in which a line is shown: some rows, from the one on in which the cursor was at first.
pub record Area : Type 0 where
  pub block : BlockView
  -- Whether the line is wrapped. If it isn't, it is shown in one row.
  pub wraps : Bool
  -- How many rows it takes at most: those of the window.
  pub most : ℕ
  -- Whether a hint is shown behind the line.
  pub has_hint : Bool
  -- Whether candidates are listed below the line.
  pub has_candidates : Bool
  -- The last row of the block that the line takes.
  pub last : ℕ

-- The area of rows that are drawn.
abbrev pub area_of : Rows → Area
area_of r = record { block = r.block; wraps = r.wraps; most = r.most; has_hint = r.has_hint; has_candidates = r.has_candidates; last = r.last }

-- Nothing is known of what the area shows.
abbrev pub IsUnseen : Area → Type 0
IsUnseen a = (a.block.rows ≡ []) × (a.block.row ≡ 0) × (a.block.column ≡ None)

-- An area at first: nothing is known of it, and colours are written.
abbrev pub IsNewArea : Bool → Area → Type 0
IsNewArea wraps a = IsUnseen a × (a.wraps ≡ wraps) × (a.block.colors ≡ Enabled) × (a.has_hint ≡ false) × (a.has_candidates ≡ false) × (a.last ≡ 0)

-- The same area in a window of another size: its block has this width, and nothing is known of what it shows.
abbrev pub resized_area : ℕ → ℕ → ℕ → Area → Area
resized_area width most room a = record a {
  block = record (without_rows a.block) { width = width; room = room };
  most = most;
  has_hint = false;
  has_candidates = false;
  last = 0;
}

-- The same area, but nothing is known of what it shows.
abbrev pub unseen : ℕ → Area → Area
unseen room a = resized_area a.block.width a.most room a

-- Two areas are of one size, and both wrap the line or don't.
abbrev pub IsSizeOf : Area → Area → Type 0
IsSizeOf a b = (b.block.width ≡ a.block.width) × (b.most ≡ a.most) × (b.wraps ≡ a.wraps)

-- The picture shows a line in the area: wrapped, or as much of it as one row has room for.
abbrev pub IsLinePicture : Bool → ℕ → ℕ → ℕ → Shown → Picture → ℕ → ℕ → Bool → Bool → ℕ → Type 0
IsLinePicture true most before width s p column row has_hint has_candidates last = IsWrapped most before width s p column row has_hint has_candidates last
IsLinePicture false most before width s p column row has_hint has_candidates last =
    IsPicture width s p column has_hint × (p.height ≡ 1) × (row ≡ 0) × (has_candidates ≡ false) × (last ≡ 0)

-- One frame: the text of tokens that make the area show a picture of a line, and change nothing else. It may rely on
-- nothing but bells written since the last frame. In a window of one column it is empty.
pub data IsLineFrame (s : Shown) (a b : Area) (bytes : List ℕ) : Type 0 where
  drawn : (p : Picture) (column row room : ℕ) (ts : List Token) → 0 < a.block.width → FitsBlock a.block p
      → IsLinePicture a.wraps a.most (length a.block.rows) a.block.width s p column row b.has_hint b.has_candidates b.last
      → b ≡ record a { block = record (with_rows a.block p column row) { room = room }; has_hint = b.has_hint; has_candidates = b.has_candidates; last = b.last }
      → text_of ts ≡ bytes → IsBlockFrame a.block p column row ts → IsLineFrame s a b bytes
  narrow : a.block.width ≡ 0 → b ≡ a → bytes ≡ [] → IsLineFrame s a b bytes

-- A writer's bytes grew by one frame.
abbrev pub Draws : Shown → Area → Area → Option (List ℕ) → Option (List ℕ) → Type 0
Draws s a b old new = (bytes : List ℕ) × Appends old new bytes × IsLineFrame s a b bytes

-- A writer's bytes grew by a beginning of one frame, or by nothing.
abbrev pub DrawsFront : Shown → Area → Option (List ℕ) → Option (List ℕ) → Type 0
DrawsFront s a old new =
    (b : Area) × (front : List ℕ) × (rest : List ℕ) × Appends old new front × ((front ≡ []) ⊎ IsLineFrame s a b (front ++ rest))

-- The bell (BEL).
abbrev pub bell : List ℕ
bell = 0x07 ∷ []

-- From the start of the row that is so many above the cursor's on, all is erased. It is CUU, CHA and ED (ECMA-48,
-- 8.3.22, 8.3.9, 8.3.39).
abbrev pub erasure : ℕ → List ℕ
erasure rows = (if rows == 0 then [] else text_of (by rows "A")) ++ (text_of (by 1 "G") ++ text_of (clear FromCursorDown))

-- A text in whole lines: CR and LF are behind each.
abbrev pub in_lines : List ℕ → List ℕ
in_lines text = flat_map (λ line. line ++ (0x0D ∷ 0x0A ∷ [])) (lines text)

-- What erases a hint behind the line: EL (ECMA-48, 8.3.41).
abbrev pub hint_erasure : Bool → List ℕ
hint_erasure has_hint = if has_hint then text_of (clear UntilNewLine) else []

-- What erases the candidates below the line, from the start of the row below it on: ED (ECMA-48, 8.3.39).
abbrev pub list_erasure : Bool → List ℕ
list_erasure has_candidates = if has_candidates then text_of (clear FromCursorDown) else []

-- The text that leaves an area. A hint is erased, and CUU or CUD goes to the line's last row. CR and LF go to the start
-- of the row below, from which candidates are erased.
abbrev pub leaving_area : Area → List ℕ
leaving_area a = hint_erasure a.has_hint ++ (text_of (to_row a.block.row a.last) ++ (0x0D ∷ 0x0A ∷ list_erasure a.has_candidates))
