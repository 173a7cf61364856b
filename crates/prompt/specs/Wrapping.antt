-- Which cells show a line that is wrapped into rows, with what is before, behind and below it.
use Rattle.std.specs.Prelude.{◌≡◌, ℕ, ◌+◌, ◌-◌, ◌/◌, ◌%◌, ◌<◌, ◌≤◌, ◌==◌, ◌++◌, max, min, if◌then◌else◌, Bool, not, encode_utf8_all, length, reverse, List, [], ◌∷◌}
use Rattle.std.specs.Str.{chars}
use Rattle.crossterm_style.specs.Styles.{no_style}
use Rattle.crossterm_style.specs.declared.content_style.ContentStyle.{ContentStyle}
use Rattle.screen.specs.Buffers.{Picture}
use Rattle.screen.specs.Cells.{Cell}
use Rattle.screen.specs.Paragraphs.{columns_left, rows_picture, wrapped}
use Rattle.screen.specs.Parts.{text_parts}
use Rattle.prompt.specs.Pictures.{dim_style, hint_behind}
use Rattle.prompt.specs.Shown.{PromptRun, Shown, listing}

-- Cells, and behind them those of a text, in rows of this width. The text is a list of characters.
abbrev pub with_wrapped : ℕ → List Cell → List ℕ → ContentStyle → List Cell
with_wrapped width cells text s = cells ++ wrapped s width (length cells) (text_parts text)

-- The same with the parts of a prompt, one behind another.
abbrev pub with_runs : ℕ → List Cell → List PromptRun → List Cell
with_runs width cells [] = cells
with_runs width cells (r ∷ runs) = with_runs width (with_wrapped width cells (chars r.text) r.style) runs

-- The cells before the cursor: those of the prompt, and of the line before it.
abbrev pub front_cells : ℕ → Shown → List Cell
front_cells width s = with_wrapped width (with_runs width [] s.prompt) (reverse s.line.before) no_style

-- The cells of the prompt and the line.
abbrev pub line_cells : ℕ → Shown → List Cell
line_cells width s = with_wrapped width (front_cells width s) s.line.after no_style

-- The hint that is shown, in UTF-8. There is none if candidates are listed, if the line goes on behind the cursor, or if its
-- last row has no room.
abbrev pub row_hint : ℕ → Shown → List ℕ
row_hint width s =
    if length s.candidates == 0 then hint_behind (encode_utf8_all s.line.after) (columns_left width (length (line_cells width s))) s.hint else []

-- The cells of the prompt, the line and the hint, and of the candidates below them.
abbrev pub all_cells : ℕ → Shown → List Cell
all_cells width s =
    with_wrapped width (with_wrapped width (line_cells width s) (chars (row_hint width s)) dim_style) (chars (listing width s.candidates)) no_style

-- The last row that so many cells take, if they are any.
abbrev pub row_of_last : ℕ → ℕ → ℕ
row_of_last width count = (count - 1) / width

-- The last row that is needed. The cursor has one behind a line that ends with a full row.
abbrev pub last_needed : ℕ → Shown → ℕ
last_needed width s = max (length (line_cells width s) / width) (row_of_last width (length (all_cells width s)))

-- The picture shows a line in rows of this width, with what is before, behind and below it. They are as many as are
-- needed, but `most` if these are more, and never fewer than before.
pub record IsWrapped (most before width : ℕ) (s : Shown) (p : Picture) (column row : ℕ) (has_hint has_candidates : Bool) (last : ℕ) : Type 0 where
  pub height : p.height ≡ max before (min (last_needed width s + 1) (max most 1))
  -- From this row on they are in sight.
  pub top : ℕ
  pub cells : p ≡ rows_picture width p.height top (all_cells width s) p.room
  -- The cursor is in its place, in sight.
  pub column_is : column ≡ length (front_cells width s) % width
  pub row_is : top + row ≡ length (front_cells width s) / width
  pub in_sight : row < p.height
  -- No row below the last one is in sight as long as one above isn't.
  pub full : top ≤ last_needed width s + 1 - p.height
  pub has : has_hint ≡ not (length (row_hint width s) == 0)
  pub lists : has_candidates ≡ not (length s.candidates == 0)
  -- The last row that the line takes and that is in sight.
  pub last_is : last ≡ min (row_of_last width (length (line_cells width s)) - top) (p.height - 1)
