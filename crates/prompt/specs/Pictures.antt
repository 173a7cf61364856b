-- Which cells show a line in a row, with what is before and behind it. Texts are in UTF-8.
use Rattle.std.specs.Prelude.{◌≡◌, ℕ, ◌+◌, ◌-◌, ◌==◌, ◌||◌, max, min, nat_le, nat_lt, Bool, not, if◌then◌else◌, length, List, [], ◌∷◌}
use Rattle.std.specs.Str.{chars}
use Rattle.crossterm_style.specs.Attributes.{bit_of}
use Rattle.crossterm_style.specs.Styles.{no_style}
use Rattle.crossterm_style.specs.declared.types.attribute.Attribute.TheVariants.{Dim}
use Rattle.crossterm_style.specs.declared.content_style.ContentStyle.{ContentStyle}
use Rattle.line_editor.specs.Splits.{Split}
use Rattle.line_editor.specs.Views.{columns_of, seen_text}
use Rattle.screen.specs.Buffers.{Picture, filled_with, with_text}
use Rattle.screen.specs.Parts.{text_parts}
use Rattle.screen.specs.Texts.{replaced}
use Rattle.prompt.specs.Drawing.{IsParted, column_behind, inside}
use Rattle.prompt.specs.Prompts.{has_control}
use Rattle.prompt.specs.Shown.{PromptRun, Shown}

-- A text is printed from a column on, as far as it has room. What no cell can hold is U+FFFD.
abbrev pub printed_from : Picture → ℕ → List ℕ → ContentStyle → Picture
printed_from p column text style = with_text p column 0 (replaced 0xFFFD (text_parts (chars text))) style

-- The style of a hint: dim (SGR 2).
abbrev pub dim_style : ContentStyle
dim_style = record no_style { attributes = record { 0 = bit_of Dim } }

-- The columns that the characters of a text take at most. One of no column may be replaced by one of one.
abbrev pub all_columns : List ℕ → ℕ
all_columns [] = 0
all_columns (c ∷ text) = max (columns_of c) 1 + all_columns text

-- The columns that a text takes at most, or 65,535 if that is less.
abbrev pub most_columns : List ℕ → ℕ
most_columns text = min (all_columns text) 65535

-- The columns that the parts of a prompt take at most, or 65,535 if that is less.
abbrev pub prompt_columns : List PromptRun → ℕ
prompt_columns [] = 0
prompt_columns (r ∷ runs) = min (most_columns (chars r.text) + prompt_columns runs) 65535

-- Whether a prompt leaves eight columns of a row of this width to the line.
abbrev pub prompt_has_room : ℕ → List PromptRun → Bool
prompt_has_room width prompt = nat_le 8 (width - prompt_columns prompt)

-- The parts of a prompt that such a row shows: all of them, or none if they leave fewer.
abbrev pub shown_prompt : ℕ → List PromptRun → List PromptRun
shown_prompt width prompt = if prompt_has_room width prompt then prompt else []

-- The parts of a prompt are printed from a column on, one behind another.
abbrev pub printed_runs : ℕ → Picture → ℕ → List PromptRun → Picture
printed_runs width p column [] = p
printed_runs width p column (r ∷ runs) = printed_runs width (printed_from p column r.text r.style) (column_behind width column (chars r.text)) runs

-- The column behind them.
abbrev pub column_after : ℕ → ℕ → List PromptRun → ℕ
column_after width column [] = column
column_after width column (r ∷ runs) = column_after width (column_behind width column (chars r.text)) runs

-- The hint that is shown in so many columns: all of it, or none if it has no room or has a control character.
abbrev pub shown_hint : ℕ → List ℕ → List ℕ
shown_hint room hint = if nat_lt room (most_columns (chars hint)) || has_control (chars hint) then [] else hint

-- The hint that is shown behind a line in so many columns: none if the line goes on behind its cursor.
abbrev pub hint_behind : List ℕ → ℕ → List ℕ → List ℕ
hint_behind after room hint = if length after == 0 then shown_hint room hint else []

-- The texts that are shown: the prompt, the line before its cursor and behind it, and the hint.
pub record Parts : Type 0 where
  pub prompt : List PromptRun
  pub before : List ℕ
  pub after : List ℕ
  pub hint : List ℕ

-- The column behind the prompt.
abbrev pub line_column : ℕ → Parts → ℕ
line_column width s = column_after width 0 s.prompt

-- The column behind what is before the cursor.
abbrev pub cursor_column : ℕ → Parts → ℕ
cursor_column width s = column_behind width (line_column width s) (chars s.before)

-- The column behind the line.
abbrev pub end_column : ℕ → Parts → ℕ
end_column width s = column_behind width (cursor_column width s) (chars s.after)

-- The picture of these texts, one behind another, over another picture.
abbrev pub picture : ℕ → Picture → Parts → Picture
picture width blank s =
    printed_from (printed_from (printed_from (printed_runs width blank 0 s.prompt) (line_column width s) s.before no_style) (cursor_column width s) s.after no_style) (end_column width s) s.hint dim_style

-- The picture shows a prompt, what is seen of a line in some columns, and a hint, as far as there is room. It has this
-- width and is blank elsewhere. The cursor is in its place in the line, inside the row. A row lists no candidates.
pub record IsPicture (width : ℕ) (what : Shown) (p : Picture) (column : ℕ) (has_hint : Bool) : Type 0 where
  pub shown : Parts
  pub blank : Picture
  pub text : List ℕ
  pub after : List ℕ
  pub size : blank.width ≡ width
  pub cells : p ≡ picture width (filled_with blank 32 no_style) shown
  pub prompts : shown.prompt ≡ shown_prompt width what.prompt
  pub seen : (room : ℕ) × (chars text ≡ seen_text room what.line)
  pub behind : chars after ≡ what.line.after
  pub parted : IsParted text shown.before shown.after after
  pub hints : shown.hint ≡ hint_behind after (width - end_column width shown) what.hint
  pub has : has_hint ≡ not (length shown.hint == 0)
  pub cursor : column ≡ inside width (cursor_column width shown)
