-- What is shown of a line: the texts before it, behind it and below it. Texts are in UTF-8.
use Rattle.std.specs.Prelude.{ℕ, ◌+◌, ◌-◌, ◌/◌, ◌%◌, ◌==◌, ◌++◌, max, min, if◌then◌else◌, Bool, map, replicate, List, [], ◌∷◌}
use Rattle.std.specs.Borrow.{Bor}
use Rattle.std.specs.List.{list_any}
use Rattle.std.specs.Str.{chars}
use Rattle.crossterm_style.specs.Styles.{no_style}
use Rattle.crossterm_style.specs.declared.content_style.ContentStyle.{ContentStyle}
use Rattle.crossterm_style.specs.declared.styled_content.StyledContent.{StyledContent}
use Rattle.line_editor.specs.Splits.{Split}
use Rattle.line_editor.specs.Views.{width_of}
use Rattle.prompt.specs.Prompts.{has_control}

-- A part of a prompt: a text in a style.
pub record PromptRun : Type 0 where
  pub text : List ℕ
  pub style : ContentStyle

-- A styled content as a part of a prompt.
abbrev pub run_of : StyledContent (Bor (List ℕ)) → PromptRun
run_of c = record { text = c.content.now; style = c.style }

-- The parts of a prompt: a text without a style, and styled contents behind it.
abbrev pub runs_of : List ℕ → List (StyledContent (Bor (List ℕ))) → List PromptRun
runs_of text parts = record { text = text; style = no_style } ∷ map run_of parts

-- Whether a part of a prompt has a control character. Such a prompt is refused.
abbrev pub have_control : List PromptRun → Bool
have_control runs = list_any (λ r. has_control (chars r.text)) runs

-- What is shown of a line.
pub record Shown : Type 0 where
  -- The parts of the prompt, one behind another.
  pub prompt : List PromptRun
  pub line : Split
  -- The text that is shown dimmed behind the line.
  pub hint : List ℕ
  -- The texts with which the line may go on, which are listed in columns below it.
  pub candidates : List (List ℕ)

-- The columns of the widest of some names, or 65,535 if that is less.
abbrev pub widest : List (List ℕ) → ℕ
widest [] = 0
widest (name ∷ names) = max (min (width_of (chars name)) 65535) (widest names)

-- How many names are in a row of this width, if each column has so many. Two blanks part them, and the row doesn't get
-- full.
abbrev pub per_row : ℕ → ℕ → ℕ
per_row width columns = max ((width + 1) / (columns + 2)) 1

-- Names in columns. Each so many-th one begins a row, behind a line feed. Any other one is behind the blanks that fill
-- the column of the one before.
abbrev pub in_columns : ℕ → ℕ → ℕ → ℕ → List (List ℕ) → List ℕ
in_columns count columns place gap [] = []
in_columns count columns place gap (name ∷ names) =
    (if place % count == 0 then 10 ∷ [] else replicate gap 32) ++ (name ++ in_columns count columns (place + 1) (columns + 2 - min (width_of (chars name)) 65535) names)

-- The text that lists names in rows of this width. Each row begins with a line feed.
abbrev pub listing : ℕ → List (List ℕ) → List ℕ
listing width names = in_columns (per_row width (widest names)) (widest names) 0 0 names
