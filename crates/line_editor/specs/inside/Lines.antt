-- The first line of a text, and the places of lines that were left.
use Rattle.std.specs.Prelude.{◌≡◌, ◌⊎◌, ℕ, ◌+◌, ◌==◌, List, [], ◌∷◌, Option, Some, None, if◌then◌else◌}
use Rattle.line_editor.specs.History.{lines_of}
use Rattle.line_editor.specs.States.{LeftLine}

-- A text is its first line and, behind a line feed, its other lines, if there is a line feed.
abbrev pub IsFirstLine : List ℕ → List ℕ → List ℕ → Type 0
IsFirstLine text line back = (lines_of text ≡ line ∷ lines_of back) ⊎ ((lines_of text ≡ line ∷ []) × (back ≡ []))

-- The position of a place's line among those that were left, if so many are before these. `None` if none was left there.
abbrev pub position_in : ℕ → ℕ → List LeftLine → Option ℕ
position_in place passed [] = None
position_in place passed (x ∷ left) = if x.place == place then Some passed else position_in place (passed + 1) left
