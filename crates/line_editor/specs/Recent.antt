-- Lists of lines, the newest first.
use Rattle.std.specs.Prelude.{List, [], ◌∷◌}
use Rattle.line_editor.specs.Splits.{Split}

-- The newest of the lines, or another line if there is none.
abbrev pub first_or : Split → List Split → Split
first_or d [] = d
first_or d (e ∷ lines) = e

-- The lines but the newest one.
abbrev pub rest_of : List Split → List Split
rest_of [] = []
rest_of (e ∷ lines) = lines

-- The lines with one more as the newest, if the other list isn't empty.
abbrev pub pushed_if : List Split → Split → List Split → List Split
pushed_if [] d lines = lines
pushed_if (e ∷ taken) d lines = d ∷ lines
