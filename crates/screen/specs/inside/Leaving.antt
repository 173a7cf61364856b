-- The column in which a frame of a strip leaves the cursor.
use Rattle.std.specs.Prelude.{ℕ, Option, None, Result, Ok, Err}
use Rattle.screen.specs.declared.faults.DrawFault.{DrawFault}
use Rattle.screen.specs.declared.faults.DrawFault.TheVariants.{Size, Cursor, Memory, Command}

-- The column in which the cursor is left after a frame was asked for, by the old column and the one that was asked for.
abbrev pub left_by : Result Unit DrawFault → Option ℕ → Option ℕ → Option ℕ
left_by (Ok t) left cursor = cursor
left_by (Err Size) left cursor = left
left_by (Err Cursor) left cursor = left
left_by (Err Memory) left cursor = left
left_by (Err (Command fault)) left cursor = None
