-- What the filters of tests admit.
use Rattle.std.specs.Prelude.{Bool, true, false}
use Rattle.crossterm_types.specs.Seen.{Seen}
use Rattle.crossterm_types.specs.Seen as seen

-- Whether an event is a resize.
abbrev pub is_resize : Seen → Bool
is_resize (seen.Resize columns rows) = true
is_resize _ = false
