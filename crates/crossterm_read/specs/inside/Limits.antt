-- A device that isn't asked.
use Rattle.std.specs.Prelude.{ℕ, List, [], Option}
use Rattle.std.specs.declared.time.Duration.{Duration}
use Rattle.std.proofs.Common.{sym, append-nil}
use Rattle.crossterm_types.specs.declared.event.timeout.PollTimeout.{PollTimeout}
use Rattle.crossterm_read.specs.Device.{AsksAtOnce}
use Rattle.crossterm_read.specs.Waiting.{AsksLeft}

-- It was asked with limit zero alone.
pub none_at_once : (asked : List (Option Duration)) → AsksAtOnce asked asked
none_at_once asked = ([], sym (append-nil asked), tt)

-- It was asked with what was left of a limit alone.
pub none_left : (timeout : PollTimeout) (now : ℕ) (asked : List (Option Duration)) → AsksLeft timeout now asked asked
none_left timeout now asked = ([], sym (append-nil asked), tt, tt)
