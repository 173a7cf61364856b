use Rattle.std.proofs.Common.{◌≡◌, take}
use Rattle.std.specs.Fmt.{HasWritten, IsPlainFormatter}
use Rattle.std.specs.List.{join_with_byte}
use Rattle.crossterm_flags.specs.Names.{names_in, shown_names}
use Rattle.crossterm_flags.proofs.NameFacts.{separator_after}
use Rattle.crossterm_flags.proofs.modifiers.KeyModifiersDisplay.fmt.Given as goal
use denote.Shadow.{shadow}
use denote.Text.{Utf8}

-- the names of the flags so far are written, and `+` is ready after the first
abbrev pub invariant-loop-flag : goal.invariant-loop-flag
invariant-loop-flag g l =
    shadow (Utf8 l.separator)
    × (l.separator ≡ separator_after (names_in (take l.flag-index shown_names) l.self.0))
    × (IsPlainFormatter l.initial.f → HasWritten g.W.Write.write_str_gives l.initial.f (join_with_byte 43 (names_in (take l.flag-index shown_names) l.self.0)) l.f)
