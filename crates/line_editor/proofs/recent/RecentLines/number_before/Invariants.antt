use Rattle.std.proofs.Common.{◌≡◌}
use Rattle.std.specs.Option.{option_map}
use Rattle.std.specs.Str.{chars}
use Rattle.line_editor.specs.Seeking.{last_number, wanted}
use Rattle.line_editor.proofs.recent.RecentLines.number_before.Given as goal

abbrev pub invariant-loop-number : goal.invariant-loop-number
invariant-loop-number g l =
    last_number (wanted (chars l.pattern) (option_map (λ text. chars text.now) l.shown)) l.count l.self
    ≡ last_number (wanted (chars l.pattern) (option_map (λ text. chars text.now) l.shown)) l.number l.self

abbrev pub decreases-loop-number : goal.decreases-loop-number
decreases-loop-number g l = l.number
