use Rattle.std.proofs.Common.{◌≡◌, drop}
use Rattle.std.specs.Option.{option_map}
use Rattle.std.specs.Str.{chars}
use Rattle.line_editor.specs.Seeking.{first_number, wanted}
use Rattle.line_editor.proofs.recent.RecentLines.number_from.Given as goal

abbrev pub invariant-loop-at : goal.invariant-loop-at
invariant-loop-at g l =
    first_number (wanted (chars l.pattern) (option_map (λ text. chars text.now) l.shown)) l.from (drop l.from l.self)
    ≡ first_number (wanted (chars l.pattern) (option_map (λ text. chars text.now) l.shown)) l.at (drop l.at l.self)
