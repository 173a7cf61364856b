-- No name so far is the text's, and what is left has the text's colour exactly as the whole table has.
use Rattle.std.proofs.Common.{◌≡◌, ℕ, ◌<◌, get_or, drop}
use Rattle.std.specs.Str.{str_to_ascii_lowercase}
use Rattle.crossterm_style.specs.ColorNames.{entries}
use Rattle.crossterm_style.specs.Values.{color_in}
use Rattle.crossterm_style.proofs.types.color.color_in.Given as goal

abbrev pub invariant-loop-name : goal.invariant-loop-name
invariant-loop-name l =
    record {
      none : (k : ℕ) (d : _) → k < l.name-index → str_to_ascii_lowercase l.text ≡ str_to_ascii_lowercase (get_or l.table k d).0.now → ⊥;
      left : color_in (entries (drop l.name-index l.table)) l.text ≡ color_in (entries l.table) l.text;
    }
