-- What the slow program finds.
use Rattle.std.specs.Prelude.{◌≡◌, ℕ, List, length, map}
use Rattle.std.specs.List.{filter_map}
use Rattle.crossterm_types.specs.Seen.{Seen}
use Rattle.crossterm_parse.specs.Division.{Divides}
use Rattle.crossterm_parse.specs.Grammar.{Whole}
use Rattle.crossterm_parse.specs.declared.marked.Marked.{Marked}
use Rattle.crossterm_parse.specs.Meaning.{meaning_of}

-- The bytes are divided into parts of these lengths and a rest, and the parts mean these events.
abbrev pub IsDivided : List Marked → List ℕ → List Seen → Type 0
IsDivided bytes lengths events = (parts : List (List Marked)) × (rest : List Marked)
    × Divides Whole bytes parts rest × (lengths ≡ map length parts) × (events ≡ filter_map meaning_of parts)
