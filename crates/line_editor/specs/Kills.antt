-- The texts that were killed, the newest first.
use Rattle.std.specs.Prelude.{ℕ, ◌+◌, nat_lt, List, [], ◌∷◌, ◌++◌, if◌then◌else◌, drop, map, take, Option, Some, None, slice_get, string_bytes}
use Rattle.std.specs.Str.{chars}
use Rattle.std.specs.declared.string.String.{String}
use Rattle.line_editor.specs.declared.last.Last.{Last}
use Rattle.line_editor.specs.declared.last.Last.TheVariants.{Killed}
use Rattle.line_editor.specs.declared.places.Target.{Target}
use Rattle.line_editor.specs.declared.places.Target.TheVariants.{Back, Forward}

-- The characters of each string.
abbrev pub texts : {A : Type 0} → List (String A) → List (List ℕ)
texts strings = map (λ text. chars (string_bytes text)) strings

-- A text, or no text if there is none.
abbrev pub text_or_none : Option (List ℕ) → List ℕ
text_or_none None = []
text_or_none (Some text) = text

-- The kill with so many newer ones, or no text if there is none.
abbrev pub kill_at : List (List ℕ) → ℕ → List ℕ
kill_at kills at = text_or_none (slice_get kills at)

-- The text to which that of a kill is joined: the newest kill, if the last action was a kill.
abbrev pub kept_by : Last → List (List ℕ) → List ℕ
kept_by Killed kills = kill_at kills 0
kept_by last kills = []

-- The kills to which one is added: all, but for the one to which its text is joined.
abbrev pub kills_before : {X : Type 0} → Last → List X → List X
kills_before Killed kills = drop 1 kills
kills_before last kills = kills

-- A text that was cut, joined to another one in the direction in which it was cut.
abbrev pub kill_text : Target → List ℕ → List ℕ → List ℕ
kill_text (Back stop) text kept = text ++ kept
kill_text (Forward stop) text kept = kept ++ text

-- The kills with a text that was cut, up to a limit.
abbrev pub kills_with : ℕ → Last → Target → List ℕ → List (List ℕ) → List (List ℕ)
kills_with limit last target text kills = take limit (kill_text target text (kept_by last kills) ∷ kills_before last kills)

-- The place in the ring of so many kills behind a place: the next older kill, and the newest behind the oldest.
abbrev pub next_place : ℕ → ℕ → ℕ
next_place at count = if nat_lt (at + 1) count then at + 1 else 0
