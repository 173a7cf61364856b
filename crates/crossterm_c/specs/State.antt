-- The state of an open sequence, by the numbers that a caller keeps. Any numbers give a state.
use Rattle.std.specs.Prelude.{ℕ, not, ◌==◌, if◌then◌else◌}
use Rattle.crossterm_parse.specs.declared.number.Number.{Number}
use Rattle.crossterm_parse.specs.declared.number.Number.TheVariants as number
use Rattle.crossterm_parse.specs.declared.fields.Part.{Part}
use Rattle.crossterm_parse.specs.declared.fields.Part.TheVariants as part
use Rattle.crossterm_parse.specs.declared.fields.Place.{Place}
use Rattle.crossterm_parse.specs.declared.fields.Place.TheVariants as place
use Rattle.crossterm_parse.specs.declared.character.Begun.{Begun}
use Rattle.crossterm_parse.specs.declared.character.Begun.TheVariants as begun
use Rattle.crossterm_parse.specs.declared.utf8.Validity.{Validity}
use Rattle.crossterm_parse.specs.declared.utf8.Validity.TheVariants as validity
use Rattle.crossterm_parse.specs.declared.numbered.Parameters.{Parameters}
use Rattle.crossterm_parse.specs.declared.mouse.X10Report.{X10Report}
use Rattle.crossterm_parse.specs.declared.mouse.X10Report.TheVariants as x10
use Rattle.crossterm_parse.specs.declared.paste.Met.{Met}
use Rattle.crossterm_parse.specs.declared.paste.Met.TheVariants as met
use Rattle.crossterm_parse.specs.declared.paste.Opening.{Opening}
use Rattle.crossterm_parse.specs.declared.paste.Opening.TheVariants as opening
use Rattle.crossterm_parse.specs.declared.state.State.{State}
use Rattle.crossterm_parse.specs.declared.state.State.TheVariants as state
use Rattle.crossterm_c.specs.declared.state.GelvanhNumber.{GelvanhNumber}
use Rattle.crossterm_c.specs.declared.state.GelvanhBytes.{GelvanhBytes}
use Rattle.crossterm_c.specs.declared.state.GelvanhState.{GelvanhState}

-- A number that is being read. Its kind is 0 with no byte yet, 1 with a `+` alone, 2 with this value, 3 above 32
-- bits, otherwise no number.
abbrev pub number_by : ℕ → ℕ → Number
number_by kind value = if kind == 0 then number.Empty else if kind == 1 then number.Plus else if kind == 2 then number.Value value else if kind == 3 then number.Big else number.Bad

-- A number that is being read, by its kind and its value.
abbrev pub number_at : GelvanhNumber → Number
number_at numbers = number_by numbers.kind numbers.value

-- The part of a field that is being read: the first (0), the second (1), or otherwise a later one.
abbrev pub part_at : ℕ → Part
part_at n = if n == 0 then part.First else if n == 1 then part.Second else part.Later

-- The field that is being read: the first (0), the second (1), the third (2), or otherwise a later one.
abbrev pub field_place : ℕ → Place
field_place n = if n == 0 then place.First else if n == 1 then place.Second else if n == 2 then place.Third else place.Later

-- The bytes of a character so far: one, two, or for any other count three.
abbrev pub begun_at : GelvanhBytes → Begun
begun_at numbers = if numbers.count == 1 then begun.One numbers.first else if numbers.count == 2 then begun.Two numbers.first numbers.second else begun.Three numbers.first numbers.second numbers.third

-- How much of a paste's start was met: 1 is `2`, 2 is `20`, 3 is `200`, and any other number is nothing.
abbrev pub opening_at : ℕ → Opening
opening_at n = if n == 1 then opening.Two else if n == 2 then opening.Zero else if n == 3 then opening.Zeros else opening.Not

-- How many bytes of a paste's end were met: 1 to 5, and for any other number none.
abbrev pub met_at : ℕ → Met
met_at n = if n == 1 then met.Escape else if n == 2 then met.Bracket else if n == 3 then met.Two else if n == 4 then met.Zero else if n == 5 then met.One else met.Nothing

-- Whether the bytes are UTF-8: 0 is yes, 1 is yes with the beginning of a character after them, any other number is
-- no.
abbrev pub validity_by : ℕ → GelvanhBytes → Validity
validity_by n numbers = if n == 0 then validity.Sound else if n == 1 then validity.Partial (begun_at numbers) else validity.Broken

-- The bytes after `ESC [ M`: none, one, or for any other count two.
abbrev pub x10_at : GelvanhBytes → X10Report
x10_at numbers = if numbers.count == 0 then x10.Empty else if numbers.count == 1 then x10.Code numbers.first else x10.Column numbers.first numbers.second

-- What was read of a numbered sequence or of a report of the mouse.
abbrev pub parameters_at : GelvanhState → Parameters
parameters_at numbers = record {
  fields = record {
    first = record { first = number_at numbers.one; second = number_at numbers.one_more; part = part_at numbers.part_one };
    second = record { first = number_at numbers.two; second = number_at numbers.two_more; part = part_at numbers.part_two };
    third = number_at numbers.three;
    place = field_place numbers.place;
  };
  last = numbers.last;
  validity = validity_by numbers.validity numbers.begun;
}

-- The state of these numbers. An unknown kind is the state outside of any sequence.
abbrev pub state_at : GelvanhState → State
state_at numbers =
    if numbers.kind == 1 then state.Escape else
    if numbers.kind == 2 then state.Ss3 else
    if numbers.kind == 3 then state.Csi else
    if numbers.kind == 4 then state.LinuxKey else
    if numbers.kind == 5 then state.X10 (x10_at numbers.begun) else
    if numbers.kind == 6 then state.Sgr (parameters_at numbers) else
    if numbers.kind == 7 then state.Private else
    if numbers.kind == 8 then state.Reply (number_at numbers.one) else
    if numbers.kind == 9 then state.Numbered (parameters_at numbers) (opening_at numbers.opening) else
    if numbers.kind == 10 then state.Paste (met_at numbers.opening) else
    if numbers.kind == 11 then state.Utf8 (record { escaped = not (numbers.escaped == 0); begun = begun_at numbers.begun }) else
    state.Ground
