-- Colours in four numbers.
use Rattle.std.specs.Prelude.{◌==◌, Option, Some, None, if◌then◌else◌}
use Rattle.crossterm_style.specs.declared.types.color.Color.{Color}
use Rattle.crossterm_style.specs.declared.types.color.Color.TheVariants as color
use Rattle.screen.specs.declared.packed.PackedColor.TheInside.{Inside}

-- The colour that four numbers encode: the first one is its kind, and the others are its parameters.
abbrev pub unpacked : Inside → Option Color
unpacked a =
    if a.0 == 0 then None else (
    if a.0 == 1 then Some color.Reset else (
    if a.0 == 2 then Some color.Black else (
    if a.0 == 3 then Some color.DarkGrey else (
    if a.0 == 4 then Some color.Red else (
    if a.0 == 5 then Some color.DarkRed else (
    if a.0 == 6 then Some color.Green else (
    if a.0 == 7 then Some color.DarkGreen else (
    if a.0 == 8 then Some color.Yellow else (
    if a.0 == 9 then Some color.DarkYellow else (
    if a.0 == 10 then Some color.Blue else (
    if a.0 == 11 then Some color.DarkBlue else (
    if a.0 == 12 then Some color.Magenta else (
    if a.0 == 13 then Some color.DarkMagenta else (
    if a.0 == 14 then Some color.Cyan else (
    if a.0 == 15 then Some color.DarkCyan else (
    if a.0 == 16 then Some color.White else (
    if a.0 == 17 then Some color.Grey else (
    if a.0 == 18 then Some (color.AnsiValue a.1) else (
    Some (color.Rgb a.1 a.2 a.3))))))))))))))))))))

-- The four numbers of a colour, or of none. Numbers that its kind doesn't use are 0.
abbrev pub packed : Option Color → Inside
packed None = record { 0 = 0; 1 = 0; 2 = 0; 3 = 0 }
packed (Some color.Reset) = record { 0 = 1; 1 = 0; 2 = 0; 3 = 0 }
packed (Some color.Black) = record { 0 = 2; 1 = 0; 2 = 0; 3 = 0 }
packed (Some color.DarkGrey) = record { 0 = 3; 1 = 0; 2 = 0; 3 = 0 }
packed (Some color.Red) = record { 0 = 4; 1 = 0; 2 = 0; 3 = 0 }
packed (Some color.DarkRed) = record { 0 = 5; 1 = 0; 2 = 0; 3 = 0 }
packed (Some color.Green) = record { 0 = 6; 1 = 0; 2 = 0; 3 = 0 }
packed (Some color.DarkGreen) = record { 0 = 7; 1 = 0; 2 = 0; 3 = 0 }
packed (Some color.Yellow) = record { 0 = 8; 1 = 0; 2 = 0; 3 = 0 }
packed (Some color.DarkYellow) = record { 0 = 9; 1 = 0; 2 = 0; 3 = 0 }
packed (Some color.Blue) = record { 0 = 10; 1 = 0; 2 = 0; 3 = 0 }
packed (Some color.DarkBlue) = record { 0 = 11; 1 = 0; 2 = 0; 3 = 0 }
packed (Some color.Magenta) = record { 0 = 12; 1 = 0; 2 = 0; 3 = 0 }
packed (Some color.DarkMagenta) = record { 0 = 13; 1 = 0; 2 = 0; 3 = 0 }
packed (Some color.Cyan) = record { 0 = 14; 1 = 0; 2 = 0; 3 = 0 }
packed (Some color.DarkCyan) = record { 0 = 15; 1 = 0; 2 = 0; 3 = 0 }
packed (Some color.White) = record { 0 = 16; 1 = 0; 2 = 0; 3 = 0 }
packed (Some color.Grey) = record { 0 = 17; 1 = 0; 2 = 0; 3 = 0 }
packed (Some (color.AnsiValue place)) = record { 0 = 18; 1 = place; 2 = 0; 3 = 0 }
packed (Some (color.Rgb r g b)) = record { 0 = 19; 1 = r; 2 = g; 3 = b }
