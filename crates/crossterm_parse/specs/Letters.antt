-- The keys of final letters (xterm, "PC-Style Function Keys").
use Rattle.std.specs.Prelude.{ℕ, ◌==◌, if◌then◌else◌, Option, Some, None}
use Rattle.std.specs.Str.{byte}
use Rattle.crossterm_types.specs.declared.event.key.KeyCode.{KeyCode}
use Rattle.crossterm_types.specs.declared.event.key.KeyCode.TheVariants.{Left, Right, Up, Down, Home, End, F}

-- The key of a final letter after `ESC O`, `ESC [` or a number; nothing for other bytes.
abbrev pub letter_key : ℕ → Option KeyCode
letter_key b =
    if b == byte "A" then Some Up else
    if b == byte "B" then Some Down else
    if b == byte "C" then Some Right else
    if b == byte "D" then Some Left else
    if b == byte "F" then Some End else
    if b == byte "H" then Some Home else
    if b == byte "P" then Some (F 1) else
    if b == byte "Q" then Some (F 2) else
    if b == byte "S" then Some (F 4) else
    None
