-- Reports of the mouse (xterm, "Mouse Tracking").
use Rattle.std.specs.Prelude.{ℕ, ◌+◌, ◌-◌, ◌*◌, ◌/◌, ◌%◌, ◌==◌, nat_le, if◌then◌else◌, Option, Some, None, option_and_then}
use Rattle.std.specs.Str.{byte}
use Rattle.std.specs.Int.RustNames.{bit_and, bit_or}
use Rattle.std.specs.Option.{option_map}
use Rattle.crossterm_types.specs.Keys.{modifiers_of}
use Rattle.crossterm_types.specs.declared.event.mouse.MouseButton.TheVariants.{Left, Right, Middle}
use Rattle.crossterm_types.specs.declared.event.mouse.MouseEvent.{MouseEvent}
use Rattle.crossterm_types.specs.declared.event.mouse.MouseEventKind.{MouseEventKind}
use Rattle.crossterm_types.specs.declared.event.mouse.MouseEventKind.TheVariants.{Down, Up, Drag, Moved, ScrollDown, ScrollUp, ScrollLeft, ScrollRight}
use Rattle.crossterm_parse.specs.Bits.{where_bit}

-- The button number of a code: its low two bits, with its bits 64 and 128 as 4 and 8.
abbrev pub button_of : ℕ → ℕ
button_of code = code % 4 + code / 64 * 4

-- A button that is pressed or a wheel that is turned, by its number. 3 is a button that is let go.
abbrev pub pressed_button : ℕ → Option MouseEventKind
pressed_button n =
    if n == 0 then Some (Down Left) else
    if n == 1 then Some (Down Middle) else
    if n == 2 then Some (Down Right) else
    if n == 3 then Some (Up Left) else
    if n == 4 then Some ScrollUp else
    if n == 5 then Some ScrollDown else
    if n == 6 then Some ScrollLeft else
    if n == 7 then Some ScrollRight else
    None

-- A movement by its button number: 0 to 2 with that button held, 3 to 5 with none.
abbrev pub dragged_button : ℕ → Option MouseEventKind
dragged_button n =
    if n == 0 then Some (Drag Left) else
    if n == 1 then Some (Drag Middle) else
    if n == 2 then Some (Drag Right) else
    if nat_le n 5 then Some Moved else
    None

-- The kind of event that a code reports: a movement if its bit 32 is on, else a button or the wheel.
abbrev pub mouse_kind : ℕ → Option MouseEventKind
mouse_kind code = if bit_and code 32 == 32 then dragged_button (button_of code) else pressed_button (button_of code)

-- The modifiers of a code, as bits of `KeyModifiers`: its bit 4 is SHIFT, 8 ALT and 16 CONTROL.
abbrev pub mouse_modifiers : ℕ → ℕ
mouse_modifiers code = bit_or (bit_or (where_bit code 4 1) (where_bit code 8 4)) (where_bit code 16 2)

-- The event of a code at a column and a row, which count from 0.
abbrev pub mouse_event : ℕ → ℕ → ℕ → Option MouseEvent
mouse_event code column row = option_map (λ kind. record { kind = kind; column = column; row = row; modifiers = modifiers_of (mouse_modifiers code) }) (mouse_kind code)

-- The event of a code at a column and a row, if all three numbers are there.
abbrev pub mouse_report : Option ℕ → Option ℕ → Option ℕ → Option MouseEvent
mouse_report code column row = option_and_then (λ c. option_and_then (λ x. option_and_then (λ y. mouse_event c x y) row) column) code

-- `m` less `n`; nothing if `m` is below `n`.
abbrev pub less : ℕ → ℕ → Option ℕ
less n m = if nat_le n m then Some (m - n) else None

-- A pressed button becomes one that is let go; other kinds stay as they are.
abbrev pub let_go : MouseEventKind → MouseEventKind
let_go (Down button) = Up button
let_go kind = kind

-- With the final byte `m` the button is let go; with any other the event stays as it is.
abbrev pub released : ℕ → MouseEvent → MouseEvent
released f m = if f == byte "m" then record m { kind = let_go m.kind } else m
