-- The meaning of a whole sequence.
use Rattle.std.specs.Prelude.{ℕ, ◌+◌, ◌-◌, ◌==◌, nat_lt, nat_le, if◌then◌else◌, Bool, ◌&&◌, List, [], ◌∷◌, length, take, drop, encode_utf8_all, Option, Some, None}
use Rattle.std.specs.Int.RustNames.{bit_and, bit_or}
use Rattle.std.specs.Option.{option_map}
use Rattle.std.specs.Str.{byte}
use Rattle.bstr.specs.Utf8.{decoded, lossy_chars}
use Rattle.unicode.specs.Binary.{is_uppercase}
use Rattle.crossterm_types.specs.declared.event.key.KeyCode.{KeyCode}
use Rattle.crossterm_types.specs.declared.event.key.KeyCode.TheVariants.{Backspace, Enter, Tab, BackTab, F, Char, Esc}
use Rattle.crossterm_types.specs.Keys.{modifiers_of, pressed}
use Rattle.crossterm_types.specs.Seen as types
use Rattle.crossterm_types.specs.Seen.{Seen}
use Rattle.crossterm_parse.specs.Bytes.{DEL, ESC, is_digit}
use Rattle.crossterm_parse.specs.Grammar.{begins, paste_start}
use Rattle.crossterm_parse.specs.Letters.{letter_key}
use Rattle.crossterm_parse.specs.Marked.{Marked, bytes_of, last_raw}
use Rattle.crossterm_parse.specs.Number.{at_most, number}
use Rattle.crossterm_parse.specs.Numbered.{numbered_meaning, sgr_meaning, x10_by, front_of, last_of}
use Rattle.crossterm_parse.specs.declared.meaning.Meaning.{Meaning}
use Rattle.crossterm_parse.specs.declared.meaning.Meaning.TheVariants.{Key, Mouse, FocusGained, FocusLost, CursorPosition, KeyboardEnhancementFlags, PrimaryDeviceAttributes}

-- A key pressed with the modifiers of these bits: SHIFT is 1, CONTROL 2 and ALT 4.
abbrev pub pressed_with : KeyCode → ℕ → Meaning
pressed_with code bits = Key (pressed code (modifiers_of bits))

-- A typed character. It has SHIFT if and only if it has the Uppercase property (Unicode, DerivedCoreProperties).
abbrev pub typed : ℕ → Meaning
typed c = pressed_with (Char c) (if is_uppercase c then 1 else 0)

-- A byte by itself: a control character as a keyboard sends it (xterm), printable ASCII, or DEL.
abbrev pub single : Bool → ℕ → Option Meaning
single raw b =
    if b == byte "\0" then Some (pressed_with (Char (byte " ")) 2) else
    if b == byte "\t" then Some (pressed_with Tab 0) else
    if b == byte "\n" then Some (if raw then pressed_with (Char (byte "j")) 2 else pressed_with Enter 0) else
    if b == byte "\r" then Some (pressed_with Enter 0) else
    if b == ESC then None else
    if nat_le b 0x1A then Some (pressed_with (Char (b - 1 + byte "a")) 2) else
    if nat_le b 0x1F then Some (pressed_with (Char (b - 0x1C + byte "4")) 2) else
    if nat_lt b DEL then Some (typed b) else
    if b == DEL then Some (pressed_with Backspace 0) else
    None

-- A character that was decoded was typed; bytes that aren't a character mean nothing.
abbrev pub decoded_character : Option ℕ → Option Meaning
decoded_character c = option_map typed c

-- The key of a final letter, without modifiers; nothing for other bytes.
abbrev pub letter_meaning : ℕ → Option Meaning
letter_meaning b = option_map (λ code. pressed_with code 0) (letter_key b)

-- The meaning of `ESC O b`, by its last byte.
abbrev pub after_ss3 : ℕ → Option Meaning
after_ss3 b = if b == byte "R" then Some (pressed_with (F 3) 0) else letter_meaning b

-- The meaning of `ESC [ b`, by its last byte.
abbrev pub after_csi : ℕ → Option Meaning
after_csi b =
    if b == byte "I" then Some FocusGained else
    if b == byte "O" then Some FocusLost else
    if b == byte "Z" then Some (pressed_with BackTab 1) else
    letter_meaning b

-- The same key with ALT; nothing if it is no key.
abbrev pub with_alt : Option Meaning → Option Meaning
with_alt (Some (Key k)) = Some (Key (record k { modifiers = modifiers_of (bit_or k.modifiers.0 4) }))
with_alt _ = None

-- The meaning of a character's bytes: of one byte by itself, or of several as they decode.
abbrev pub character_meaning : Bool → List ℕ → Option Meaning
character_meaning raw [] = None
character_meaning raw (b ∷ []) = single raw b
character_meaning raw (b ∷ c ∷ bs) = decoded_character (decoded (b ∷ c ∷ bs)).char

-- The meaning of the bytes after `ESC O`, by the first of them.
abbrev pub ss3_meaning : List ℕ → Option Meaning
ss3_meaning [] = None
ss3_meaning (b ∷ bs) = after_ss3 b

-- The meaning of `ESC [ [ b`, by its last byte: `A` to `E` are F1 to F5.
abbrev pub linux_key : ℕ → Option Meaning
linux_key b = if nat_le (byte "A") b && nat_le b (byte "E") then Some (pressed_with (F (b - byte "@")) 0) else None

-- The meaning of the bytes after `ESC [ [`, by the first of them.
abbrev pub linux_meaning : List ℕ → Option Meaning
linux_meaning [] = None
linux_meaning (b ∷ bs) = linux_key b

-- The meaning of the bytes after `ESC [ M`, by the first three.
abbrev pub x10_meaning : List ℕ → Option Meaning
x10_meaning (a ∷ b ∷ c ∷ bs) = x10_by a b c
x10_meaning _ = None

-- The keyboard flags of a number: its low five bits (kitty).
abbrev pub flags_of : ℕ → Meaning
flags_of n = KeyboardEnhancementFlags (record { 0 = bit_and n 31 })

-- The keyboard flags of the number in a reply; nothing without a number, or if it is above 255.
abbrev pub flags_reply : Option ℕ → Option Meaning
flags_reply n = option_map flags_of (at_most 255 n)

-- The meaning of the bytes after `ESC [ ?`. The last is `c` for the terminal's attributes; else those before it are the
-- keyboard flags (kitty).
abbrev pub reply_meaning : List ℕ → Option Meaning
reply_meaning [] = None
reply_meaning (b ∷ bs) = if last_of (b ∷ bs) == byte "c" then Some PrimaryDeviceAttributes else flags_reply (number (front_of (b ∷ bs)))

-- The meaning of the bytes after `ESC [`, by the first of them.
abbrev pub csi_meaning : Bool → List ℕ → Option Meaning
csi_meaning raw [] = None
csi_meaning raw (b ∷ bs) =
    if b == byte "[" then linux_meaning bs else
    if b == byte "M" then x10_meaning bs else
    if b == byte "<" then sgr_meaning bs else
    if b == byte "?" then reply_meaning bs else
    if is_digit b then numbered_meaning raw (b ∷ bs) else
    after_csi b

-- The meaning of the bytes after ESC. If there are none it is the Esc key, and so it is with a second ESC.
abbrev pub escape_meaning : Bool → List ℕ → Option Meaning
escape_meaning raw [] = Some (pressed_with Esc 0)
escape_meaning raw (b ∷ bs) = if b == byte "O" then ss3_meaning bs else if b == byte "[" then csi_meaning raw bs else
    if b == ESC then Some (pressed_with Esc 0) else with_alt (character_meaning raw (b ∷ bs))

-- The meaning of a sequence's complete bytes; `raw` is the mode reported with the last one.
abbrev pub meaning : Bool → List ℕ → Option Meaning
meaning raw [] = None
meaning raw (b ∷ bs) = if b == ESC then escape_meaning raw bs else character_meaning raw (b ∷ bs)

-- The event of a meaning, as contracts see it.
abbrev pub seen_meaning : Meaning → Seen
seen_meaning (Key k) = types.Key k
seen_meaning (Mouse m) = types.Mouse m
seen_meaning FocusGained = types.FocusGained
seen_meaning FocusLost = types.FocusLost
seen_meaning (CursorPosition column row) = types.CursorPosition column row
seen_meaning (KeyboardEnhancementFlags flags) = types.KeyboardFlags flags
seen_meaning PrimaryDeviceAttributes = types.PrimaryDeviceAttributes

-- The text of a paste: what is between its start and its end.
abbrev pub paste_text : List ℕ → List ℕ
paste_text bytes = let rest = drop 6 bytes in take (length rest - 6) rest

-- The event of a pasted text, with U+FFFD for each maximal part that isn't UTF-8 (Unicode, "Substitution of Maximal
-- Subparts").
abbrev pub pasted : List ℕ → Seen
pasted text = types.Paste (encode_utf8_all (lossy_chars text))

-- The event of a sequence's complete bytes: a paste with its text, or what they mean.
abbrev pub meaning_seen : Bool → List ℕ → Option Seen
meaning_seen raw bytes = if begins paste_start bytes then Some (pasted (paste_text bytes)) else option_map seen_meaning (meaning raw bytes)

-- The event of a whole sequence, or nothing.
abbrev pub meaning_of : List Marked → Option Seen
meaning_of ms = meaning_seen (last_raw ms) (bytes_of ms)
