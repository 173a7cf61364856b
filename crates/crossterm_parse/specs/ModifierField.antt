-- The modifier field of a numbered sequence: which modifiers and locks were on, and whether the key was pressed,
-- repeated or released.
use Rattle.std.specs.Prelude.{ℕ, ◌-◌, ◌==◌, if◌then◌else◌, Option, Some, None}
use Rattle.std.specs.Int.RustNames.{bit_or}
use Rattle.std.specs.Option.{option_map}
use Rattle.std.specs.Str.{byte}
use Rattle.crossterm_types.specs.Keys.{modifiers_of}
use Rattle.crossterm_types.specs.declared.event.key.KeyEventKind.{KeyEventKind}
use Rattle.crossterm_types.specs.declared.event.key.KeyEventKind.TheVariants.{Press, Repeat, Release}
use Rattle.crossterm_parse.specs.Bytes.{is_digit}
use Rattle.crossterm_parse.specs.Bits.{where_bit}
use Rattle.crossterm_parse.specs.declared.modifier_field.ModifierField.{ModifierField}

-- The modifiers of a mask, as bits of `KeyModifiers`. In the mask less 1, SHIFT is 1, ALT 2, CONTROL 4, SUPER 8, HYPER
-- 16 and META 32.
abbrev pub mask_modifiers : ℕ → ℕ
mask_modifiers mask = let n = mask - 1 in
    bit_or (bit_or (bit_or (where_bit n 1 1) (where_bit n 2 4)) (bit_or (where_bit n 4 2) (where_bit n 8 8))) (bit_or (where_bit n 16 16) (where_bit n 32 32))

-- The locks of a mask, as bits of `KeyEventState`: in the mask less 1, CAPS_LOCK is 64 and NUM_LOCK 128.
abbrev pub mask_state : ℕ → ℕ
mask_state mask = let n = mask - 1 in bit_or (where_bit n 64 2) (where_bit n 128 4)

-- The kind of a key event by its number: 2 is a repeat, 3 a release, and all else a press.
abbrev pub press_kind : Option ℕ → KeyEventKind
press_kind None = Press
press_kind (Some n) = if n == 2 then Repeat else if n == 3 then Release else Press

-- The modifier field of a mask and a kind; nothing without a mask.
abbrev pub modifier_field : Option ℕ → Option ℕ → Option ModifierField
modifier_field mask kind = option_map (λ n. record { modifiers = modifiers_of (mask_modifiers n); kind = press_kind kind; state = record { 0 = mask_state n } }) mask

-- No modifier, no lock, and pressed.
abbrev pub empty_modifier_field : ModifierField
empty_modifier_field = record { modifiers = modifiers_of 0; kind = Press; state = record { 0 = 0 } }

-- A modifier field, or the empty one if there is none.
abbrev pub or_empty_modifier_field : Option ModifierField → ModifierField
or_empty_modifier_field None = empty_modifier_field
or_empty_modifier_field (Some h) = h

-- The modifier field of a last byte that is a digit: the digit is the mask. Nothing for other bytes.
abbrev pub fallback : ℕ → Option ModifierField
fallback b = if is_digit b then modifier_field (Some (b - byte "0")) None else None

-- A modifier field, or that of the last byte if there is none.
abbrev pub or_fallback : Option ModifierField → ℕ → Option ModifierField
or_fallback None last = fallback last
or_fallback (Some h) last = Some h
