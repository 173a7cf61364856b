-- The normal form of a normal form is itself.
use Rattle.std.proofs.Common.{◌≡◌, ℕ, Bool, true, false, ◌&&◌, bit_and, bit_or, refl, sym, ap, ◌∙◌, arith}
use Rattle.std.specs.Char.{is_ascii_uppercase, is_ascii_lowercase, to_ascii_uppercase}
use Rattle.std.specs.Cmp.{first_so, second_so, unsigned_Decides}
use Rattle.std.specs.Int.Bits.{or_add_and}
use Rattle.std.proofs.lemmas.Bool.Decides.{nat_tests}
use Rattle.std.proofs.lemmas.Nat.{and_or_self}
use Rattle.crossterm_flags.specs.declared.modifiers.KeyModifiers.{KeyModifiers}
use Rattle.crossterm_flags.specs.declared.state.KeyEventState.{KeyEventState}
use Rattle.crossterm_types.specs.Keys.{modifiers_of}
use Rattle.crossterm_types.specs.Normal.{normal, has_shift, with_shift}
use Rattle.crossterm_types.specs.declared.event.key.KeyCode.{KeyCode}
use Rattle.crossterm_types.specs.declared.event.key.KeyCode.TheVariants.{Char}
use Rattle.crossterm_types.specs.declared.event.key.KeyEvent.{KeyEvent}
use Rattle.crossterm_types.specs.declared.event.key.KeyEventKind.{KeyEventKind}

or_one : (bits : ℕ) → bit_and bits 1 ≡ 1 → bit_or bits 1 ≡ bits
or_one bits h = omega (arith, or_add_and bits 1, h)

-- SHIFT that is there already changes nothing.
with_shift_kept : (modifiers : KeyModifiers) → has_shift modifiers ≡ true → with_shift modifiers ≡ modifiers
with_shift_kept modifiers h = ap modifiers_of (or_one modifiers.0 ((unsigned_Decides (bit_and modifiers.0 1) 1).0 h))

with_shift_twice : (modifiers : KeyModifiers) → with_shift (with_shift modifiers) ≡ with_shift modifiers
with_shift_twice modifiers = ap modifiers_of (or_one (bit_or modifiers.0 1) (and_or_self 1 modifiers.0))

to_uppercase_is : (c : ℕ) → is_ascii_lowercase c ≡ true → is_ascii_uppercase (to_ascii_uppercase c) ≡ true
to_uppercase_is c h = grind (arith, nat_tests)

module _ (kind : KeyEventKind) (state : KeyEventState) where
  -- A character with modifiers.
  abbrev char : ℕ → KeyModifiers → KeyEvent
  char c modifiers = record { code = Char c; modifiers = modifiers; kind = kind; state = state }

  normal_upper : (c : ℕ) (modifiers : KeyModifiers) → is_ascii_uppercase c ≡ true → normal (char c modifiers) ≡ char c (with_shift modifiers)
  normal_upper c modifiers h = rw h

  normal_lower : (c : ℕ) (modifiers : KeyModifiers) → is_ascii_uppercase c ≡ false → (has_shift modifiers && is_ascii_lowercase c) ≡ true → normal (char c modifiers) ≡ char (to_ascii_uppercase c) modifiers
  normal_lower c modifiers h k = rw (h, k)

  normal_other : (c : ℕ) (modifiers : KeyModifiers) → is_ascii_uppercase c ≡ false → (has_shift modifiers && is_ascii_lowercase c) ≡ false → normal (char c modifiers) ≡ char c modifiers
  normal_other c modifiers h k = rw (h, k)

  char_twice : (c : ℕ) (modifiers : KeyModifiers) (upper lower : Bool) → is_ascii_uppercase c ≡ upper → (has_shift modifiers && is_ascii_lowercase c) ≡ lower → normal (normal (char c modifiers)) ≡ normal (char c modifiers)
  char_twice c modifiers true lower h k =
      let once = normal_upper c modifiers h in
      ap normal once ∙ normal_upper c (with_shift modifiers) h ∙ ap (char c) (with_shift_twice modifiers) ∙ sym once
  char_twice c modifiers false true h k =
      let once = normal_lower c modifiers h k in
      let upper : is_ascii_uppercase (to_ascii_uppercase c) ≡ true = to_uppercase_is c (second_so (has_shift modifiers) (is_ascii_lowercase c) k) in
      let kept : with_shift modifiers ≡ modifiers = with_shift_kept modifiers (first_so (has_shift modifiers) (is_ascii_lowercase c) k) in
      ap normal once ∙ normal_upper (to_ascii_uppercase c) modifiers upper ∙ ap (char (to_ascii_uppercase c)) kept ∙ sym once
  char_twice c modifiers false false h k = ap normal (normal_other c modifiers h k)

  -- By the key's code.
  key_twice : (code : KeyCode) (modifiers : KeyModifiers) → let key : KeyEvent = record { code = code; modifiers = modifiers; kind = kind; state = state } in normal (normal key) ≡ normal key
  key_twice (Char c) modifiers = char_twice c modifiers (is_ascii_uppercase c) (has_shift modifiers && is_ascii_lowercase c) refl refl
  key_twice _ modifiers = refl

pub normal-normal : (key : KeyEvent) → normal (normal key) ≡ normal key
normal-normal key = key_twice key.kind key.state key.code key.modifiers
