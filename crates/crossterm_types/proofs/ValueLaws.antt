-- Values that are written are read back.
use mathlib.Core.Bool.{true≢false}
use Rattle.std.proofs.lemmas.Cmp.{nat_list_eq_equiv}
use Rattle.std.specs.Cmp.Lexicographic.{same_text}
use Rattle.std.specs.Prelude.{◌&&◌, nat_lt, if◌then◌else◌}
use Rattle.std.proofs.Common.{◌≡◌, ◌≢◌, ◌+◌, ◌*◌, ◌/◌, ◌%◌, ◌<◌, ℕ, Bool, true, false, cond, List, [], ◌∷◌, Option, None, Some, refl, sym, ap, subst, arith, rules}
use Rattle.std.specs.Char.{IsScalar, encode_utf8}
use Rattle.std.specs.Option.{option_and_then, option_map}
use lib.Utf8.{next, scalar}
use lib.Dec.{ltb}
use Rattle.std.proofs.lemmas.Bool.Decides.{nat_tests}
use Rattle.serde_json.specs.Data.{string}
use Rattle.crossterm_flags.proofs.Ranks.{of_each}
use Rattle.crossterm_flags.specs.Values.{number_value, reads_below, same}
use Rattle.crossterm_types.specs.Seen.{seen_event}
use Rattle.crossterm_types.specs.Seen as seen
use Rattle.crossterm_types.specs.Values.{FitsCode, FitsEvent, FitsKey, FitsMouse, code_value, event_value, key_value, mouse_kind_value, mouse_value, only_char, point, reads_code, reads_event, reads_key, reads_mouse, reads_mouse_kind}
use Rattle.crossterm_flags.specs.Variants.{value_in, variant}
use Rattle.crossterm_types.specs.Variants.{buttons, kinds, media_keys, modifier_keys, plain_keys}
use Rattle.crossterm_types.specs.contracts.event.key.KeyEventKind as kind_enum
use Rattle.crossterm_types.specs.contracts.event.key.MediaKeyCode as medias
use Rattle.crossterm_types.specs.contracts.event.key.ModifierKeyCode as modifiers
use Rattle.crossterm_types.specs.contracts.event.mouse.MouseButton as button_enum
use Rattle.crossterm_types.specs.declared.event.Event.{Event}
use Rattle.crossterm_types.specs.declared.event.Event.TheVariants as event
use Rattle.crossterm_types.specs.declared.event.mouse.MouseButton.{MouseButton}
use Rattle.crossterm_types.specs.declared.event.mouse.MouseEvent.{MouseEvent}
use Rattle.crossterm_types.specs.declared.event.mouse.MouseEventKind.{MouseEventKind}
use Rattle.crossterm_types.specs.declared.event.mouse.MouseEventKind.TheVariants as mouse
use Rattle.crossterm_types.specs.declared.event.key.KeyCode.{KeyCode}
use Rattle.crossterm_types.specs.declared.event.key.KeyCode.TheVariants as code
use Rattle.crossterm_types.specs.declared.event.key.KeyEvent.{KeyEvent}
use Rattle.crossterm_types.specs.declared.event.key.KeyEventKind.{KeyEventKind}
use Rattle.crossterm_types.specs.declared.event.key.MediaKeyCode.{MediaKeyCode}
use Rattle.crossterm_types.specs.declared.event.key.ModifierKeyCode.{ModifierKeyCode}

pub kind_back : (x : KeyEventKind) → value_in kinds.rows (variant kinds x) ≡ Some x
kind_back = of_each kind_enum.enum _ (search rules)

pub media_back : (x : MediaKeyCode) → value_in media_keys.rows (variant media_keys x) ≡ Some x
media_back = of_each medias.enum _ (search rules)

pub modifier_back : (x : ModifierKeyCode) → value_in modifier_keys.rows (variant modifier_keys x) ≡ Some x
modifier_back = of_each modifiers.enum _ (search rules)

-- ---- characters

-- The bytes of a character, by how many there are.
abbrev bytes : ℕ → Bool → Bool → Bool → List ℕ
bytes c x y z = cond x (c ∷ []) (cond y ((192 + c / 64) ∷ next c ∷ []) (cond z ((224 + c / 4096) ∷ next (c / 64) ∷ next c ∷ []) ((240 + c / 262144) ∷ next (c / 4096) ∷ next (c / 64) ∷ next c ∷ [])))

bytes_spell : (c : ℕ) (x y z : Bool) → point (bytes c x y z) ≡ c
bytes_spell c true y z = refl
bytes_spell c false true z = omega arith
bytes_spell c false false true = omega arith
bytes_spell c false false false =
    let p0 : c ≡ (c / 64) * 64 + c % 64 = omega arith in
    let p1 : c / 64 ≡ (c / 4096) * 64 + (c / 64) % 64 = omega arith in
    let p2 : c / 4096 ≡ (c / 262144) * 64 + (c / 4096) % 64 = omega arith in
    omega arith

pub encode_spells : (c : ℕ) → point (encode_utf8 c) ≡ c
unfolding encode_utf8
encode_spells c = bytes_spell c (ltb c 128) (ltb c 2048) (ltb c 65536)

picked : {X : Type 0} (p q : Bool) (x : X) → p ≡ true → q ≡ true → cond (p && q) (Some x) None ≡ Some x
picked true true x h k = refl
picked true false x h k = absurd (true≢false (sym k))
picked false q x h k = absurd (true≢false (sym h))

-- A text of one character has that character.
pub char_back : (c : ℕ) → IsScalar c → only_char (encode_utf8 c) ≡ Some c
char_back c is =
    let Reads : ℕ → Type 0 = λ p. cond (scalar p && same (encode_utf8 p) (encode_utf8 c)) (Some p) None ≡ Some c in
    subst Reads (sym (encode_spells c)) (picked (scalar c) (same (encode_utf8 c) (encode_utf8 c)) c is (nat_list_eq_equiv.refl (encode_utf8 c)))

-- ---- none of four names

by_names : {X : Type 0} (a b c d : Bool) (w x y z : Option X) → (a ≡ true → ⊥) → (b ≡ true → ⊥) → (c ≡ true → ⊥) → (d ≡ true → ⊥) → cond a w (cond b x (cond c y (cond d z None))) ≡ None
by_names true b c d w x y z f g h k = absurd (f refl)
by_names false true c d w x y z f g h k = absurd (g refl)
by_names false false true d w x y z f g h k = absurd (h refl)
by_names false false false true w x y z f g h k = absurd (k refl)
by_names false false false false w x y z f g h k = refl

-- If a text is none of four names, nothing is chosen by them.
pub none_of : {X : Type 0} (text a b c d : List ℕ) (w x y z : Option X) → text ≢ a → text ≢ b → text ≢ c → text ≢ d
    → cond (same text a) w (cond (same text b) x (cond (same text c) y (cond (same text d) z None))) ≡ None
none_of text a b c d w x y z f g h k =
    by_names (same text a) (same text b) (same text c) (same text d) w x y z
    (λ e. f (same_text text a (sym e))) (λ e. g (same_text text b (sym e))) (λ e. h (same_text text c (sym e))) (λ e. k (same_text text d (sym e)))

-- ---- keys

-- A key without a value is written as its variant.
pub plain_json : (c : KeyCode) → ((n : ℕ) → c ≡ code.F n → ⊥) → ((n : ℕ) → c ≡ code.Char n → ⊥) → ((k : MediaKeyCode) → c ≡ code.Media k → ⊥) → ((k : ModifierKeyCode) → c ≡ code.Modifier k → ⊥)
    → code_value c ≡ string (variant plain_keys c)
plain_json (code.F n) f g h k = absurd (f n refl)
plain_json (code.Char n) f g h k = absurd (g n refl)
plain_json (code.Media key) f g h k = absurd (h key refl)
plain_json (code.Modifier key) f g h k = absurd (k key refl)
plain_json _ f g h k = refl

below_back : (b : Bool) (n : ℕ) → b ≡ true → (if b then Some n else None) ≡ Some n
below_back true n h = refl
below_back false n h = absurd (true≢false (sym h))

pub code_back : (c : KeyCode) → FitsCode c → reads_code (code_value c) ≡ Some c
code_back (code.F n) fits = ap (option_map code.F) (below_back (nat_lt n 256) n (grind (arith, nat_tests)))
code_back (code.Char c) fits = ap (option_map code.Char) (char_back c fits)
code_back (code.Media key) fits = ap (option_map code.Media) (media_back key)
code_back (code.Modifier key) fits = ap (option_map code.Modifier) (modifier_back key)
code_back _ fits = refl

byte_back : (n : ℕ) → n < 256 → reads_below 256 (number_value n) ≡ Some n
byte_back n h = below_back (nat_lt n 256) n (grind (arith, nat_tests))

word_back : (n : ℕ) → n < 65536 → reads_below 65536 (number_value n) ≡ Some n
word_back n h = below_back (nat_lt n 65536) n (grind (arith, nat_tests))

pub key_back : (key : KeyEvent) → FitsKey key → reads_key (key_value key) ≡ Some key
key_back key fits i =
    option_and_then (λ code. option_and_then (λ kind. option_and_then (λ modifiers. option_map (λ state.
    record { code = code; modifiers = record { 0 = modifiers }; kind = kind; state = record { 0 = state } })
    (byte_back key.state.0 fits.2 i)) (byte_back key.modifiers.0 fits.1 i)) (kind_back key.kind i)) (code_back key.code fits.0 i)

-- ---- the mouse

pub button_back : (x : MouseButton) → value_in buttons.rows (variant buttons x) ≡ Some x
button_back = of_each button_enum.enum _ (search rules)

pub mouse_kind_back : (m : MouseEventKind) → reads_mouse_kind (mouse_kind_value m) ≡ Some m
mouse_kind_back (mouse.Down b) = ap (option_map mouse.Down) (button_back b)
mouse_kind_back (mouse.Up b) = ap (option_map mouse.Up) (button_back b)
mouse_kind_back (mouse.Drag b) = ap (option_map mouse.Drag) (button_back b)
mouse_kind_back _ = refl

pub mouse_back : (m : MouseEvent) → FitsMouse m → reads_mouse (mouse_value m) ≡ Some m
mouse_back m fits i =
    option_and_then (λ column. option_and_then (λ kind. option_and_then (λ modifiers. option_map (λ row.
    record { kind = kind; column = column; row = row; modifiers = record { 0 = modifiers } })
    (word_back m.row fits.1 i)) (byte_back m.modifiers.0 fits.2 i)) (mouse_kind_back m.kind i)) (word_back m.column fits.0 i)

-- ---- events

pub event_back : {A : Type 0} (e : Event A) → FitsEvent e → reads_event (event_value e) ≡ Some (seen_event e)
event_back event.FocusGained fits = refl
event_back event.FocusLost fits = refl
event_back (event.Key key) fits = ap (option_map seen.Key) (key_back key fits)
event_back (event.Mouse m) fits = ap (option_map seen.Mouse) (mouse_back m fits)
event_back (event.Paste text) fits = refl
event_back (event.Resize columns rows) fits = λ i. option_and_then (λ c. option_map (seen.Resize c) (word_back rows fits.1 i)) (word_back columns fits.0 i)
