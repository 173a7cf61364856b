-- What is spelled reads as the same chord.
use Rattle.std.proofs.Common.{◌≡◌, ◌<◌, ℕ, zero, suc, ◌==◌, ◌+◌, ◌/◌, Bool, true, false, List, [], ◌∷◌, ◌++◌, Some, None, Option, not, is_none, arith, ap, refl, sym, subst, ◌∙◌}
use mathlib.Core.Bool.{true≢false}
use Rattle.std.specs.Prelude.{◌&&◌, bit_and, bit_or, codes, cond, if◌then◌else◌, length, nat_lt}
use Rattle.std.specs.Char.{IsScalar, encode_utf8, is_ascii_uppercase}
use lib.Dec.{ltb}
use lib.Utf8.{next}
use Rattle.std.specs.Option.{option_map, option_or}
use Rattle.std.specs.Cmp.{first_so, second_so, unsigned_Decides}
use Rattle.std.specs.Fmt.{decimal, digits}
use Rattle.std.specs.List.{AllByRecursion, list_all, onto_first}
use Rattle.std.proofs.lemmas.Bool.Decides.{nat_tests}
use Rattle.std.specs.declared.result.Result.TheVariants.{Ok}
use Rattle.std.proofs.lemmas.Bool.{ltb-true}
use Rattle.crossterm_flags.specs.Variants.{value_in}
use Rattle.crossterm_flags.specs.declared.modifiers.KeyModifiers.{KeyModifiers}
use Rattle.crossterm_types.proofs.ValueLaws.{char_back}
use Rattle.crossterm_types.specs.Keys.{modifiers_of, pressed}
use Rattle.crossterm_types.specs.Normal.{normal, with_shift}
use Rattle.crossterm_types.specs.Values.{FitsCode, only_char}
use Rattle.crossterm_types.specs.declared.event.key.KeyCode.{KeyCode}
use Rattle.crossterm_types.specs.declared.event.key.KeyCode.TheVariants as key
use Rattle.crossterm_types.specs.declared.event.key.MediaKeyCode.TheVariants as media
use Rattle.crossterm_types.specs.declared.event.key.ModifierKeyCode.TheVariants as modifier
use Rattle.keymap.specs.Spelling.{ChordsReadBack, function_number, key_words, modifier_words, hyphen_parts, read_code, read_key, read_modifier, read_parts, spelled_after, spelled_bits, spelled_code, with_bits}
use Rattle.keymap.proofs.Words.{read_word}

-- ---- numbers below a limit, one by one

abbrev all_below : (ℕ → Bool) → ℕ → Bool
all_below p zero = true
all_below p (suc n) = all_below p n && p n

each : (p : ℕ → Bool) (n : ℕ) → all_below p n ≡ true → (i : ℕ) → i < n → p i ≡ true
each p zero h i l = absurd (omega (arith, l))
each p (suc n) h i l =
    let is : (i == n) ≡ true → i ≡ n = (unsigned_Decides i n).0 in
    let so : i ≡ n → (i == n) ≡ true = (unsigned_Decides i n).1 in
    last (i == n) is so (each p n (first_so (all_below p n) (p n) h) i) (second_so (all_below p n) (p n) h)
  where
    last : (b : Bool) → (b ≡ true → i ≡ n) → (i ≡ n → b ≡ true) → (i < n → p i ≡ true) → p n ≡ true → p i ≡ true
    last true is so before at = subst (λ m. p m ≡ true) (sym (is refl)) at
    last false is so before at =
        let other : i ≡ n → ⊥ = λ e. true≢false (sym (so e)) in
        before (omega (arith, l, other))

equal_each : (f g : ℕ → ℕ) → all_below (λ n. f n == g n) 256 ≡ true → (i : ℕ) → i < 256 → f i ≡ g i
equal_each f g h i l = (unsigned_Decides (f i) (g i)).0 (each (λ n. f n == g n) 256 h i l)

-- ---- modifiers

-- A modifier's word is a part by itself, and has the modifier's bit.
record IsWord (row : List ℕ × ℕ) : Type 0 where
  is_part : (rest : List ℕ) → hyphen_parts ((row.0 ++ 45 ∷ []) ++ rest) ≡ row.0 ∷ hyphen_parts rest
  is_some : false ≡ (length row.0 == 0)
  has_bit : value_in modifier_words row.0 ≡ Some row.1

are_words : AllByRecursion IsWord modifier_words
are_words = (
  record { is_part = λ rest. refl; is_some = refl; has_bit = refl },
  (
    record { is_part = λ rest. refl; is_some = refl; has_bit = refl },
    (
      record { is_part = λ rest. refl; is_some = refl; has_bit = refl },
      (
        record { is_part = λ rest. refl; is_some = refl; has_bit = refl },
        (
          record { is_part = λ rest. refl; is_some = refl; has_bit = refl },
          (
            record { is_part = λ rest. refl; is_some = refl; has_bit = refl },
            (
              record { is_part = λ rest. refl; is_some = refl; has_bit = refl },
              (record { is_part = λ rest. refl; is_some = refl; has_bit = refl }, tt),
            ),
          ),
        ),
      ),
    ),
  ),
)

-- The bits that words of modifiers add to others.
abbrev bits_after : List (List ℕ × ℕ) → ℕ → ℕ → ℕ
bits_after [] bits before = before
bits_after (row ∷ rows) bits before = bits_after rows bits (if bit_and bits row.1 == 0 then before else bit_or before row.1)

word_read : (row : List ℕ × ℕ) → IsWord row → (b : Bool) (before : ℕ) (rest : List ℕ)
    → read_parts before (hyphen_parts ((if b then [] else row.0 ++ 45 ∷ []) ++ rest)) ≡ read_parts (if b then before else bit_or before row.1) (hyphen_parts rest)
word_read row is true before rest = refl
word_read row is false before rest =
    ap (λ l. read_parts before l) (is.is_part rest) ∙ read_word before row.0 rest is.is_some
    ∙ ap (λ v. read_modifier v (λ bit. read_parts (bit_or before bit) (hyphen_parts rest))) is.has_bit

words_read : (rows : List (List ℕ × ℕ)) → AllByRecursion IsWord rows → (bits before : ℕ) (text : List ℕ)
    → read_parts before (hyphen_parts (spelled_after rows bits text)) ≡ read_parts (bits_after rows bits before) (hyphen_parts text)
words_read [] is bits before text = refl
words_read (row ∷ rows) is bits before text =
    word_read row is.0 (bit_and bits row.1 == 0) before (spelled_after rows bits text)
    ∙ words_read rows is.1 bits (if bit_and bits row.1 == 0 then before else bit_or before row.1) text

bits_back : (bits : ℕ) → bits < 256 → bits_after modifier_words bits 0 ≡ bits
bits_back bits l = equal_each (λ b. bits_after modifier_words b 0) (λ b. b) refl bits l

-- ---- keys

picked : {X : Type 0} (b : Bool) (x y : X) → b ≡ true → (if b then x else y) ≡ x
picked true x y h = refl
picked false x y h = absurd (true≢false (sym h))

left_out : {X : Type 0} (b : Bool) (x y : X) → b ≡ false → (if b then x else y) ≡ y
left_out true x y h = absurd (true≢false h)
left_out false x y h = refl

-- A text without a hyphen is one part.
one_part : (text : List ℕ) → AllByRecursion (λ b. (b == 45) ≡ false) text → hyphen_parts text ≡ text ∷ []
one_part [] none = refl
one_part (b ∷ bs) none = left_out (b == 45) ([] ∷ hyphen_parts bs) (onto_first b (hyphen_parts bs)) none.0 ∙ ap (λ l. onto_first b l) (one_part bs none.1)

far : (b m : ℕ) → m < b → (b == m) ≡ false
far b m l = grind (arith, nat_tests, l)

-- The bytes of a character, by how many there are.
abbrev bytes : ℕ → Bool → Bool → Bool → List ℕ
bytes c x y z = cond x (c ∷ []) (cond y ((192 + c / 64) ∷ next c ∷ []) (cond z ((224 + c / 4096) ∷ next (c / 64) ∷ next c ∷ []) ((240 + c / 262144) ∷ next (c / 4096) ∷ next (c / 64) ∷ next c ∷ [])))

-- No byte of a character is another ASCII character.
bytes_apart : (m c : ℕ) (x y z : Bool) → m < 128 → (c == m) ≡ false → AllByRecursion (λ b. (b == m) ≡ false) (bytes c x y z)
bytes_apart m c true y z l n = (n, tt)
bytes_apart m c false true z l n = (far (192 + c / 64) m (omega (arith, l)), (far (next c) m (omega (arith, l)), tt))
bytes_apart m c false false true l n =
    (far (224 + c / 4096) m (omega (arith, l)), (far (next (c / 64)) m (omega (arith, l)), (far (next c) m (omega (arith, l)), tt)))
bytes_apart m c false false false l n =
    (far (240 + c / 262144) m (omega (arith, l)), (far (next (c / 4096)) m (omega (arith, l)), (far (next (c / 64)) m (omega (arith, l)), (far (next c) m (omega (arith, l)), tt))))

char_apart : (m c : ℕ) → m < 128 → (c == m) ≡ false → AllByRecursion (λ b. (b == m) ≡ false) (encode_utf8 c)
unfolding encode_utf8
char_apart m c l n = bytes_apart m c (ltb c 128) (ltb c 2048) (ltb c 65536) l n

key_some : (bits c : ℕ) (x y z : Bool) → read_key bits (bytes c x y z) ≡ with_bits bits (read_code (bytes c x y z))
key_some bits c true y z = refl
key_some bits c false true z = refl
key_some bits c false false true = refl
key_some bits c false false false = refl

char_some : (bits c : ℕ) → read_key bits (encode_utf8 c) ≡ with_bits bits (read_code (encode_utf8 c))
unfolding encode_utf8
char_some bits c = key_some bits c (ltb c 128) (ltb c 2048) (ltb c 65536)

char_read : (bits c : ℕ) (blank hyphen : Bool) → IsScalar c → (c == 32) ≡ blank → (c == 45) ≡ hyphen → read_parts bits (hyphen_parts (if blank then codes "space" else encode_utf8 c)) ≡ Ok (pressed (key.Char c) (modifiers_of bits))
unfolding encode_utf8
char_read bits c true hyphen is e h =
    let blank : 32 ≡ c = sym ((unsigned_Decides c 32).0 e) in
    ap (λ n. Ok (pressed (key.Char n) (modifiers_of bits))) blank
char_read bits c false true is e h =
    let hyphen : c ≡ 45 = (unsigned_Decides c 45).0 h in
    subst (λ n. read_parts bits (hyphen_parts (encode_utf8 n)) ≡ Ok (pressed (key.Char n) (modifiers_of bits))) (sym hyphen) refl
char_read bits c false false is e h =
    ap (λ l. read_parts bits l) (one_part (encode_utf8 c) (char_apart 45 c (omega arith) h))
    ∙ char_some bits c
    ∙ ap (λ o. with_bits bits (option_or (option_map key.Char o) (option_or (option_map key.F (function_number (encode_utf8 c))) (value_in key_words (encode_utf8 c))))) (char_back c is)

-- A function key's number is read back, and its text is no character and has no hyphen.
abbrev has : Option ℕ → ℕ → Bool
has (Some m) n = m == n
has None n = false

abbrev is_text_of : ℕ → Bool
is_text_of n = list_all (λ b. not (b == 45)) (102 ∷ decimal n) && (is_none (only_char (102 ∷ decimal n)) && has (function_number (102 ∷ decimal n)) n)

function_texts : all_below is_text_of 256 ≡ true
unfolding encode_utf8 digits
function_texts = refl

no_hyphens : (text : List ℕ) → list_all (λ b. not (b == 45)) text ≡ true → AllByRecursion (λ b. (b == 45) ≡ false) text
no_hyphens [] h = tt
no_hyphens (b ∷ bs) h = (unequal (b == 45) (first_so (not (b == 45)) (list_all (λ b. not (b == 45)) bs) h), no_hyphens bs (second_so (not (b == 45)) (list_all (λ b. not (b == 45)) bs) h))
  where
    unequal : (t : Bool) → not t ≡ true → t ≡ false
    unequal true e = sym e
    unequal false e = refl

function_read : (bits n : ℕ) → n < 256 → read_parts bits (hyphen_parts (102 ∷ decimal n)) ≡ Ok (pressed (key.F n) (modifiers_of bits))
function_read bits n l =
    let text : List ℕ = 102 ∷ decimal n in
    let tests : is_text_of n ≡ true = each is_text_of 256 function_texts n l in
    let apart = first_so (list_all (λ b. not (b == 45)) text) (is_none (only_char text) && has (function_number text) n) tests in
    let others = second_so (list_all (λ b. not (b == 45)) text) (is_none (only_char text) && has (function_number text) n) tests in
    ap (λ p. read_parts bits p) (one_part text (no_hyphens text apart))
    ∙ ap (λ o. with_bits bits (option_or (option_map key.Char o) (option_or (option_map key.F (function_number text)) (value_in key_words text))))
    (none_is (only_char text) (first_so (is_none (only_char text)) (has (function_number text) n) others))
    ∙ ap (λ o. with_bits bits (option_or (option_map key.F o) (value_in key_words text)))
    (has_is (function_number text) n (second_so (is_none (only_char text)) (has (function_number text) n) others))
  where
    none_is : (o : Option ℕ) → is_none o ≡ true → o ≡ None
    none_is None h = refl
    none_is (Some m) h = absurd (true≢false (sym h))

    has_is : (o : Option ℕ) (m : ℕ) → has o m ≡ true → o ≡ Some m
    has_is None m h = absurd (true≢false (sym h))
    has_is (Some k) m h = ap Some ((unsigned_Decides k m).0 h)

code_read : (bits : ℕ) (code : KeyCode) → FitsCode code → read_parts bits (hyphen_parts (spelled_code code)) ≡ Ok (pressed code (modifiers_of bits))
unfolding encode_utf8
code_read bits (key.F n) fits = function_read bits n fits
code_read bits (key.Char c) fits = char_read bits c (c == 32) (c == 45) fits refl refl
code_read bits key.Backspace fits = refl
code_read bits key.Enter fits = refl
code_read bits key.Left fits = refl
code_read bits key.Right fits = refl
code_read bits key.Up fits = refl
code_read bits key.Down fits = refl
code_read bits key.Home fits = refl
code_read bits key.End fits = refl
code_read bits key.PageUp fits = refl
code_read bits key.PageDown fits = refl
code_read bits key.Tab fits = refl
code_read bits key.BackTab fits = refl
code_read bits key.Delete fits = refl
code_read bits key.Insert fits = refl
code_read bits key.Null fits = refl
code_read bits key.Esc fits = refl
code_read bits key.CapsLock fits = refl
code_read bits key.ScrollLock fits = refl
code_read bits key.NumLock fits = refl
code_read bits key.PrintScreen fits = refl
code_read bits key.Pause fits = refl
code_read bits key.Menu fits = refl
code_read bits key.KeypadBegin fits = refl
code_read bits (key.Media media.Play) fits = refl
code_read bits (key.Media media.Pause) fits = refl
code_read bits (key.Media media.PlayPause) fits = refl
code_read bits (key.Media media.Reverse) fits = refl
code_read bits (key.Media media.Stop) fits = refl
code_read bits (key.Media media.FastForward) fits = refl
code_read bits (key.Media media.Rewind) fits = refl
code_read bits (key.Media media.TrackNext) fits = refl
code_read bits (key.Media media.TrackPrevious) fits = refl
code_read bits (key.Media media.Record) fits = refl
code_read bits (key.Media media.LowerVolume) fits = refl
code_read bits (key.Media media.RaiseVolume) fits = refl
code_read bits (key.Media media.MuteVolume) fits = refl
code_read bits (key.Modifier modifier.LeftShift) fits = refl
code_read bits (key.Modifier modifier.LeftControl) fits = refl
code_read bits (key.Modifier modifier.LeftAlt) fits = refl
code_read bits (key.Modifier modifier.LeftSuper) fits = refl
code_read bits (key.Modifier modifier.LeftHyper) fits = refl
code_read bits (key.Modifier modifier.LeftMeta) fits = refl
code_read bits (key.Modifier modifier.RightShift) fits = refl
code_read bits (key.Modifier modifier.RightControl) fits = refl
code_read bits (key.Modifier modifier.RightAlt) fits = refl
code_read bits (key.Modifier modifier.RightSuper) fits = refl
code_read bits (key.Modifier modifier.RightHyper) fits = refl
code_read bits (key.Modifier modifier.RightMeta) fits = refl
code_read bits (key.Modifier modifier.IsoLevel3Shift) fits = refl
code_read bits (key.Modifier modifier.IsoLevel5Shift) fits = refl

-- ---- all

below_all : (bits : ℕ) → bits < 256 → bit_and bits 254 < 256
below_all bits l = ltb-true (bit_and bits 254) 256 (each (λ b. nat_lt (bit_and b 254) 256) 256 refl bits l)

large : (c : ℕ) (m : KeyModifiers) → is_ascii_uppercase c ≡ true → normal (pressed (key.Char c) m) ≡ pressed (key.Char c) (with_shift m)
large c m h = picked (is_ascii_uppercase c) _ _ h

char_normal : (c bits : ℕ) (t : Bool) → bits < 256 → is_ascii_uppercase c ≡ t → normal (pressed (key.Char c) (modifiers_of (if t then bit_and bits 254 else bits))) ≡ normal (pressed (key.Char c) (modifiers_of bits))
char_normal c bits true l e =
    let same : bit_or (bit_and bits 254) 1 ≡ bit_or bits 1 = equal_each (λ b. bit_or (bit_and b 254) 1) (λ b. bit_or b 1) refl bits l in
    large c _ e ∙ ap (λ b. pressed (key.Char c) (modifiers_of b)) same ∙ sym (large c _ e)
char_normal c bits false l e = refl

bits_normal : (code : KeyCode) (bits : ℕ) → bits < 256 → normal (pressed code (modifiers_of (spelled_bits code bits))) ≡ normal (pressed code (modifiers_of bits))
bits_normal (key.Char c) bits l = char_normal c bits (is_ascii_uppercase c) l refl
bits_normal key.Backspace bits l = refl
bits_normal key.Enter bits l = refl
bits_normal key.Left bits l = refl
bits_normal key.Right bits l = refl
bits_normal key.Up bits l = refl
bits_normal key.Down bits l = refl
bits_normal key.Home bits l = refl
bits_normal key.End bits l = refl
bits_normal key.PageUp bits l = refl
bits_normal key.PageDown bits l = refl
bits_normal key.Tab bits l = refl
bits_normal key.BackTab bits l = refl
bits_normal key.Delete bits l = refl
bits_normal key.Insert bits l = refl
bits_normal key.Null bits l = refl
bits_normal key.Esc bits l = refl
bits_normal key.CapsLock bits l = refl
bits_normal key.ScrollLock bits l = refl
bits_normal key.NumLock bits l = refl
bits_normal key.PrintScreen bits l = refl
bits_normal key.Pause bits l = refl
bits_normal key.Menu bits l = refl
bits_normal key.KeypadBegin bits l = refl
bits_normal (key.F n) bits l = refl
bits_normal (key.Media k) bits l = refl
bits_normal (key.Modifier k) bits l = refl

bits_fit : (code : KeyCode) (bits : ℕ) → bits < 256 → spelled_bits code bits < 256
bits_fit (key.Char c) bits l = either (is_ascii_uppercase c)
  where
    either : (t : Bool) → (if t then bit_and bits 254 else bits) < 256
    either true = below_all bits l
    either false = l
bits_fit key.Backspace bits l = l
bits_fit key.Enter bits l = l
bits_fit key.Left bits l = l
bits_fit key.Right bits l = l
bits_fit key.Up bits l = l
bits_fit key.Down bits l = l
bits_fit key.Home bits l = l
bits_fit key.End bits l = l
bits_fit key.PageUp bits l = l
bits_fit key.PageDown bits l = l
bits_fit key.Tab bits l = l
bits_fit key.BackTab bits l = l
bits_fit key.Delete bits l = l
bits_fit key.Insert bits l = l
bits_fit key.Null bits l = l
bits_fit key.Esc bits l = l
bits_fit key.CapsLock bits l = l
bits_fit key.ScrollLock bits l = l
bits_fit key.NumLock bits l = l
bits_fit key.PrintScreen bits l = l
bits_fit key.Pause bits l = l
bits_fit key.Menu bits l = l
bits_fit key.KeypadBegin bits l = l
bits_fit (key.F n) bits l = l
bits_fit (key.Media k) bits l = l
bits_fit (key.Modifier k) bits l = l

pub all_read_back : ChordsReadBack
all_read_back k fits =
    let bits = spelled_bits k.code k.modifiers.0 in (
      pressed k.code (modifiers_of bits),
      words_read modifier_words are_words bits 0 (spelled_code k.code)
          ∙ ap (λ b. read_parts b (hyphen_parts (spelled_code k.code))) (bits_back bits (bits_fit k.code k.modifiers.0 fits.1))
          ∙ code_read bits k.code fits.0,
      bits_normal k.code k.modifiers.0 fits.1,
    )
