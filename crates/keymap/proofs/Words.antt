-- Chords as people write them.
use Rattle.std.proofs.Common.{◌≡◌, ℕ, ◌==◌, ◌<◌, Bool, true, false, List, [], ◌∷◌, length, arith, ap, refl, sym, ◌∙◌}
use mathlib.Core.Bool.{true≢false}
use Rattle.std.specs.List.{position_or_len, before_first, after_first, onto_first}
use Rattle.std.proofs.lemmas.Bool.Decides.{nat_tests}
use Rattle.std.proofs.lemmas.List.Sums.{fails_before_first}
use Rattle.std.proofs.lemmas.List.Splits.{length-slice_split, slice_split_none, slice_split_first}
use Rattle.std.specs.Prelude.{bit_or, cond}
use Rattle.std.specs.declared.result.Result.TheVariants.{Err}
use Rattle.crossterm_flags.specs.Variants.{name_in, value_in}
use Rattle.crossterm_types.specs.contracts.event.key.KeyCodePartialEq.TheImpl as code_eq
use Rattle.crossterm_types.specs.declared.event.key.KeyCode.{KeyCode}
use Rattle.crossterm_types.specs.declared.event.key.KeyCode.TheVariants as key
use Rattle.keymap.specs.Spelling.{key_words, modifier_words, hyphen_parts, read_modifier, read_parts, spelled_code}
use Rattle.keymap.specs.declared.spelling.ChordFault.TheVariants.{UnknownModifier}

-- ---- parts

-- A text has a part.
parts_there : (text : List ℕ) → hyphen_parts text ≡ [] → ⊥
parts_there text e = omega (arith, length-slice_split (λ b. b == 45) text, ap length e)

-- `split_once` takes the first part.
pub parts_more : (text front back : List ℕ) → (front ≡ before_first (λ b. b == 45) text) × (back ≡ after_first (λ b. b == 45) text) × (position_or_len (λ b. b == 45) text < length text)
    → hyphen_parts text ≡ front ∷ hyphen_parts back
parts_more text front back s =
    let within : position_or_len (λ b. b == 45) text < length text = s.2 in
    slice_split_first (λ b. b == 45) text 0 within ∙ cc

-- A text without a hyphen is its only part.
pub parts_one : (text : List ℕ) → position_or_len (λ b. b == 45) text ≡ length text → hyphen_parts text ≡ text ∷ []
parts_one text e = slice_split_none (λ b. b == 45) text (λ k d l. fails_before_first (λ b. b == 45) text k d (omega arith))

pub empty_is : (text : List ℕ) → true ≡ (length text == 0) → text ≡ []
empty_is [] e = refl
empty_is (b ∷ bs) e =
    let none : length (b ∷ bs) ≡ 0 = grind (arith, nat_tests, e) in
    absurd (omega (arith, none))

not_empty : (text : List ℕ) → false ≡ (length text == 0) → text ≡ [] → ⊥
not_empty [] e f = true≢false (sym e)
not_empty (b ∷ bs) e f = omega (arith, ap length f)

modifier_first : (bits : ℕ) (word : List ℕ) (rest : List (List ℕ)) → (word ≡ [] → ⊥) → (rest ≡ [] → ⊥)
    → read_parts bits (word ∷ rest) ≡ read_modifier (value_in modifier_words word) (λ bit. read_parts (bit_or bits bit) rest)
modifier_first bits [] rest f g = absurd (f refl)
modifier_first bits (b ∷ bs) [] f g = absurd (g refl)
modifier_first bits (b ∷ bs) (part ∷ hyphen_parts) f g = refl

-- A word before a hyphen is a modifier, and the rest is read after it.
pub read_word : (bits : ℕ) (word rest : List ℕ) → false ≡ (length word == 0)
    → read_parts bits (word ∷ hyphen_parts rest) ≡ read_modifier (value_in modifier_words word) (λ bit. read_parts (bit_or bits bit) (hyphen_parts rest))
read_word bits word rest e = modifier_first bits word (hyphen_parts rest) (not_empty word e) (parts_there rest)

no_hyphen : (bits x : ℕ) (t : Bool) (q : List (List ℕ)) → (q ≡ [] → ⊥) → read_parts bits ([] ∷ cond t ([] ∷ q) (onto_first x q)) ≡ Err UnknownModifier
no_hyphen bits x t [] f = absurd (f refl)
no_hyphen bits x true (p ∷ ps) f = refl
no_hyphen bits x false (p ∷ ps) f = refl

-- A hyphen at the beginning, and more after it.
pub read_none : (bits : ℕ) (rest : List ℕ) → false ≡ (length rest == 0) → read_parts bits ([] ∷ hyphen_parts rest) ≡ Err UnknownModifier
read_none bits [] e = absurd (true≢false (sym e))
read_none bits (x ∷ xs) e = no_hyphen bits x (x == 45) (hyphen_parts xs) (parts_there xs)

-- ---- keys

-- A key that is no function key and no character is spelled by its word.
pub named_word : (code : KeyCode) → ((n : ℕ) → code ≡ key.F n → ⊥) → ((c : ℕ) → code ≡ key.Char c → ⊥) → spelled_code code ≡ name_in code_eq.ghosts.eq key_words code
named_word (key.F n) f g = absurd (f n refl)
named_word (key.Char c) f g = absurd (g c refl)
named_word (key.Media k) f g = refl
named_word (key.Modifier k) f g = refl
named_word key.Backspace f g = refl
named_word key.Enter f g = refl
named_word key.Left f g = refl
named_word key.Right f g = refl
named_word key.Up f g = refl
named_word key.Down f g = refl
named_word key.Home f g = refl
named_word key.End f g = refl
named_word key.PageUp f g = refl
named_word key.PageDown f g = refl
named_word key.Tab f g = refl
named_word key.BackTab f g = refl
named_word key.Delete f g = refl
named_word key.Insert f g = refl
named_word key.Null f g = refl
named_word key.Esc f g = refl
named_word key.CapsLock f g = refl
named_word key.ScrollLock f g = refl
named_word key.NumLock f g = refl
named_word key.PrintScreen f g = refl
named_word key.Pause f g = refl
named_word key.Menu f g = refl
named_word key.KeypadBegin f g = refl
