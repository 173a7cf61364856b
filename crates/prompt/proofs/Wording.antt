-- The word at the end of a text.
use Rattle.std.proofs.Common.{◌≡◌, ℕ, ◌+◌, ◌-◌, ◌<◌, ◌==◌, ◌||◌, true, false, true≢false, cond, List, [], ◌∷◌, ◌++◌, length, take, drop, reverse, get_or, inl, inr, refl, ap, sym, subst, ◌∙◌, eqb-true, append_assoc, arith}
use Rattle.std.proofs.lemmas.Bool.{and_from, and_parts, cases_Bool, false≢true, or_cases, or_from}
use Rattle.std.proofs.lemmas.List.{length-drop, reverse-append, reverse-reverse, take-append-drop}
use Rattle.std.proofs.lemmas.List.Folds.{list_all-append}
use Rattle.std.proofs.lemmas.List.Recursion.{and_from_places}
use Rattle.std.proofs.lemmas.List.Sums.{take_while-cons}
use Rattle.std.proofs.lemmas.Str.{len_utf8_ascii, NoCharPasses-byte}
use Rattle.std.proofs.lemmas.Str.Pattern.{drop_at_char}
use Rattle.std.specs.Prelude.{Bool, not}
use Rattle.std.specs.Char.{char_set_contains}
use Rattle.std.specs.List.{list_all, take_while}
use Rattle.std.specs.Str.{NoCharPasses}
use Rattle.std.specs.Str.Pattern.{HasPassingCharAt}
use Rattle.prompt.specs.Words.{word_at_end}

-- Whether a word has such a byte.
abbrev in_word : ℕ → Bool
in_word b = not (b == 32 || b == 10)

-- Whether a character parts words.
abbrev pub parts_words : ℕ → Bool
parts_words c = char_set_contains (32 ∷ 10 ∷ []) c

-- One that parts words is ASCII, and no word has it.
parts-is : (c : ℕ) → parts_words c ≡ true → (c < 128) × (in_word c ≡ false)
parts-is c h =
    let P : ℕ → Type 0 = λ n. (n < 128) × (in_word n ≡ false) in
    elim (or_cases (32 == c) _ h) [
      | inl blank ↦ subst P (eqb-true 32 c blank) (omega arith, refl)
      | inr other ↦ elim (or_cases (10 == c) false other) [
        | inl feed ↦ subst P (eqb-true 10 c feed) (omega arith, refl)
        | inr none ↦ absurd (false≢true none)
      ]
    ]

word-byte : (b : ℕ) → (b < 128 → parts_words b ≡ false) → in_word b ≡ true
word-byte b none =
    let P : ℕ → Type 0 = λ n. (n < 128 → parts_words n ≡ false) in
    elim (cases_Bool (b == 32)) [
      | inl blank ↦ absurd (true≢false (subst P (eqb-true b 32 blank) none (omega arith)))
      | inr other ↦ elim (cases_Bool (b == 10)) [
        | inl feed ↦ absurd (true≢false (subst P (eqb-true b 10 feed) none (omega arith)))
        | inr none_such ↦ ap not (or_from _ _ other none_such)
      ]
    ]

-- Each byte of a text without blanks and line feeds.
word-bytes : (text : List ℕ) → NoCharPasses parts_words text → list_all in_word text ≡ true
word-bytes text none =
    and_from_places (list_all in_word) in_word refl (λ x xs. refl) text 0 (λ i lt. word-byte (get_or text i 0) (NoCharPasses-byte parts_words text i none lt))

all-reversed : (p : ℕ → Bool) (xs : List ℕ) → list_all p xs ≡ true → list_all p (reverse xs) ≡ true
all-reversed p [] h = refl
all-reversed p (x ∷ xs) h =
    let parts = and_parts _ _ h in
    ap (list_all p) (reverse-append (x ∷ []) xs) ∙ list_all-append p (reverse xs) (x ∷ []) ∙ and_from _ _ (all-reversed p xs parts.1) (and_from _ _ parts.0 refl)

-- What passes from the front on: all, or up to one that doesn't.
taken-all : (p : ℕ → Bool) (xs : List ℕ) → list_all p xs ≡ true → take_while p xs ≡ xs
taken-all p [] h = refl
taken-all p (x ∷ xs) h =
    let parts = and_parts _ _ h in
    take_while-cons p x xs ∙ ap (λ b. cond b (x ∷ take_while p xs) []) parts.0 ∙ ap (λ t. x ∷ t) (taken-all p xs parts.1)

taken-until : (p : ℕ → Bool) (xs ys : List ℕ) (c : ℕ) → list_all p xs ≡ true → p c ≡ false → take_while p (xs ++ c ∷ ys) ≡ xs
taken-until p [] ys c h not_one = take_while-cons p c ys ∙ ap (λ b. cond b (c ∷ take_while p ys) []) not_one
taken-until p (x ∷ xs) ys c h not_one =
    let parts = and_parts _ _ h in
    take_while-cons p x (xs ++ c ∷ ys) ∙ ap (λ b. cond b (x ∷ take_while p (xs ++ c ∷ ys)) []) parts.0 ∙ ap (λ t. x ∷ t) (taken-until p xs ys c parts.1 not_one)

-- A text that is one word.
pub one-word : (text : List ℕ) → NoCharPasses parts_words text → text ≡ word_at_end text
one-word text none =
    sym (ap reverse (taken-all in_word (reverse text) (all-reversed in_word text (word-bytes text none))) ∙ reverse-reverse text)

-- A word behind what parts it from those before it.
word-behind : (front rest : List ℕ) (c : ℕ) → in_word c ≡ false → list_all in_word rest ≡ true → word_at_end (front ++ c ∷ rest) ≡ rest
word-behind front rest c not_one all =
    let back : reverse (front ++ c ∷ rest) ≡ reverse rest ++ c ∷ reverse front =
    reverse-append front (c ∷ rest) ∙ ap (λ t. t ++ reverse front) (reverse-append (c ∷ []) rest) ∙ append_assoc (reverse rest) (c ∷ []) (reverse front) in
    ap (λ t. reverse (take_while in_word t)) back ∙ ap reverse (taken-until in_word (reverse rest) (reverse front) c (all-reversed in_word rest all) not_one) ∙ reverse-reverse rest

-- What parts it from them is one byte.
module _ (text : List ℕ) (i j : ℕ) (found : NoCharPasses parts_words (drop j text) × HasPassingCharAt parts_words text i j) where
  abbrev c : ℕ
  c = found.1.0

  is : (c < 128) × (in_word c ≡ false)
  is = parts-is c found.1.1

  from : drop i text ≡ c ∷ drop j text
  from = drop_at_char c text i j found.1.2 is.0

  pub place-is : (i < length text) × (get_or text i 0 < 128)
  place-is =
      let some : length text - i ≡ length (c ∷ drop j text) = sym (length-drop i text) ∙ ap length from in
      (omega (arith, some), subst (λ n. n < 128) (sym (found.1.2.byte is.0)) is.0)

  pub next-is : drop (i + 1) text ≡ word_at_end text
  next-is =
      let next : j ≡ i + 1 = found.1.2.ends ∙ ap (λ n. i + n) (len_utf8_ascii c is.0) in
      let split : text ≡ take i text ++ c ∷ drop j text = sym (take-append-drop i text) ∙ ap (λ t. take i text ++ t) from in
      ap (λ n. drop n text) (sym next) ∙ sym (ap word_at_end split ∙ word-behind (take i text) (drop j text) c is.1 (word-bytes (drop j text) found.0))
