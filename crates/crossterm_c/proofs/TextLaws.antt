-- The text of bytes, piece by piece.
use Rattle.std.proofs.Common.{◌≡◌, ◌<◌, ◌+◌, ◌==◌, ℕ, zero, suc, List, [], ◌∷◌, ◌++◌, length, take, drop, nat_lt, true, false, Option, Some, None, refl, ap, sym, ◌∙◌, arith, append_assoc}
use Rattle.std.specs.Prelude.{encode_utf8_all}
use Rattle.std.specs.Char.{encode_utf8}
use Rattle.std.specs.List.{AllByRecursion}
use Rattle.std.proofs.lemmas.Bool.Decides.{nat_tests}
use Rattle.std.proofs.lemmas.List.{drop-drop, take_at}
use Rattle.bstr.specs.Utf8.{Decoded, decoded, good, or_replacement}
use Rattle.bstr.proofs.lemmas.PieceLemmas.{lossy_chars-step}
use Rattle.bstr.proofs.lemmas.SoundLemmas.{SpellsChar-decoded}
use Rattle.crossterm_c.specs.Text.{TextBeginsWith, next_text, lossy_text}

pub ascii_more : (bs : List ℕ) (b : ℕ) → AllByRecursion (λ x. x < 128) bs → b < 128 → AllByRecursion (λ x. x < 128) (bs ++ b ∷ [])
ascii_more [] b all is = (is, tt)
ascii_more (x ∷ bs) b all is = (all.0, ascii_more bs b all.1 is)

text_step : (bs : List ℕ) → 0 < length bs → lossy_text bs ≡ encode_utf8 (or_replacement (decoded bs).char) ++ lossy_text (drop (decoded bs).size bs)
text_step bs some = ap encode_utf8_all (lossy_chars-step bs some)

-- A character is written as its own bytes.
pub next_char : (bs : List ℕ) (c : ℕ) → (decoded bs).char ≡ Some c → take (decoded bs).size bs ≡ next_text bs
next_char bs c is =
    let spelt = SpellsChar-decoded bs c is in
    let n = (decoded bs).size in
    ap (λ (xs : List ℕ). take n xs) spelt.bytes ∙ take_at (encode_utf8 c) (drop n bs) n spelt.width ∙ ap (λ (o : Option ℕ). encode_utf8 (or_replacement o)) (sym is)

pub begins_char : (bs : List ℕ) (c : ℕ) → 0 < length bs → (decoded bs).char ≡ Some c → TextBeginsWith bs (take (decoded bs).size bs) (decoded bs).size
begins_char bs c some is = text_step bs some ∙ ap (λ (xs : List ℕ). xs ++ lossy_text (drop (decoded bs).size bs)) (sym (next_char bs c is))

replaced : encode_utf8 0xFFFD ≡ 239 ∷ 191 ∷ 189 ∷ []
unfolding encode_utf8
replaced = refl

-- A part that isn't a character.
pub next_none : (bs : List ℕ) → (decoded bs).char ≡ None → 239 ∷ 191 ∷ 189 ∷ [] ≡ next_text bs
next_none bs is = sym replaced ∙ ap (λ (o : Option ℕ). encode_utf8 (or_replacement o)) (sym is)

pub begins_none : (bs : List ℕ) → 0 < length bs → (decoded bs).char ≡ None → TextBeginsWith bs (239 ∷ 191 ∷ 189 ∷ []) (decoded bs).size
begins_none bs some is = text_step bs some ∙ ap (λ (xs : List ℕ). xs ++ lossy_text (drop (decoded bs).size bs)) (sym (next_none bs is))

one_byte : (b : ℕ) → b < 128 → encode_utf8 b ≡ b ∷ []
unfolding encode_utf8
one_byte b low = let t : nat_lt b 128 ≡ true = grind (arith, nat_tests) in rw t refl

decoded_ascii : (b : ℕ) (bs : List ℕ) → b < 128 → decoded (b ∷ bs) ≡ good b 1
decoded_ascii b bs low =
    let some : suc (length bs) == 0 ≡ false = grind (arith, nat_tests) in
    let t : nat_lt b 0x80 ≡ true = grind (arith, nat_tests) in
    rw (some, t) refl

-- The text begins with any ASCII bytes at the front.
pub begins_ascii : (n : ℕ) (bs : List ℕ) → AllByRecursion (λ b. b < 128) (take n bs) → TextBeginsWith bs (take n bs) n
begins_ascii zero bs all = refl
begins_ascii (suc n) [] all = refl
begins_ascii (suc n) (b ∷ bs) all =
    let step : lossy_text (b ∷ bs) ≡ b ∷ lossy_text bs = text_step (b ∷ bs) (omega arith)
    ∙ ap (λ (p : Decoded). encode_utf8 (or_replacement p.char) ++ lossy_text (drop p.size (b ∷ bs))) (decoded_ascii b bs all.0)
    ∙ ap (λ (xs : List ℕ). xs ++ lossy_text bs) (one_byte b all.0) in
    step ∙ ap (λ (xs : List ℕ). b ∷ xs) (begins_ascii n bs all.1)

-- One front after another.
pub begins_on : (bs front more : List ℕ) (i n : ℕ) → TextBeginsWith bs front i → TextBeginsWith (drop i bs) more n → TextBeginsWith bs (front ++ more) (i + n)
begins_on bs front more i n first next =
    first ∙ ap (λ (xs : List ℕ). front ++ xs) (next ∙ ap (λ (xs : List ℕ). more ++ lossy_text xs) (drop-drop n i bs)) ∙ sym (append_assoc front more (lossy_text (drop (i + n) bs)))
