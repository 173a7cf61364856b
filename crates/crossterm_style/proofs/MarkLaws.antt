-- Parts of texts, and texts without them.
use Rattle.std.proofs.Common.{◌≡◌, ℕ, zero, suc, ◌-◌, ◌==◌, ◌<◌, ◌≤◌, Bool, true, false, List, [], ◌∷◌, ◌++◌, Some, None, length, take, drop, arith, ap, refl, sym, subst, ◌∙◌, MatchBool}
use mathlib.Core.Bool.{true≢false}
use Rattle.std.specs.Cmp.{first_so, second_so, unsigned_Decides}
use Rattle.std.proofs.Common.{length-append}
use Rattle.std.proofs.lemmas.List.Splits.{length-slice_split, slice_split_first, slice_split_none}
use Rattle.std.proofs.lemmas.List.Sums.{fails_before_first}
use Rattle.std.specs.List.{after_first, before_first, position_or_len, slice_split}
use Rattle.std.specs.Borrow.{Bor}
use Rattle.std.specs.Char.{digit_value}
use Rattle.std.specs.Prelude.{◌&&◌, ◌||◌, nat_lt, if◌then◌else◌}
use Rattle.std.specs.Result.{result_ok}
use Rattle.std.specs.Str.Parse.{AllDigits, ParsesUnsigned, digits_value, without_leading_plus}
use Rattle.std.specs.Str.Replace.{ReplacesMatches}
use Rattle.std.specs.declared.result.Result.{Result}
use Rattle.std.specs.declared.result.Result.TheVariants.{Ok, Err}
use mathlib.Core.Logic.{inl, inr}
use Rattle.std.specs.Str.Pattern.{FindsText, HasMatch, LacksTextAt}
use Rattle.std.proofs.lemmas.Bool.{and_from, false_from_ne_true, lt-ltb, ltb-true}
use Rattle.crossterm_style.specs.Reading.{ReadsByte}
use Rattle.crossterm_style.specs.Values.{all_digits, text_begins, byte_of, holds, three_of, without, without_after}

-- What begins with a part is the part and more.
begins_is : (part text : List ℕ) → text_begins part text ≡ true → text ≡ part ++ drop (length part) text
begins_is [] text h = refl
begins_is (p ∷ ps) [] h = absurd (true≢false (sym h))
begins_is (p ∷ ps) (x ∷ xs) h =
    let head : p ≡ x = (unsigned_Decides p x).0 (first_so (p == x) (text_begins ps xs) h) in
    let rest = begins_is ps xs (second_so (p == x) (text_begins ps xs) h) in
    λ i. (sym head i) ∷ rest i

equal_itself : (n : ℕ) → (n == n) ≡ true
equal_itself n = (unsigned_Decides n n).1 refl

-- A part and more begin with it.
pub begins_so : (part rest : List ℕ) → text_begins part (part ++ rest) ≡ true
begins_so [] rest = refl
begins_so (p ∷ ps) rest = and_from (p == p) (text_begins ps (ps ++ rest)) (equal_itself p) (begins_so ps rest)

-- A text that nowhere has the part.
nowhere : (part text : List ℕ) → ((i : ℕ) → i ≤ length text → LacksTextAt part text i) → holds part text ≡ false
nowhere part [] none = false_from_ne_true (text_begins part []) (λ h. none 0 (omega arith) _ (begins_is part [] h))
nowhere part (x ∷ xs) none =
    neither (text_begins part (x ∷ xs)) (holds part xs) (λ h. none 0 (omega arith) _ (begins_is part (x ∷ xs) h)) (nowhere part xs (λ i h rest e. none (suc i) (omega arith) rest e))
  where
    neither : (a b : Bool) → (a ≡ true → ⊥) → b ≡ false → (a || b) ≡ false
    neither true b f h = absurd (f refl)
    neither false b f h = h

either_first : (a b : Bool) → a ≡ true → (a || b) ≡ true
either_first true b h = refl
either_first false b h = absurd (true≢false (sym h))

either_second : (a b : Bool) → b ≡ true → (a || b) ≡ true
either_second true b h = refl
either_second false b h = h

at_end : (i : ℕ) → ◌≡◌ {A = List ℕ} [] (drop i [])
at_end zero = refl
at_end (suc i) = refl

-- A text that has it somewhere.
somewhere : (part text rest : List ℕ) (i : ℕ) → drop i text ≡ part ++ rest → i ≤ length text → holds part text ≡ true
somewhere part [] rest i e h = subst (λ t. text_begins part t ≡ true) (sym (at_end i ∙ e)) (begins_so part rest)
somewhere part (x ∷ xs) rest zero e h = either_first (text_begins part (x ∷ xs)) (holds part xs) (subst (λ t. text_begins part t ≡ true) (sym e) (begins_so part rest))
somewhere part (x ∷ xs) rest (suc i) e h = either_second (text_begins part (x ∷ xs)) (holds part xs) (somewhere part xs rest i e (omega arith))

-- `contains` returns whether a text has a part.
pub part_held : (text part : List ℕ) (found : Bool) → MatchBool found (HasMatch (FindsText part) text) (FindsText part text None) → found ≡ holds part text
part_held text part true m = sym (somewhere part text (drop m.1 text) m.0 m.2.1.split (omega (arith, m.3, m.4)))
part_held text part false none = sym (nowhere part text none)

-- ---- texts without a part

if_true : (b : Bool) (x y : List ℕ) → b ≡ true → (if b then x else y) ≡ x
if_true true x y h = refl
if_true false x y h = absurd (true≢false (sym h))

if_false : (b : Bool) (x y : List ℕ) → b ≡ false → (if b then x else y) ≡ y
if_false true x y h = absurd (true≢false h)
if_false false x y h = refl

-- A text that nowhere has the part stays.
stays : (part text : List ℕ) → ((i : ℕ) → i ≤ length text → LacksTextAt part text i) → without part text ≡ text
stays part [] none = refl
stays part (x ∷ xs) none =
    let apart : text_begins part (x ∷ xs) ≡ false = false_from_ne_true (text_begins part (x ∷ xs)) (λ h. none 0 (omega arith) _ (begins_is part (x ∷ xs) h)) in
    if_false (text_begins part (x ∷ xs)) _ _ apart ∙ ap (λ l. x ∷ l) (stays part xs (λ i h rest e. none (suc i) (omega arith) rest e))

skips : (part front rest : List ℕ) → without_after part (length front) (front ++ rest) ≡ without part rest
skips part [] rest = refl
skips part (x ∷ xs) rest = skips part xs rest

-- What begins with the part goes on without it.
goes : (part rest : List ℕ) → 0 < length part → without part (part ++ rest) ≡ without part rest
goes [] rest h = absurd (omega arith)
goes (p ∷ ps) rest h =
    let last : suc (length ps) - 1 ≡ length ps = omega arith in
    if_true (text_begins (p ∷ ps) (p ∷ (ps ++ rest))) (without_after (p ∷ ps) (suc (length ps) - 1) (ps ++ rest)) (p ∷ without (p ∷ ps) (ps ++ rest)) (begins_so (p ∷ ps) rest)
    ∙ ap (λ n. without_after (p ∷ ps) n (ps ++ rest)) last ∙ skips (p ∷ ps) ps rest

-- Up to the first place of the part a text stays.
cut : (part text rest : List ℕ) (a : ℕ) → 0 < length part → ((i : ℕ) → i < a → LacksTextAt part text i) → drop a text ≡ part ++ rest
    → without part text ≡ take a text ++ without part rest
cut part text rest zero h none e = ap (without part) e ∙ goes part rest h
cut part [] rest (suc a) h none e = absurd (omega (arith, h, ap length e, length-append part rest))
cut part (x ∷ xs) rest (suc a) h none e =
    let apart : text_begins part (x ∷ xs) ≡ false = false_from_ne_true (text_begins part (x ∷ xs)) (λ t. none 0 (omega arith) _ (begins_is part (x ∷ xs) t)) in
    if_false (text_begins part (x ∷ xs)) _ _ apart ∙ ap (λ l. x ∷ l) (cut part xs rest a h (λ i k more f. none (suc i) (omega arith) more f) e)

-- `replace` by nothing leaves the text without the part.
pub replaced : (n : ℕ) (part : Bor (List ℕ)) (text out : List ℕ) → 0 < length part.now → ReplacesMatches (λ p. FindsText p.now) (λ p q. q.now ≡ p.now) [] n part text out → out ≡ without part.now text
replaced zero part text out h r = r.1 ∙ sym (stays part.now text r.0)
replaced (suc n) part text out h (a, b, q, rest, found, kept, inl on, e) =
    let later : rest ≡ without q.now (drop b text) = replaced n q (drop b text) rest (subst (λ l. 0 < length l) (sym kept) h) on.1 in
    e ∙ ap (λ l. take a text ++ l) (later ∙ ap (λ l. without l (drop b text)) kept) ∙ sym (cut part.now text (drop b text) a h found.0 found.1.split)
replaced (suc n) part text out h (a, b, q, rest, found, kept, inr on, e) = absurd (omega (arith, h, on.0, found.1.ends))

-- ---- numbers

digits_are : (ds : List ℕ) → AllDigits 10 ds → all_digits ds ≡ true
digits_are [] a = refl
digits_are (d ∷ ds) a = and_from (nat_lt (digit_value d) 10) (all_digits ds) (lt-ltb (digit_value d) 10 a.0) (digits_are ds a.1)

are_digits : (ds : List ℕ) → all_digits ds ≡ true → AllDigits 10 ds
are_digits [] h = tt
are_digits (d ∷ ds) h = (ltb-true (digit_value d) 10 (first_so (nat_lt (digit_value d) 10) (all_digits ds) h), are_digits ds (second_so (nat_lt (digit_value d) 10) (all_digits ds) h))

chosen : (t : Bool) (n : ℕ) → t ≡ true → (if t then Some n else None) ≡ Some n
chosen true n h = refl
chosen false n h = absurd (true≢false (sym h))

refused : (t : Bool) (n : ℕ) → (t ≡ true → ⊥) → None ≡ (if t then Some n else None)
refused true n h = absurd (h refl)
refused false n h = refl

-- `parse` reads a number below 256.
pub parsed_byte : {E : Type 0} (text : List ℕ) (r : Result ℕ E) → ParsesUnsigned 8 10 text r → result_ok r ≡ byte_of text
parsed_byte text (Ok n) p =
    let ds = without_leading_plus text in
    ap Some p.1
    ∙ sym (chosen (nat_lt 0 (length ds) && (all_digits ds && nat_lt (digits_value 10 ds) 256)) (digits_value 10 ds)
    (and_from (nat_lt 0 (length ds)) _ (lt-ltb 0 (length ds) p.0.0.0) (and_from (all_digits ds) _ (digits_are ds p.0.0.1) (lt-ltb (digits_value 10 ds) 256 p.0.1))))
parsed_byte text (Err e) p =
    let ds = without_leading_plus text in
    refused (nat_lt 0 (length ds) && (all_digits ds && nat_lt (digits_value 10 ds) 256)) (digits_value 10 ds)
    (λ h.
    let some = first_so (nat_lt 0 (length ds)) (all_digits ds && nat_lt (digits_value 10 ds) 256) h in
    let rest = second_so (nat_lt 0 (length ds)) (all_digits ds && nat_lt (digits_value 10 ds) 256) h in
    p ((ltb-true 0 (length ds) some, are_digits ds (first_so (all_digits ds) (nat_lt (digits_value 10 ds) 256) rest)), ltb-true (digits_value 10 ds) 256 (second_so (all_digits ds) (nat_lt (digits_value 10 ds) 256) rest)))

-- A text that is read as the number of a byte.
pub byte_back : (text : List ℕ) (n : ℕ) → ReadsByte text n → byte_of text ≡ Some n
byte_back text n reads = sym (parsed_byte {E = Bool} text (Ok n) ((reads.0, subst (λ m. m < 256) (sym reads.1) reads.2), sym reads.1))

-- ---- fields with commas between

-- `split_once` takes the first field.
pub comma_some : (text front back : List ℕ) → (front ≡ before_first (λ b. b == 44) text) × (back ≡ after_first (λ b. b == 44) text) × (position_or_len (λ b. b == 44) text < length text)
    → slice_split (λ b. b == 44) text ≡ front ∷ slice_split (λ b. b == 44) back
comma_some text front back s =
    let within : position_or_len (λ b. b == 44) text < length text = s.2 in
    slice_split_first (λ b. b == 44) text 0 within ∙ cc

-- A text without a comma is its only field.
pub comma_none : (text : List ℕ) → position_or_len (λ b. b == 44) text ≡ length text → slice_split (λ b. b == 44) text ≡ text ∷ []
comma_none text e = slice_split_none (λ b. b == 44) text (λ k d l. fails_before_first (λ b. b == 44) text k d (omega arith))

-- Four fields or more are not three.
pub more_fields : (a b c : List ℕ) (rest : List (List ℕ)) → 0 < length rest → three_of (a ∷ b ∷ c ∷ rest) ≡ None
more_fields a b c [] h = absurd (omega arith)
more_fields a b c (d ∷ rest) h = refl

-- A text has a field.
pub some_field : (text : List ℕ) → 0 < length (slice_split (λ b. b == 44) text)
some_field text = omega (arith, length-slice_split (λ b. b == 44) text)
