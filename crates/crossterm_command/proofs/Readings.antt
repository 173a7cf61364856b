-- Which tokens there are, and the texts of several.
use Rattle.std.proofs.Common.{◌≡◌, ℕ, zero, suc, ◌+◌, nat_le, ◌/◌, ◌%◌, ◌<◌, ◌==◌, Bool, true, false, cond, ◌&&◌, List, [], ◌∷◌, ◌++◌, refl, sym, ap, ◌∙◌, append_assoc, arith, map, flat_map}
use Prim.Native.String.{String}
use Rattle.std.proofs.Math.Nat.{mod-lt}
use Rattle.std.proofs.lemmas.Bool.Decides.{nat_tests}
use Rattle.std.specs.Prelude.{encode_utf8_all}
use Rattle.std.specs.Char.{encode_utf8}
use Rattle.std.specs.Fmt.{digits, decimal, digits_onto, digit_glyph}
use Rattle.std.specs.Str.{all_scalars, chars, IsUtf8}
use Rattle.std.specs.List.{AllByRecursion}
use Rattle.std.proofs.lemmas.Str.{encodes-chars, scalars-chars}
use Rattle.std.proofs.lemmas.Bool.{leb-true}
use Rattle.crossterm_command.specs.Controls.{control, letter}
use Rattle.crossterm_command.specs.Tokens.{Token, IsParameter, IsFinal, IsPlain, IsWellFormed, ending, spelled, text_of}
use Rattle.crossterm_command.specs.Tokens.Token.{Char, Csi, Osc, Private}

-- ---- all of a list

pub all_joined : {X : Type 0} (P : X → Type 0) (xs ys : List X) → AllByRecursion P xs → AllByRecursion P ys → AllByRecursion P (xs ++ ys)
all_joined P [] ys a b = b
all_joined P (x ∷ xs) ys a b = (a.0, all_joined P xs ys a.1 b)

pub all_of_each : {X Y : Type 0} (P : Y → Type 0) (f : X → List Y) → ((x : X) → AllByRecursion P (f x)) → (xs : List X) → AllByRecursion P (flat_map f xs)
all_of_each P f a [] = tt
all_of_each P f a (x ∷ xs) = all_joined P (f x) (flat_map f xs) (a x) (all_of_each P f a xs)

pub all_weaker : (P Q : ℕ → Type 0) → ((c : ℕ) → P c → Q c) → (xs : List ℕ) → AllByRecursion P xs → AllByRecursion Q xs
all_weaker P Q f [] a = tt
all_weaker P Q f (x ∷ xs) a = (f x a.0, all_weaker P Q f xs a.1)

pub both : (x y : Bool) → (x && y) ≡ true → (x ≡ true) × (y ≡ true)
both true y p = (refl, p)
both false y p = cc

-- ---- texts

spelled_joined : (t : Token) (x y : List ℕ) → spelled t (x ++ y) ≡ spelled t x ++ y
spelled_joined (Char c) x y = sym (append_assoc (encode_utf8 c) x y)
spelled_joined (Csi ps is f) x y = ap (λ l. 27 ∷ 91 ∷ l) (sym (append_assoc ps (is ++ (f ∷ x)) y ∙ ap (λ l. ps ++ l) (append_assoc is (f ∷ x) y)))
spelled_joined (Osc t e) x y = ap (λ l. 27 ∷ 93 ∷ l) (sym (append_assoc t (ending e ++ x) y ∙ ap (λ l. t ++ l) (append_assoc (ending e) x y)))
spelled_joined (Private b) x y = refl

-- The text of joined tokens is their texts, joined.
pub text_joined : (ts us : List Token) → text_of (ts ++ us) ≡ text_of ts ++ text_of us
text_joined [] us = refl
text_joined (t ∷ ts) us = ap (spelled t) (text_joined ts us) ∙ spelled_joined t (text_of ts) (text_of us)

pub text_of_each : {X : Type 0} (tokens : X → List Token) (xs : List X) → text_of (flat_map tokens xs) ≡ flat_map (λ x. text_of (tokens x)) xs
text_of_each tokens [] = refl
text_of_each tokens (x ∷ xs) = text_joined (tokens x) (flat_map tokens xs) ∙ ap (λ l. text_of (tokens x) ++ l) (text_of_each tokens xs)

chars_text : (cs : List ℕ) → text_of (map Char cs) ≡ encode_utf8_all cs
chars_text [] = refl
chars_text (c ∷ cs) = ap (λ l. encode_utf8 c ++ l) (chars_text cs)

-- A printed text is its characters' text.
pub text_printed : (bs : List ℕ) → IsUtf8 bs → text_of (map Char (chars bs)) ≡ bs
text_printed bs u = chars_text (chars bs) ∙ encodes-chars bs u

-- ---- well formed tokens

chars_formed : (cs : List ℕ) → all_scalars cs ≡ true → AllByRecursion IsPlain cs → AllByRecursion IsWellFormed (map Char cs)
chars_formed [] s a = tt
chars_formed (c ∷ cs) s a = let (first, rest) = both _ _ s in ((first, a.0), chars_formed cs rest a.1)

pub printed_formed : (bs : List ℕ) → IsUtf8 bs → AllByRecursion IsPlain (chars bs) → AllByRecursion IsWellFormed (map Char (chars bs))
printed_formed bs u a = chars_formed (chars bs) (scalars-chars bs u) a

abbrev is_parameter : ℕ → Bool
is_parameter b = nat_le 0x30 b && nat_le b 0x3F

abbrev pub is_final : ℕ → Bool
is_final b = nat_le 0x40 b && nat_le b 0x7E

parameter_at : (b : ℕ) → is_parameter b ≡ true → IsParameter b
parameter_at b e = let (low, high) = both (nat_le 0x30 b) (nat_le b 0x3F) e in (leb-true 0x30 b low, leb-true b 0x3F high)

final_at : (b : ℕ) → is_final b ≡ true → IsFinal b
final_at b e = let (low, high) = both (nat_le 0x40 b) (nat_le b 0x7E) e in (leb-true 0x40 b low, leb-true b 0x7E high)

abbrev pub all_parameters : List ℕ → Bool
all_parameters [] = true
all_parameters (b ∷ bs) = is_parameter b && all_parameters bs

pub parameters_at : (bs : List ℕ) → all_parameters bs ≡ true → AllByRecursion IsParameter bs
parameters_at [] e = tt
parameters_at (b ∷ bs) e = let (first, rest) = both (is_parameter b) (all_parameters bs) e in (parameter_at b first, parameters_at bs rest)

-- a control sequence without intermediate bytes
pub control_formed : (ps : List ℕ) (final : String) → AllByRecursion IsParameter ps → is_final (letter final) ≡ true → AllByRecursion IsWellFormed (control ps final)
control_formed ps final a f = ((a, tt, final_at (letter final) f), tt)

-- tokens that are known: what is computed of them
abbrev is_known : Token → Bool
is_known (Char c) = false
is_known (Csi ps [] f) = all_parameters ps && is_final f
is_known (Csi ps (i ∷ is) f) = false
is_known (Osc t e) = false
is_known (Private b) = is_parameter b

abbrev pub all_known : List Token → Bool
all_known [] = true
all_known (t ∷ ts) = is_known t && all_known ts

known_at : (t : Token) → is_known t ≡ true → IsWellFormed t
known_at (Char c) e = cc
known_at (Csi ps [] f) e = let (first, rest) = both (all_parameters ps) (is_final f) e in (parameters_at ps first, tt, final_at f rest)
known_at (Csi ps (i ∷ is) f) e = cc
known_at (Osc t end) e = cc
known_at (Private b) e = parameter_at b e

pub known_formed : (ts : List Token) → all_known ts ≡ true → AllByRecursion IsWellFormed ts
known_formed [] e = tt
known_formed (t ∷ ts) e = let (first, rest) = both (is_known t) (all_known ts) e in (known_at t first, known_formed ts rest)

-- ---- numbers

glyph_of : (d : ℕ) → d < 10 → digit_glyph false d ≡ 48 + d
glyph_of d h = grind (arith, nat_tests)

glyph_is_parameter : (d : ℕ) → d < 10 → IsParameter (digit_glyph false d)
glyph_is_parameter d h = rw (glyph_of d h) (omega arith, omega arith)

digits_are_parameters : (k n : ℕ) (acc : List ℕ) → AllByRecursion IsParameter acc → AllByRecursion IsParameter (digits_onto k 10 false n acc)
digits_are_parameters zero n acc a = a
digits_are_parameters (suc k) n acc a =
    let more : AllByRecursion IsParameter (digit_glyph false (n % 10) ∷ acc) = (glyph_is_parameter (n % 10) (mod-lt n (omega arith)), a) in
    elim (n / 10 == 0) as (λ b. AllByRecursion IsParameter (cond b (digit_glyph false (n % 10) ∷ acc) (digits_onto k 10 false (n / 10) (digit_glyph false (n % 10) ∷ acc))))
    [ true ↦ more | false ↦ digits_are_parameters k (n / 10) (digit_glyph false (n % 10) ∷ acc) more ]

-- A number's digits are parameter bytes.
pub decimal_is_parameters : (n : ℕ) → AllByRecursion IsParameter (decimal n)
unfolding digits
decimal_is_parameters n = digits_are_parameters 64 n [] tt
