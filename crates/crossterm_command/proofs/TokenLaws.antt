-- Two tokens that begin one text are the same, so bytes have one reading at most.
use Rattle.std.proofs.Common.{◌≡◌, ℕ, List, [], ◌∷◌, ◌++◌, refl, sym, ap, ◌∙◌, append_assoc, subst, arith}
use Rattle.std.specs.Char.{encode_utf8}
use Rattle.std.specs.List.{AllByRecursion}
use Rattle.std.proofs.lemmas.Str.{encode_same}
use Rattle.crossterm_command.specs.Tokens.{OscEnd, Token, IsParameter, IsIntermediate, IsFinal, IsOscText, IsPlain, IsWellFormed, TokensArePrefixFree, UniqueReading, ending, spelled, text_of}
use Rattle.crossterm_command.specs.Tokens.OscEnd.{St, Bell}
use Rattle.crossterm_command.specs.Tokens.Token.{Char, Csi, Osc, Private}

-- ---- lists

heads : {x y : ℕ} {xs ys : List ℕ} → x ∷ xs ≡ y ∷ ys → x ≡ y
heads e = cc

tails : {x y : ℕ} {xs ys : List ℕ} → x ∷ xs ≡ y ∷ ys → xs ≡ ys
tails e = cc

-- the list begins with what P doesn't admit
abbrev BeginsPast : (ℕ → Type 0) → List ℕ → Type 0
BeginsPast P [] = ⊥
BeginsPast P (c ∷ cs) = P c → ⊥

-- What P admits, up to something that it doesn't, ends at one place.
spans : (P : ℕ → Type 0) (xs ys rs ss : List ℕ) → AllByRecursion P xs → AllByRecursion P ys → BeginsPast P rs → BeginsPast P ss → xs ++ rs ≡ ys ++ ss → (xs ≡ ys) × (rs ≡ ss)
spans P [] [] rs ss a b r s e = (refl, e)
spans P [] (y ∷ ys) [] ss a b r s e = absurd r
spans P [] (y ∷ ys) (c ∷ rs) ss a b r s e = absurd (r (subst P (sym (heads e)) b.0))
spans P (x ∷ xs) [] rs [] a b r s e = absurd s
spans P (x ∷ xs) [] rs (c ∷ ss) a b r s e = absurd (s (subst P (heads e) a.0))
spans P (x ∷ xs) (y ∷ ys) rs ss a b r s e =
    let first = heads e in
    let (same, rest) = spans P xs ys rs ss a.1 b.1 r s (tails e) in
    (cc, rest)

-- ---- one token

parameters_end : (is : List ℕ) (f : ℕ) (x : List ℕ) → AllByRecursion IsIntermediate is → IsFinal f → BeginsPast IsParameter (is ++ (f ∷ x))
parameters_end [] f x a b = λ p. omega (arith, b, p)
parameters_end (i ∷ is) f x a b = λ p. omega (arith, a.0, p)

text_ends : (end : OscEnd) (x : List ℕ) → BeginsPast IsOscText (ending end ++ x)
text_ends St x = λ p. p.0 refl
text_ends Bell x = λ p. p.1 refl

ends_same : (a b : OscEnd) (x y : List ℕ) → ending a ++ x ≡ ending b ++ y → (a ≡ b) × (x ≡ y)
ends_same St St x y e = (refl, tails (tails e))
ends_same St Bell x y e = absurd (omega (arith, heads e))
ends_same Bell St x y e = absurd (omega (arith, heads e))
ends_same Bell Bell x y e = (refl, tails e)

-- no other character begins with ESC
not_escape : (c : ℕ) (x y : List ℕ) → IsPlain c → encode_utf8 c ++ x ≡ 0x1B ∷ y → ⊥
unfolding encode_utf8
not_escape c x y n e = n (encode_same c 0x1B x y e).0

pub none_begins_another : TokensArePrefixFree
none_begins_another (Char c) (Char d) x y p q e = let (same, rest) = encode_same c d x y e in (ap Char same, rest)
none_begins_another (Char c) (Csi qs js g) x y p q e = absurd (not_escape c x _ p.1 e)
none_begins_another (Char c) (Osc u b) x y p q e = absurd (not_escape c x _ p.1 e)
none_begins_another (Char c) (Private d) x y p q e = absurd (not_escape c x _ p.1 e)
none_begins_another (Csi ps is f) (Char d) x y p q e = absurd (not_escape d y _ q.1 (sym e))
none_begins_another (Csi ps is f) (Csi qs js g) x y (k, l, m) (k', l', m') e =
    let (parameters, rest) = spans IsParameter ps qs (is ++ (f ∷ x)) (js ++ (g ∷ y)) k k' (parameters_end is f x l m) (parameters_end js g y l' m') (tails (tails e)) in
    let (intermediates, last) = spans IsIntermediate is js (f ∷ x) (g ∷ y) l l' (λ p. omega (arith, m, p)) (λ p. omega (arith, m', p)) rest in
    let final = heads last in
    (cc, tails last)
none_begins_another (Csi ps is f) (Osc u b) x y p q e = absurd (omega (arith, heads (tails e)))
none_begins_another (Csi ps is f) (Private d) x y p q e = absurd (omega (arith, q, heads (tails e)))
none_begins_another (Osc t a) (Char d) x y p q e = absurd (not_escape d y _ q.1 (sym e))
none_begins_another (Osc t a) (Csi qs js g) x y p q e = absurd (omega (arith, heads (tails e)))
none_begins_another (Osc t a) (Osc u b) x y p q e =
    let (text, rest) = spans IsOscText t u (ending a ++ x) (ending b ++ y) p.1 q.1 (text_ends a x) (text_ends b y) (tails (tails e)) in
    let (end, more) = ends_same a b x y rest in
    (cc, more)
none_begins_another (Osc t a) (Private d) x y p q e = absurd (omega (arith, q, heads (tails e)))
none_begins_another (Private c) (Char d) x y p q e = absurd (not_escape d y _ q.1 (sym e))
none_begins_another (Private c) (Csi qs js g) x y p q e = absurd (omega (arith, p, heads (tails e)))
none_begins_another (Private c) (Osc u b) x y p q e = absurd (omega (arith, p, heads (tails e)))
none_begins_another (Private c) (Private d) x y p q e = let h = tails e in (ap Private (heads h), tails h)

-- ---- all tokens

-- a token isn't spelled by nothing
spelled_by_some : (t : Token) (x : List ℕ) → spelled t x ≡ [] → ⊥
unfolding encode_utf8
spelled_by_some (Char c) x e =
    let longer : encode_utf8 c ++ (x ++ (0 ∷ [])) ≡ encode_utf8 0 ++ [] = sym (append_assoc (encode_utf8 c) x (0 ∷ [])) ∙ ap (λ l. l ++ (0 ∷ [])) e in
    let (same, rest) = encode_same c 0 (x ++ (0 ∷ [])) [] longer in
    let shorter = sym (ap (λ d. encode_utf8 d ++ x) same) ∙ e in
    cc
spelled_by_some (Csi ps is f) x e = cc
spelled_by_some (Osc t a) x e = cc
spelled_by_some (Private b) x e = cc

same_text : (ts us : List Token) → AllByRecursion IsWellFormed ts → AllByRecursion IsWellFormed us → text_of ts ≡ text_of us → ts ≡ us
same_text [] [] p q e = refl
same_text [] (u ∷ us) p q e = absurd (spelled_by_some u (text_of us) (sym e))
same_text (t ∷ ts) [] p q e = absurd (spelled_by_some t (text_of ts) e)
same_text (t ∷ ts) (u ∷ us) p q e =
    let (first, rest) = none_begins_another t u (text_of ts) (text_of us) p.0 q.0 e in
    let others = same_text ts us p.1 q.1 rest in
    cc

pub one_reading : UniqueReading
one_reading bytes ts us p q = same_text ts us p.0 q.0 (p.1 ∙ sym q.1)
