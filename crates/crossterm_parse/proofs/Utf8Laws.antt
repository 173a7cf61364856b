-- UTF-8, byte by byte.
use Rattle.std.proofs.Common.{◌≡◌, ◌==◌, ◌≤◌, inl, inr, ℕ, Bool, true, false, cond, ◌&&◌, List, [], ◌∷◌, ◌++◌, refl, ap, sym, ◌∙◌, subst, arith, Some, None, length, length-append, suc, append_assoc}
use Rattle.std.specs.Prelude.{nat_lt, nat_le, encode_utf8_all, slice_index, ◌<◌}
use Rattle.std.specs.Char.{InScalarRange}
use Rattle.std.proofs.lemmas.Bool.{false≢true, cases_Bool, cases_eq, and_parts, ltb-true}
use Rattle.std.proofs.lemmas.Bool.Decides.{nat_tests}
use Rattle.std.proofs.lemmas.List.{append-nil, take_at, drop_at, drop_all}
use Rattle.std.proofs.lemmas.Str.{IsUtf8-append, IsUtf8-encode, IsUtf8-drop, IsCharBoundary-from_take, IsUtf8-from_is_utf8, is_utf8-from_IsUtf8}
use Rattle.std.specs.Str.{IsUtf8, is_utf8}
use Rattle.std.specs.Char.{encode_utf8}
use Rattle.std.proofs.Math.Utf8.{scalar, scalars}
use Rattle.bstr.specs.Utf8.{Decoded, good, decoded, decoded_by, second, continues, code_of_2, code_of_3, code_of_4}
use Rattle.bstr.proofs.lemmas.SoundLemmas.{SpellsChar-decoded}
use Rattle.bstr.proofs.lemmas.EncodeLemmas.{decoded-encode}
use Rattle.crossterm_parse.specs.Recognizer.{is_continuing}
use Rattle.crossterm_parse.specs.Tracking.{begun_bytes, IsFront, TracksUtf8}
use Rattle.crossterm_parse.specs.Transitions.{is_sound, begun_after, utf8_after}
use Rattle.crossterm_parse.specs.declared.character.Begun.{Begun}
use Rattle.crossterm_parse.specs.declared.character.Begun.TheVariants.{One, Two, Three}
use Rattle.crossterm_parse.specs.declared.utf8.Validity.{Validity}
use Rattle.crossterm_parse.specs.declared.utf8.Validity.TheVariants.{Sound, Partial, Broken}

-- what begins no character is no UTF-8
no_char : (x : List ℕ) → (x ≡ [] → ⊥) → (decoded x).char ≡ None → IsUtf8 x → ⊥
no_char x n d (cs, (s, e)) = go cs s e where
  go : (cs : List ℕ) → scalars cs ≡ true → encode_utf8_all cs ≡ x → ⊥
  go [] s e = n (sym e)
  go (c ∷ cs) s e =
      let w = and_parts (scalar c) (scalars cs) s in
      let is : decoded x ≡ good c (length (encode_utf8 c)) = ap decoded (sym e) ∙ decoded-encode c (encode_utf8_all cs) w.0 in
      let char : Some c ≡ None = sym (ap (λ (p : Decoded). p.char) is) ∙ d in
      cc

-- nor after what is UTF-8
spoiled : (good x : List ℕ) → IsUtf8 good → (x ≡ [] → ⊥) → (decoded x).char ≡ None → IsUtf8 (good ++ x) → ⊥
spoiled good x g n d u =
    let boundary = IsCharBoundary-from_take (good ++ x) (length good) u (omega (arith, length-append good x)) (subst IsUtf8 (sym (take_at good x (length good) refl)) g) in
    no_char x n d (subst IsUtf8 (drop_at good x (length good) refl) (IsUtf8-drop (good ++ x) (length good) u boundary))

completed : (good x : List ℕ) (c : ℕ) → IsUtf8 good → (decoded x).char ≡ Some c → (decoded x).size ≡ length x → IsUtf8 (good ++ x)
completed good x c g d s =
    let spells = SpellsChar-decoded x c d in
    let is : x ≡ encode_utf8 c = spells.bytes ∙ ap (λ (ys : List ℕ). encode_utf8 c ++ ys) (drop_all (decoded x).size x (omega arith)) ∙ append-nil (encode_utf8 c) in
    IsUtf8-append good x g (subst IsUtf8 (sym is) (IsUtf8-encode c spells.scalar))

-- what some bytes decode as
abbrev Reads : List ℕ → ℕ → ℕ → Type 0
Reads x c n = ((decoded x).char ≡ Some c) × ((decoded x).size ≡ n)

one_byte : (b : ℕ) → nat_lt b 0x80 ≡ true → Reads (b ∷ []) b 1
one_byte b h = rw h (refl, refl)

some_bytes : (n : ℕ) → (suc n == 0) ≡ false
some_bytes n = grind (arith, nat_tests)

two_bytes : (n : ℕ) → nat_lt (suc (suc n)) 2 ≡ false
two_bytes n = grind (arith, nat_tests)

three_bytes : (n : ℕ) → nat_lt (suc (suc (suc n))) 3 ≡ false
three_bytes n = grind (arith, nat_tests)

four_bytes : (n : ℕ) → nat_lt (suc (suc (suc (suc n)))) 4 ≡ false
four_bytes n = grind (arith, nat_tests)

-- a byte that leads no character
not_lead : (b : ℕ) (more : List ℕ) → nat_lt b 0x80 ≡ false → nat_le 0xC2 b && nat_le b 0xF4 ≡ false → (decoded (b ∷ more)).char ≡ None
not_lead b more a h = go (nat_lt b 0xC2) refl (nat_lt 0xF4 b) refl where
  go : (s : Bool) → nat_lt b 0xC2 ≡ s → (t : Bool) → nat_lt 0xF4 b ≡ t → (decoded (b ∷ more)).char ≡ None
  go true s t l = rw (some_bytes (length more), a, s) refl
  go false s true l = rw (some_bytes (length more), a, s, l) refl
  go false s false l = absurd (false≢true (sym h ∙ (let x : nat_le 0xC2 b ≡ true = grind (arith, nat_tests) in let y : nat_le b 0xF4 ≡ true = grind (arith, nat_tests) in rw (x, y) refl)))

-- a byte that leads one
pub record Leads (a : ℕ) : Type 0 where
  pub ascii : nat_lt a 0x80 ≡ false
  pub low : nat_lt a 0xC2 ≡ false
  pub high : nat_lt 0xF4 a ≡ false

pub leads : (a : ℕ) → 0xC2 ≤ a → a ≤ 0xF4 → Leads a
leads a l h = record { ascii = grind (arith, nat_tests); low = grind (arith, nat_tests); high = grind (arith, nat_tests) }

one_alone : (a : ℕ) → Leads a → (decoded (a ∷ [])).char ≡ None
one_alone a l = rw (l.ascii, l.low, l.high) refl

two_alone : (a b : ℕ) → Leads a → second a b ≡ true → nat_lt a 0xE0 ≡ false → (decoded (a ∷ b ∷ [])).char ≡ None
two_alone a b l s t = rw (l.ascii, l.low, l.high, s, t) refl

three_alone : (a b c : ℕ) → Leads a → second a b ≡ true → nat_lt a 0xE0 ≡ false → continues c ≡ true → nat_lt a 0xF0 ≡ false → (decoded (a ∷ b ∷ c ∷ [])).char ≡ None
three_alone a b c l s t k u = rw (l.ascii, l.low, l.high, s, t, k, u) refl

not_second : (a b : ℕ) (more : List ℕ) → Leads a → second a b ≡ false → (decoded (a ∷ b ∷ more)).char ≡ None
not_second a b more l s = rw (some_bytes (suc (length more)), l.ascii, l.low, l.high, two_bytes (length more), s) refl

not_third : (a b c : ℕ) (more : List ℕ) → Leads a → second a b ≡ true → nat_lt a 0xE0 ≡ false → continues c ≡ false → (decoded (a ∷ b ∷ c ∷ more)).char ≡ None
not_third a b c more l s t k = rw (some_bytes (suc (suc (length more))), l.ascii, l.low, l.high, two_bytes (suc (length more)), s, t, three_bytes (length more), k) refl

not_fourth : (a b c d : ℕ) (more : List ℕ) → Leads a → second a b ≡ true → nat_lt a 0xE0 ≡ false → continues c ≡ true → nat_lt a 0xF0 ≡ false → continues d ≡ false
    → (decoded (a ∷ b ∷ c ∷ d ∷ more)).char ≡ None
not_fourth a b c d more l s t k u m =
    rw (some_bytes (suc (suc (suc (length more)))), l.ascii, l.low, l.high, two_bytes (suc (suc (length more))), s, t, three_bytes (suc (length more)), k, u, four_bytes (length more), m) refl

pub two_whole : (a b : ℕ) → Leads a → second a b ≡ true → nat_lt a 0xE0 ≡ true → Reads (a ∷ b ∷ []) (code_of_2 a b) 2
two_whole a b l s t = rw (l.ascii, l.low, l.high, s, t) (refl, refl)

pub three_whole : (a b c : ℕ) → Leads a → second a b ≡ true → nat_lt a 0xE0 ≡ false → continues c ≡ true → nat_lt a 0xF0 ≡ true → Reads (a ∷ b ∷ c ∷ []) (code_of_3 a b c) 3
three_whole a b c l s t k u = rw (l.ascii, l.low, l.high, s, t, k, u) (refl, refl)

pub four_whole : (a b c d : ℕ) → Leads a → second a b ≡ true → nat_lt a 0xE0 ≡ false → continues c ≡ true → nat_lt a 0xF0 ≡ false → continues d ≡ true
    → Reads (a ∷ b ∷ c ∷ d ∷ []) (code_of_4 a b c d) 4
four_whole a b c d l s t k u m = rw (l.ascii, l.low, l.high, s, t, k, u, m) (refl, refl)

-- a front of a character is none, and what spoils it spoils all that follows
spoils : (text good front : List ℕ) (b : ℕ) → IsUtf8 good → text ≡ good ++ front → ((more : List ℕ) → (decoded (front ++ b ∷ more)).char ≡ None)
    → ((more : List ℕ) → front ++ b ∷ more ≡ [] → ⊥) → TracksUtf8 (text ++ b ∷ []) Broken
spoils text good front b g is none some more u =
    spoiled good (front ++ b ∷ more) g (some more) (none more)
    (subst IsUtf8 (append_assoc text (b ∷ []) more ∙ ap (λ (ys : List ℕ). ys ++ b ∷ more) is ∙ append_assoc good front (b ∷ more)) u)

completes : (text good front : List ℕ) (b c n : ℕ) → IsUtf8 good → text ≡ good ++ front → Reads (front ++ b ∷ []) c n → length (front ++ b ∷ []) ≡ n → IsUtf8 (text ++ b ∷ [])
completes text good front b c n g is r l =
    subst IsUtf8 (sym (ap (λ (ys : List ℕ). ys ++ b ∷ []) is ∙ append_assoc good front (b ∷ []))) (completed good (front ++ b ∷ []) c g r.0 (r.1 ∙ sym l))

pub longer : (text good front : List ℕ) (b : ℕ) → text ≡ good ++ front → text ++ b ∷ [] ≡ good ++ (front ++ b ∷ [])
longer text good front b is = ap (λ (ys : List ℕ). ys ++ b ∷ []) is ∙ append_assoc good front (b ∷ [])

below : (a n : ℕ) → nat_lt a n ≡ false → n ≤ a
below a n h = grind (arith, nat_tests)

not_below : (a n : ℕ) → n ≤ a → nat_lt a n ≡ false
not_below a n h = grind (arith, nat_tests)

begun_more : (text good : List ℕ) (begun : Begun) (b : ℕ) → IsUtf8 good → text ≡ good ++ begun_bytes begun → IsFront begun → TracksUtf8 (text ++ b ∷ []) (begun_after begun b)
begun_more text good (One a) b g is f = go (second a b) refl (nat_lt a 0xE0) refl where
  go : (s : Bool) → second a b ≡ s → (t : Bool) → nat_lt a 0xE0 ≡ t → TracksUtf8 (text ++ b ∷ []) (cond s (cond t Sound (Partial (Two a b))) Broken)
  go true s true t = completes text good (a ∷ []) b (code_of_2 a b) 2 g is (two_whole a b (leads a f.0 f.1) s t) refl
  go true s false t = (good, g, longer text good (a ∷ []) b is, (below a 0xE0 t, f.1, s))
  go false s t l = spoils text good (a ∷ []) b g is (λ more. not_second a b more (leads a f.0 f.1) s) (λ more e. cc)
begun_more text good (Two a b) c g is f = go (continues c) refl (nat_lt a 0xF0) refl where
  lead : Leads a
  lead = leads a (omega (arith, f.0)) f.1

  wide : nat_lt a 0xE0 ≡ false
  wide = not_below a 0xE0 f.0

  go : (s : Bool) → continues c ≡ s → (t : Bool) → nat_lt a 0xF0 ≡ t → TracksUtf8 (text ++ c ∷ []) (cond s (cond t Sound (Partial (Three a b c))) Broken)
  go true s true t = completes text good (a ∷ b ∷ []) c (code_of_3 a b c) 3 g is (three_whole a b c lead f.2 wide s t) refl
  go true s false t = (good, g, longer text good (a ∷ b ∷ []) c is, (below a 0xF0 t, f.1, f.2, s))
  go false s t l = spoils text good (a ∷ b ∷ []) c g is (λ more. not_third a b c more lead f.2 wide s) (λ more e. cc)
begun_more text good (Three a b c) d g is f = go (continues d) refl where
  lead : Leads a
  lead = leads a (omega (arith, f.0)) f.1

  wide : nat_lt a 0xE0 ≡ false
  wide = not_below a 0xE0 (omega (arith, f.0))

  go : (s : Bool) → continues d ≡ s → TracksUtf8 (text ++ d ∷ []) (cond s Sound Broken)
  go true s = completes text good (a ∷ b ∷ c ∷ []) d (code_of_4 a b c d) 4 g is (four_whole a b c d lead f.2 wide f.3 (not_below a 0xF0 f.0) s) refl
  go false s = spoils text good (a ∷ b ∷ c ∷ []) d g is (λ more. not_fourth a b c d more lead f.2 wide f.3 (not_below a 0xF0 f.0) s) (λ more e. cc)

lead_parts : (b : ℕ) → nat_le 0xC2 b && nat_le b 0xF4 ≡ true → (0xC2 ≤ b) × (b ≤ 0xF4)
lead_parts b h = let w = and_parts (nat_le 0xC2 b) (nat_le b 0xF4) h in (let s = w.0 in grind (arith, nat_tests), let s = w.1 in grind (arith, nat_tests))

sound_more : (text : List ℕ) (b : ℕ) → IsUtf8 text → TracksUtf8 (text ++ b ∷ []) (utf8_after Sound b)
sound_more text b g = go (nat_lt b 0x80) refl (nat_le 0xC2 b && nat_le b 0xF4) refl where
  go : (s : Bool) → nat_lt b 0x80 ≡ s → (t : Bool) → nat_le 0xC2 b && nat_le b 0xF4 ≡ t → TracksUtf8 (text ++ b ∷ []) (cond s Sound (cond t (Partial (One b)) Broken))
  go true s t l = completed text (b ∷ []) b g (one_byte b s).0 (one_byte b s).1
  go false s true t = (text, g, refl, lead_parts b t)
  go false s false t = spoils text text [] b g (sym (append-nil text)) (λ more. not_lead b more s t) (λ more e. cc)

-- One more byte.
pub utf8_more : (text : List ℕ) (v : Validity) (b : ℕ) → TracksUtf8 text v → TracksUtf8 (text ++ b ∷ []) (utf8_after v b)
utf8_more text Sound b t = sound_more text b t
utf8_more text (Partial begun) b t = begun_more text t.0 begun b t.1 t.2 t.3
utf8_more text Broken b t = λ more u. t (b ∷ more) (subst IsUtf8 (append_assoc text (b ∷ []) more) u)

front_alone : (begun : Begun) → IsFront begun → ((decoded (begun_bytes begun)).char ≡ None) × (begun_bytes begun ≡ [] → ⊥)
front_alone (One a) f = (one_alone a (leads a f.0 f.1), λ e. cc)
front_alone (Two a b) f = (two_alone a b (leads a (omega (arith, f.0)) f.1) f.2 (not_below a 0xE0 f.0), λ e. cc)
front_alone (Three a b c) f = (three_alone a b c (leads a (omega (arith, f.0)) f.1) f.2 (not_below a 0xE0 (omega (arith, f.0))) f.3 (not_below a 0xF0 f.0), λ e. cc)

no_utf8 : (text : List ℕ) → (IsUtf8 text → ⊥) → is_utf8 text ≡ false
no_utf8 text n = elim (cases_Bool (is_utf8 text)) [ inl t ↦ absurd (n (IsUtf8-from_is_utf8 text t)) | inr f ↦ f ]

-- What the validity says of a text that is over.
pub utf8_is : (text : List ℕ) (v : Validity) → TracksUtf8 text v → is_sound v ≡ is_utf8 text
utf8_is text Sound t = sym (is_utf8-from_IsUtf8 text t)
utf8_is text (Partial begun) t = let a = front_alone begun t.3 in sym (no_utf8 text (λ u. spoiled t.0 (begun_bytes begun) t.1 a.1 a.0 (subst IsUtf8 t.2 u)))
utf8_is text Broken t = sym (no_utf8 text (λ u. t [] (subst IsUtf8 (sym (append-nil text)) u)))

pub utf8_nil : IsUtf8 []
utf8_nil = ([], (refl, refl))

-- ---- a character in front

pub continues_of : (b : ℕ) → is_continuing b ≡ true → continues b ≡ true
continues_of b is = let w = and_parts (nat_le 0x80 b) (nat_le b 0xBF) is in let low = w.0 in let high = w.1 in grind (arith, nat_tests)

-- two bytes are a character, whatever follows
two_front : (n b c d e : ℕ) → 2 ≤ n → 0xC2 ≤ b → b < 0xE0 → continues c ≡ true → decoded_by n b c d e ≡ good (code_of_2 b c) 2
two_front n b c d e long low high more =
    let some : n == 0 ≡ false = grind (arith, nat_tests) in
    let other : nat_lt b 0x80 ≡ false = grind (arith, nat_tests) in
    let leads : nat_lt b 0xC2 ≡ false = grind (arith, nat_tests) in
    let most : nat_lt 0xF4 b ≡ false = grind (arith, nat_tests) in
    let whole : nat_lt n 2 ≡ false = grind (arith, nat_tests) in
    let ok : second b c ≡ true = grind (arith, nat_tests) in
    let two : nat_lt b 0xE0 ≡ true = grind (arith, nat_tests) in
    rw (some, other, leads, most, whole, ok, two) refl

pub two_in_front : (bs : List ℕ) → 2 ≤ length bs → 0xC2 ≤ slice_index bs 0 → slice_index bs 0 < 0xE0 → continues (slice_index bs 1) ≡ true
    → decoded bs ≡ good (code_of_2 (slice_index bs 0) (slice_index bs 1)) 2
two_in_front bs = two_front (length bs) (slice_index bs 0) (slice_index bs 1) (slice_index bs 2) (slice_index bs 3)

-- three bytes are a character, if their number is one that has no fewer, and no surrogate
second_of : (b c d : ℕ) → 0xE0 ≤ b → b < 0xF0 → 0x80 ≤ c → c < 0xC0 → d < 0xC0 → 0x800 ≤ code_of_3 b c d → InScalarRange (code_of_3 b c d) → second b c ≡ true
second_of b c d low high from to few wide range = elim (cases_eq b 0xE0) [
  | inl e ↦ (let narrow : 0x9F < c = omega (arith, e, wide, few) in grind (arith, nat_tests))
  | inr other ↦ elim (cases_eq b 0xED) [
    | inl e ↦ (let narrow : c < 0xA0 = elim range [ inl below ↦ omega (arith, e, below) | inr above ↦ absurd (omega (arith, e, above.0, to, few)) ] in grind (arith, nat_tests))
    | inr plain ↦ grind (arith, nat_tests)
  ]
]

three_front : (n b c d e : ℕ) → 3 ≤ n → 0xE0 ≤ b → b < 0xF0 → second b c ≡ true → continues d ≡ true → decoded_by n b c d e ≡ good (code_of_3 b c d) 3
three_front n b c d e long low high ok more =
    let some : n == 0 ≡ false = grind (arith, nat_tests) in
    let other : nat_lt b 0x80 ≡ false = grind (arith, nat_tests) in
    let leads : nat_lt b 0xC2 ≡ false = grind (arith, nat_tests) in
    let most : nat_lt 0xF4 b ≡ false = grind (arith, nat_tests) in
    let second : nat_lt n 2 ≡ false = grind (arith, nat_tests) in
    let two : nat_lt b 0xE0 ≡ false = grind (arith, nat_tests) in
    let whole : nat_lt n 3 ≡ false = grind (arith, nat_tests) in
    let three : nat_lt b 0xF0 ≡ true = grind (arith, nat_tests) in
    rw (some, other, leads, most, second, ok, two, whole, more, three) refl

pub three_in_front : (bs : List ℕ) → 3 ≤ length bs → 0xE0 ≤ slice_index bs 0 → slice_index bs 0 < 0xF0 → continues (slice_index bs 1) ≡ true → continues (slice_index bs 2) ≡ true
    → 0x800 ≤ code_of_3 (slice_index bs 0) (slice_index bs 1) (slice_index bs 2) → InScalarRange (code_of_3 (slice_index bs 0) (slice_index bs 1) (slice_index bs 2))
    → decoded bs ≡ good (code_of_3 (slice_index bs 0) (slice_index bs 1) (slice_index bs 2)) 3
three_in_front bs long low high follows more wide range =
    let b = slice_index bs 0 in let c = slice_index bs 1 in let d = slice_index bs 2 in
    let from : (0x7F < c) × (c < 0xC0) = bounds c follows in
    let to : (0x7F < d) × (d < 0xC0) = bounds d more in
    three_front (length bs) b c d (slice_index bs 3) long low high (second_of b c d low high (omega (arith, from.0)) from.1 to.1 wide range) more where
      bounds : (x : ℕ) → continues x ≡ true → (0x7F < x) × (x < 0xC0)
      bounds x is = let w = and_parts (nat_lt 0x7F x) (nat_lt x 0xC0) is in (ltb-true 0x7F x w.0, ltb-true x 0xC0 w.1)
