-- A number that is read byte by byte.
use Rattle.std.proofs.Common.{◌≡◌, ◌==◌, ◌≤◌, ◌<◌, ◌^◌, ℕ, ◌+◌, ◌-◌, ◌*◌, Bool, true, false, cond, List, [], ◌∷◌, ◌++◌, refl, ap, arith, append_assoc, Some, None}
use Rattle.std.proofs.lemmas.List.{append-nil}
use Rattle.std.proofs.lemmas.Bool.Decides.{nat_tests}
use Rattle.std.specs.Prelude.{nat_le}
use Rattle.crossterm_parse.specs.Bytes.{is_digit}
use Rattle.crossterm_parse.specs.Number.{read_digits, some_digits, value_of, number}
use Rattle.crossterm_parse.specs.Tracking.{Tracks}
use Rattle.crossterm_parse.specs.Transitions.{number_after, reading}
use Rattle.crossterm_parse.specs.declared.number.Number.{Number}
use Rattle.crossterm_parse.specs.declared.number.Number.TheVariants.{Empty, Plus, Value, Big, Bad}

read_more : (n v : ℕ) (bs : List ℕ) (b : ℕ) → read_digits n bs ≡ Some v → is_digit b ≡ true → read_digits n (bs ++ b ∷ []) ≡ Some (v * 10 + (b - 48))
read_more n v [] b e d = rw d (let same : n ≡ v = cc in rw same)
read_more n v (c ∷ bs) b e d = go (is_digit c) e (read_more (n * 10 + (c - 48)) v bs b) where
  go : (t : Bool) → cond t (read_digits (n * 10 + (c - 48)) bs) None ≡ Some v
      → (read_digits (n * 10 + (c - 48)) bs ≡ Some v → is_digit b ≡ true → read_digits (n * 10 + (c - 48)) (bs ++ b ∷ []) ≡ Some (v * 10 + (b - 48)))
      → cond t (read_digits (n * 10 + (c - 48)) (bs ++ b ∷ [])) None ≡ Some (v * 10 + (b - 48))
  go true e later = later e d
  go false e later = cc

-- what isn't a digit spoils all that follows
read_none : (n : ℕ) (bs : List ℕ) (b : ℕ) (more : List ℕ) → is_digit b ≡ false → read_digits n (bs ++ b ∷ more) ≡ None
read_none n [] b more d = rw d
read_none n (c ∷ bs) b more d = go (is_digit c) (read_none (n * 10 + (c - 48)) bs b more d) where
  go : (t : Bool) → read_digits (n * 10 + (c - 48)) (bs ++ b ∷ more) ≡ None → cond t (read_digits (n * 10 + (c - 48)) (bs ++ b ∷ more)) None ≡ None
  go true later = later
  go false later = refl

some_more : (v : ℕ) (bs : List ℕ) (b : ℕ) → some_digits bs ≡ Some v → is_digit b ≡ true → some_digits (bs ++ b ∷ []) ≡ Some (v * 10 + (b - 48))
some_more v [] b e d = cc
some_more v (c ∷ bs) b e d = read_more 0 v (c ∷ bs) b e d

some_none : (bs : List ℕ) (b : ℕ) (more : List ℕ) → is_digit b ≡ false → some_digits (bs ++ b ∷ more) ≡ None
some_none [] b more d = read_none 0 [] b more d
some_none (c ∷ bs) b more d = read_none 0 (c ∷ bs) b more d

value_more : (v : ℕ) (text : List ℕ) (b : ℕ) → value_of text ≡ Some v → is_digit b ≡ true → value_of (text ++ b ∷ []) ≡ Some (v * 10 + (b - 48))
value_more v [] b e d = cc
value_more v (c ∷ bs) b e d = go (c == 43) e where
  go : (t : Bool) → cond t (some_digits bs) (some_digits (c ∷ bs)) ≡ Some v → cond t (some_digits (bs ++ b ∷ [])) (some_digits (c ∷ (bs ++ b ∷ []))) ≡ Some (v * 10 + (b - 48))
  go true e = some_more v bs b e d
  go false e = some_more v (c ∷ bs) b e d

-- a byte that isn't a digit, after a text that isn't empty or before which no sign may come
value_none : (c : ℕ) (bs : List ℕ) (b : ℕ) (more : List ℕ) → is_digit b ≡ false → value_of (c ∷ (bs ++ b ∷ more)) ≡ None
value_none c bs b more d = go (c == 43) where
  go : (t : Bool) → cond t (some_digits (bs ++ b ∷ more)) (some_digits (c ∷ (bs ++ b ∷ more))) ≡ None
  go true = some_none bs b more d
  go false = some_none (c ∷ bs) b more d

bad_first : (b : ℕ) (more : List ℕ) → (b == 43) ≡ false → is_digit b ≡ false → value_of (b ∷ more) ≡ None
bad_first b more s d = rw s (some_none [] b more d)

bad_more : (text : List ℕ) (b : ℕ) → (text ≡ [] → ⊥) → is_digit b ≡ false → Tracks (text ++ b ∷ []) Bad
bad_more [] b n d more = absurd (n refl)
bad_more (c ∷ bs) b n d more = rw (append_assoc bs (b ∷ []) more) (value_none c bs b more d)

value_not_nil : (text : List ℕ) (v : ℕ) → value_of text ≡ Some v → text ≡ [] → ⊥
value_not_nil [] v e h = cc
value_not_nil (c ∷ bs) v e h = cc

-- one more byte
pub tracks_more : (text : List ℕ) (n : Number) (b : ℕ) → Tracks text n → Tracks (text ++ b ∷ []) (number_after n b)
tracks_more text Empty b e = rw e (go (b == 43) refl (is_digit b) refl) where
  go : (s : Bool) → (b == 43) ≡ s → (t : Bool) → is_digit b ≡ t → Tracks (b ∷ []) (cond s Plus (cond t (Value (b - 48)) Bad))
  go true s t d = let is : b ≡ 43 = grind (arith, nat_tests, s) in rw is
  go false s true d = (rw (s, d) (ap (λ (n : ℕ). Some n) (omega arith)), let h : (48 ≤ b) × (b ≤ 57) = grind (arith, nat_tests) in omega arith)
  go false s false d = λ more. bad_first b more s d
tracks_more text Plus b e = rw e (go (is_digit b) refl) where
  go : (t : Bool) → is_digit b ≡ t → Tracks (43 ∷ b ∷ []) (cond t (Value (b - 48)) Bad)
  go true d = (rw d (ap (λ (n : ℕ). Some n) (omega arith)), let h : (48 ≤ b) × (b ≤ 57) = grind (arith, nat_tests) in omega arith)
  go false d = bad_more (43 ∷ []) b (λ h. cc) d
tracks_more text (Value n) b e = go (is_digit b) refl (nat_le (n * 10 + (b - 48)) 4294967295) refl where
  go : (t : Bool) → is_digit b ≡ t → (s : Bool) → nat_le (n * 10 + (b - 48)) 4294967295 ≡ s
      → Tracks (text ++ b ∷ []) (cond t (cond s (Value (n * 10 + (b - 48))) Big) Bad)
  go true d true l = (value_more n text b e.0 d, let h : n * 10 + (b - 48) ≤ 4294967295 = grind (arith, nat_tests) in omega arith)
  go true d false l = (n * 10 + (b - 48), value_more n text b e.0 d, let h : 4294967295 < n * 10 + (b - 48) = grind (arith, nat_tests) in omega arith)
  go false d s l = bad_more text b (value_not_nil text n e.0) d
tracks_more text Big b e = go (is_digit b) refl where
  go : (t : Bool) → is_digit b ≡ t → Tracks (text ++ b ∷ []) (cond t Big Bad)
  go true d = (e.0 * 10 + (b - 48), value_more e.0 text b e.1 d, let h : 2 ^ 32 ≤ e.0 = e.2 in omega arith)
  go false d = bad_more text b (value_not_nil text e.0 e.1) d
tracks_more text Bad b e = λ more. rw (append_assoc text (b ∷ []) more) (e (b ∷ more))

-- the number of a text that is over
pub tracks_reading : (text : List ℕ) (n : Number) → Tracks text n → reading n ≡ number text
tracks_reading text Empty e = rw e refl
tracks_reading text Plus e = rw e refl
tracks_reading text (Value n) e = let h : nat_le n 4294967295 ≡ true = (let l : n < 2 ^ 32 = e.1 in grind (arith, nat_tests)) in rw (e.0, h)
tracks_reading text Big e = rw e.1 (let h : nat_le e.0 4294967295 ≡ false = (let g : 2 ^ 32 ≤ e.0 = e.2 in grind (arith, nat_tests)) in rw h)
tracks_reading text Bad e = let h : value_of text ≡ None = rw append-nil at (e []) in rw h
