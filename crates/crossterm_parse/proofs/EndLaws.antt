-- Lists that end at the first byte that passes a test.
use Rattle.std.proofs.Common.{◌≡◌, ℕ, Bool, true, false, cond, List, [], ◌∷◌, ◌++◌, refl, ap, ◌⊎◌, inl, inr}
use Rattle.std.proofs.lemmas.Bool.{false≢true}
use Rattle.std.specs.List.{AllByRecursion}
use Rattle.crossterm_parse.specs.Recognizer.{is_nil, ends_at}

-- which way a test went
pub chosen : {A : Type 0} (b : Bool) (x y z : A) → cond b x y ≡ z → ((b ≡ true) × (x ≡ z)) ⊎ ((b ≡ false) × (y ≡ z))
chosen true x y z e = inl (refl, e)
chosen false x y z e = inr (refl, e)

pub true_nil : (bs : List ℕ) → is_nil bs ≡ true → bs ≡ []
true_nil [] h = refl
true_nil (b ∷ bs) h = absurd (false≢true h)

-- The test is false of exactly the bytes that end nothing.
pub record TestsEnds (N : ℕ → Type 0) (test : ℕ → Bool) : Type 0 where
  pub fails : (b : ℕ) → N b → test b ≡ false
  pub none : (b : ℕ) → test b ≡ false → N b

pub ended : (N : ℕ → Type 0) (test : ℕ → Bool) → TestsEnds N test → (w : List ℕ) (f : ℕ) → AllByRecursion N w → test f ≡ true → ends_at test (w ++ f ∷ []) ≡ true
ended N test t [] f h l = rw l
ended N test t (b ∷ w) f h l = rw (t.fails b h.0) (ended N test t w f h.1 l)

pub not_ended : (N : ℕ → Type 0) (test : ℕ → Bool) → TestsEnds N test → (w : List ℕ) (b : ℕ) → AllByRecursion N w → test b ≡ false → ends_at test (w ++ b ∷ []) ≡ false
not_ended N test t [] b h l = rw l
not_ended N test t (c ∷ w) b h l = rw (t.fails c h.0) (not_ended N test t w b h.1 l)

-- what is before the first end, and that end
pub record Ends (N : ℕ → Type 0) (test : ℕ → Bool) (bs : List ℕ) : Type 0 where
  pub before : List ℕ
  pub last : ℕ
  pub none_before : AllByRecursion N before
  pub closed : test last ≡ true
  pub is : bs ≡ before ++ last ∷ []

pub true_ends : (N : ℕ → Type 0) (test : ℕ → Bool) → TestsEnds N test → (bs : List ℕ) → ends_at test bs ≡ true → Ends N test bs
true_ends N test t [] h = absurd (false≢true h)
true_ends N test t (b ∷ bs) h = elim (chosen (test b) (is_nil bs) (ends_at test bs) true h) [
  | inl w ↦ record { before = []; last = b; none_before = tt; closed = w.0; is = ap (λ (ys : List ℕ). b ∷ ys) (true_nil bs w.1) }
  | inr w ↦ let later = true_ends N test t bs w.1 in
      record { before = b ∷ later.before; last = later.last; none_before = (t.none b w.0, later.none_before); closed = later.closed; is = ap (λ (ys : List ℕ). b ∷ ys) later.is }
]

-- a list that passes is no proper front of another that does
abbrev pub Closes : (List ℕ → Bool) → Type 0
Closes p = (a x : List ℕ) → p a ≡ true → p (a ++ x) ≡ true → x ≡ []

pub nil_closes : Closes is_nil
nil_closes [] [] h l = refl
nil_closes [] (b ∷ x) h l = absurd (false≢true l)
nil_closes (b ∷ a) x h l = absurd (false≢true h)

-- if a test of the first byte chooses how to go on
pub choice_closes : (t : Bool) (p q : List ℕ → Bool) → Closes p → Closes q → Closes (λ bs. cond t (p bs) (q bs))
choice_closes true p q cp cq a x h l = cp a x h l
choice_closes false p q cp cq a x h l = cq a x h l

pub ends_close : (test : ℕ → Bool) → Closes (ends_at test)
ends_close test [] x h l = absurd (false≢true h)
ends_close test (b ∷ a) x h l = go (test b) h l (ends_close test a x) where
  go : (t : Bool) → cond t (is_nil a) (ends_at test a) ≡ true → cond t (is_nil (a ++ x)) (ends_at test (a ++ x)) ≡ true
      → (ends_at test a ≡ true → ends_at test (a ++ x) ≡ true → x ≡ []) → x ≡ []
  go true h l later = nil_closes a x h l
  go false h l later = later h l
