-- The order of an enum's values: by the ranks of their variants, and of one variant by what it holds.
use Rattle.std.proofs.Common.{◌≡◌, ℕ, suc, ◌<◌, ◌≤◌, List, [], ◌∷◌, Option, Some, refl, sym, ap, subst, ◌∙◌, arith}
use mathlib.Core.Logic.{inl, inr}
use denote.Struct.Field.{Field}
use denote.Struct.Values.{Values}
use denote.Enum.Compared.{Each, by}
use denote.Enum.Declared.{Record, Choice}
use Rattle.std.specs.Cmp.{Agrees, nat_cmp_is}
use Rattle.std.specs.Ordering.{nat_cmp, ordering_then, on, then_cmp}
use Rattle.std.specs.declared.cmp.Ordering.{Ordering}
use Rattle.std.specs.declared.cmp.Ordering.TheVariants.{Less, Equal, Greater}
use Rattle.crossterm_flags.specs.Orders.{ComparesBy}

-- Of each variant from the kth on: its rank is its place, and two of its values are in the order of what they hold.
abbrev pub Ranked : (Fss : List (List Field)) → ℕ → Each Ordering Fss → (Choice Fss → ℕ) → (Choice Fss → Choice Fss → Ordering) → Type 0
Ranked [] k each rank holds = Unit {0}
Ranked (Fs ∷ Fss) k each rank holds =
    ((x : Values Fs) → rank (inl x) ≡ k) × (((x y : Values Fs) → each.0 x y ≡ holds (inl x) (inl y))
    × Ranked Fss (suc k) each.1 (λ c. rank (inr c)) (λ c d. holds (inr c) (inr d)))

above : (Fss : List (List Field)) (k : ℕ) (each : Each Ordering Fss) (rank : Choice Fss → ℕ) (holds : Choice Fss → Choice Fss → Ordering)
    → Ranked Fss k each rank holds → (c : Choice Fss) → k ≤ rank c
above [] k each rank holds ranked c = absurd c
above (Fs ∷ Fss) k each rank holds ranked (inl x) = omega (arith, ranked.0 x)
above (Fs ∷ Fss) k each rank holds ranked (inr c) = omega (arith, above Fss (suc k) each.1 (λ c. rank (inr c)) (λ c d. holds (inr c) (inr d)) ranked.1.1 c)

first : (m n : ℕ) (r : Ordering) → m < n → ordering_then (nat_cmp m n) r ≡ Less
first m n r h = ap (λ o. ordering_then o r) (sym (nat_cmp_is m n Less h))

second : (m n : ℕ) (r : Ordering) → n < m → ordering_then (nat_cmp m n) r ≡ Greater
second m n r h = ap (λ o. ordering_then o r) (sym (nat_cmp_is m n Greater h))

level : (m n : ℕ) (r : Ordering) → m ≡ n → ordering_then (nat_cmp m n) r ≡ r
level m n r h = ap (λ o. ordering_then o r) (sym (nat_cmp_is m n Equal h))

choices : (Fss : List (List Field)) (k : ℕ) (each : Each Ordering Fss) (rank : Choice Fss → ℕ) (holds : Choice Fss → Choice Fss → Ordering)
    → Ranked Fss k each rank holds → (c d : Choice Fss) → by Less Greater Fss each c d ≡ ordering_then (nat_cmp (rank c) (rank d)) (holds c d)
choices [] k each rank holds ranked c d = absurd c
choices (Fs ∷ Fss) k each rank holds ranked (inl x) (inl y) =
    ranked.1.0 x y ∙ sym (level (rank (inl x)) (rank (inl y)) (holds (inl x) (inl y)) (ranked.0 x ∙ sym (ranked.0 y)))
choices (Fs ∷ Fss) k each rank holds ranked (inl x) (inr d) =
    let later : suc k ≤ rank (inr d) = above Fss (suc k) each.1 (λ c. rank (inr c)) (λ c d. holds (inr c) (inr d)) ranked.1.1 d in
    sym (first (rank (inl x)) (rank (inr d)) (holds (inl x) (inr d)) (omega (arith, ranked.0 x)))
choices (Fs ∷ Fss) k each rank holds ranked (inr c) (inl y) =
    let later : suc k ≤ rank (inr c) = above Fss (suc k) each.1 (λ c. rank (inr c)) (λ c d. holds (inr c) (inr d)) ranked.1.1 c in
    sym (second (rank (inr c)) (rank (inl y)) (holds (inr c) (inl y)) (omega (arith, ranked.0 y)))
choices (Fs ∷ Fss) k each rank holds ranked (inr c) (inr d) = choices Fss (suc k) each.1 (λ c. rank (inr c)) (λ c d. holds (inr c) (inr d)) ranked.1.1 c d

-- The values of an enum are in the order of their ranks, and then of what they hold.
module _ (N : Record) (each : Each Ordering N.parts) (rank : N.D → ℕ) (holds : N.D → N.D → Ordering) where
  -- Of each variant its rank is its place, and what it holds is in that order.
  abbrev pub Ranks : Type 0
  Ranks = Ranked N.parts 0 each (λ c. rank (N.make c)) (λ c d. holds (N.make c) (N.make d))

  pub in_order : Ranks → (a b : N.D) → by Less Greater N.parts each (N.as_values a) (N.as_values b) ≡ then_cmp (on rank nat_cmp) holds a b
  in_order ranked a b =
      choices N.parts 0 each (λ c. rank (N.make c)) (λ c d. holds (N.make c) (N.make d)) ranked (N.as_values a) (N.as_values b)
      ∙ (λ i. then_cmp (on rank nat_cmp) holds (N.eta a i) (N.eta b i))

then_nothing : (r : Ordering) → ordering_then r Equal ≡ r
then_nothing Less = refl
then_nothing Equal = refl
then_nothing Greater = refl

-- Those of an enum without fields are in the order of their ranks.
pub in_rank_order : (N : Record) (each : Each Ordering N.parts) (rank : N.D → ℕ) → Ranks N each rank (λ a b. Equal)
    → (a b : N.D) → by Less Greater N.parts each (N.as_values a) (N.as_values b) ≡ on rank nat_cmp a b
in_rank_order N each rank ranked a b = in_order N each rank (λ a b. Equal) ranked a b ∙ then_nothing (nat_cmp (rank a) (rank b))

-- What holds at each variant holds of each value of an enum.
abbrev pub AtEach : (Fss : List (List Field)) → (Choice Fss → Type 0) → Type 0
AtEach [] P = Unit {0}
AtEach (Fs ∷ Fss) P = ((x : Values Fs) → P (inl x)) × AtEach Fss (λ c. P (inr c))

each_choice : (Fss : List (List Field)) (P : Choice Fss → Type 0) → AtEach Fss P → (c : Choice Fss) → P c
each_choice [] P all c = absurd c
each_choice (Fs ∷ Fss) P all (inl x) = all.0 x
each_choice (Fs ∷ Fss) P all (inr c) = each_choice Fss (λ c. P (inr c)) all.1 c

pub of_each : (N : Record) (P : N.D → Type 0) → AtEach N.parts (λ c. P (N.make c)) → (x : N.D) → P x
of_each N P all x = subst P (N.eta x) (each_choice N.parts (λ c. P (N.make c)) all (N.as_values x))

-- If a type's comparisons agree and one goes by an order, both do.
pub compares : {T : Type 0} {order cmp : T → T → Ordering} {partial : T → T → Option Ordering} → Agrees partial cmp → ((a b : T) → cmp a b ≡ order a b)
    → ComparesBy order cmp partial
compares agrees is = (is, λ a b. agrees a b ∙ ap Some (is a b))
