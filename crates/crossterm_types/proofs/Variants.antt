-- Tests of the values of an enum: if each variant's test says that two values are the same, so does the whole test.
use Rattle.std.proofs.Common.{◌≡◌, ℕ, zero, suc, Bool, true, false, List, [], ◌∷◌, refl, sym, ap}
use mathlib.Core.Bool.{true≢false}
use mathlib.Core.Logic.{inl, inr}
use denote.Struct.Field.{Field}
use denote.Struct.Values.{Values}
use denote.Enum.Compared.{Each, by}
use denote.Enum.Declared.{Record, Choice, values_one}

-- A test of a variant's fields that is true of the same fields alone.
pub record Test (Fs : List Field) : Type 0 where
  pub test : Values Fs → Values Fs → Bool
  pub sound : (x y : Values Fs) → test x y ≡ true → x ≡ y

abbrev pub Tests : List (List Field) → Type 0
Tests [] = Unit {0}
Tests (Fs ∷ Fss) = Test Fs × Tests Fss

abbrev pub each_test : (Fss : List (List Field)) → Tests Fss → Each Bool Fss
each_test [] tests = tt
each_test (Fs ∷ Fss) tests = (tests.0.test, each_test Fss tests.1)

-- The test of a variant without fields.
abbrev pub bare : Test []
bare = record { test = λ _ _. true; sound = λ _ _ _. refl }

pub same_choice : (Fss : List (List Field)) (tests : Tests Fss) (c d : Choice Fss) → by false false Fss (each_test Fss tests) c d ≡ true → c ≡ d
same_choice [] tests c d h = absurd c
same_choice (Fs ∷ Fss) tests (inl x) (inl y) h = ap inl (tests.0.sound x y h)
same_choice (Fs ∷ Fss) tests (inl x) (inr y) h = absurd (true≢false (sym h))
same_choice (Fs ∷ Fss) tests (inr x) (inl y) h = absurd (true≢false (sym h))
same_choice (Fs ∷ Fss) tests (inr x) (inr y) h = ap inr (same_choice Fss tests.1 x y h)

pub same_value : (N : Record) (tests : Tests N.parts) (x y : N.D) → by false false N.parts (each_test N.parts tests) (N.as_values x) (N.as_values y) ≡ true → x ≡ y
same_value N tests x y h = values_one N x y (same_choice N.parts tests (N.as_values x) (N.as_values y) h)

-- A list of variants that begins with n variants without fields, and their tests.
abbrev pub after_bare : ℕ → List (List Field) → List (List Field)
after_bare zero Fss = Fss
after_bare (suc n) Fss = [] ∷ after_bare n Fss

abbrev pub bare_tests : (n : ℕ) (Fss : List (List Field)) → Tests Fss → Tests (after_bare n Fss)
bare_tests zero Fss tests = tests
bare_tests (suc n) Fss tests = (bare, bare_tests n Fss tests)

-- The test of a variant with one field.
abbrev pub one : (F : Field) (test : F.Value → F.Value → Bool) → ((x y : F.Value) → test x y ≡ true → x ≡ y) → Test (F ∷ [])
one F test sound = record { test = λ x y. test x.0 y.0; sound = λ x y h i. (sound x.0 y.0 h i, tt) }
