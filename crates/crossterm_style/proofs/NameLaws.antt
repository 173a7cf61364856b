-- The names of colours.
use mathlib.Core.Bool.{true≢false}
use Rattle.std.proofs.lemmas.Cmp.{nat_list_eq_equiv}
use Rattle.std.specs.Cmp.Lexicographic.{same_text}
use Rattle.std.specs.Prelude.{if◌then◌else◌, nat_lt, ◌+◌}
use Rattle.std.proofs.lemmas.Bool.Decides.{nat_tests}
use Rattle.crossterm_flags.specs.Values.{same}
use Rattle.crossterm_style.specs.Values.{color_in}
use Rattle.std.proofs.Common.{drop, zero, suc, Bool, true, false, Some, refl, subst, ◌≡◌, ℕ, ◌<◌, ◌≤◌, List, [], ◌∷◌, get_or, length, ap, arith, sym, ◌∙◌}
use Rattle.std.specs.Borrow.{Bor}
use Rattle.std.specs.Str.{str_to_ascii_lowercase}
use Rattle.std.proofs.lemmas.List.{get_or-map, length-map}
use Rattle.crossterm_style.specs.declared.types.color.Color.{Color}
use Rattle.crossterm_style.specs.ColorNames.{entries, NamesNoneIn}

-- If no entry has the text as its name, the text names none in the table.
pub named_nowhere : (table : List (Bor (List ℕ) × Color)) (text : List ℕ) (n : ℕ) → length table ≤ n
    → ((k : ℕ) (d : Bor (List ℕ) × Color) → k < n → str_to_ascii_lowercase text ≡ str_to_ascii_lowercase (get_or table k d).0.now → ⊥) → NamesNoneIn (entries table) text
named_nowhere [] text n all none c p = omega (arith, p.1)
named_nowhere (x ∷ xs) text n all none c p =
    let within : p.0 < length (x ∷ xs) = simp length-map at p.1 in
    let small : Bor (List ℕ) × Color → List ℕ × Color = λ entry. (str_to_ascii_lowercase entry.0.now, entry.1) in
    none p.0 x (omega arith) (sym (ap (λ y. y.0) p.2) ∙ ap (λ y. y.0) (get_or-map small (x ∷ xs) p.0 x (str_to_ascii_lowercase text, c) within))

if_so : {X : Type 0} (b : Bool) (x y : X) → b ≡ true → (if b then x else y) ≡ x
if_so true x y h = refl
if_so false x y h = absurd (true≢false (sym h))

if_not : {X : Type 0} (b : Bool) (x y : X) → (b ≡ true → ⊥) → (if b then x else y) ≡ y
if_not true x y h = absurd (h refl)
if_not false x y h = refl

same_is : (xs ys : List ℕ) → xs ≡ ys → same xs ys ≡ true
same_is xs ys e = subst (λ l. same xs l ≡ true) e (nat_list_eq_equiv.refl xs)

-- The first entry with the text as its name has its colour.
pub named_here : (table : List (Bor (List ℕ) × Color)) (text : List ℕ) (i : ℕ) (d : Bor (List ℕ) × Color) → i < length table
    → str_to_ascii_lowercase text ≡ str_to_ascii_lowercase (get_or table i d).0.now → color_in (entries (drop i table)) text ≡ Some (get_or table i d).1
named_here [] text i d h e = absurd (omega arith)
named_here (x ∷ xs) text zero d h e = if_so (same (str_to_ascii_lowercase text) (str_to_ascii_lowercase x.0.now)) _ _ (same_is _ _ e)
named_here (x ∷ xs) text (suc i) d h e = named_here xs text i d (omega arith) e

-- An entry with another name is passed over.
pub named_later : (table : List (Bor (List ℕ) × Color)) (text : List ℕ) (i : ℕ) (d : Bor (List ℕ) × Color) → i < length table
    → (str_to_ascii_lowercase text ≡ str_to_ascii_lowercase (get_or table i d).0.now → ⊥) → color_in (entries (drop i table)) text ≡ color_in (entries (drop (suc i) table)) text
named_later [] text i d h e = absurd (omega arith)
named_later (x ∷ xs) text zero d h e = if_not (same (str_to_ascii_lowercase text) (str_to_ascii_lowercase x.0.now)) _ _ (λ t. e (same_text _ _ (sym t)))
named_later (x ∷ xs) text (suc i) d h e = named_later xs text i d (omega arith) e

entry_there : {X : Type 0} (xs : List X) (i : ℕ) (d e : X) → i < length xs → get_or xs i d ≡ get_or xs i e
entry_there [] i d e h = absurd (omega arith)
entry_there (x ∷ xs) zero d e h = refl
entry_there (x ∷ xs) (suc i) d e h = entry_there xs i d e (omega arith)

-- The text of an entry of the table.
abbrev names_entry : List (Bor (List ℕ) × Color) → List ℕ → ℕ → Bor (List ℕ) × Color → Type 0
names_entry table text k d = str_to_ascii_lowercase text ≡ str_to_ascii_lowercase (get_or table k d).0.now

-- If neither the entries before a place nor the one there have the text as their name, none up to there has.
pub none_yet : (table : List (Bor (List ℕ) × Color)) (text : List ℕ) (i : ℕ) (d : Bor (List ℕ) × Color) → i < length table
    → ((k : ℕ) (e : Bor (List ℕ) × Color) → k < i → names_entry table text k e → ⊥) → (names_entry table text i d → ⊥)
    → (k : ℕ) (e : Bor (List ℕ) × Color) → k < i + 1 → names_entry table text k e → ⊥
none_yet table text i d h before here k e below a = by_place (nat_lt k i) refl
  where
    by_place : (b : Bool) → nat_lt k i ≡ b → ⊥
    by_place true t = before k e (grind (arith, nat_tests)) a
    by_place false t =
        let place : k ≡ i = grind (arith, nat_tests) in
        here (a ∙ ap (λ n. str_to_ascii_lowercase (get_or table n e).0.now) place ∙ ap (λ x. str_to_ascii_lowercase x.0.now) (entry_there table i e d h))
