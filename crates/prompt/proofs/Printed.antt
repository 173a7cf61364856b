-- A text that is printed, line by line.
use Rattle.std.proofs.Common.{◌≡◌, ℕ, ◌++◌, List, [], ◌∷◌, Bor, map, sym, ap, ◌∙◌, append_assoc, append-nil}
use Rattle.std.proofs.lemmas.List.{map-append}
use Rattle.std.specs.List.{flat_map}

-- A line with CR and LF behind it.
abbrev pub row : List ℕ → List ℕ
row line = line ++ (0x0D ∷ 0x0A ∷ [])

more_rows : (xs : List (List ℕ)) (x : List ℕ) → flat_map row (xs ++ x ∷ []) ≡ flat_map row xs ++ row x
more_rows [] x = append-nil (row x)
more_rows (y ∷ xs) x = ap (λ t. row y ++ t) (more_rows xs x) ∙ sym (append_assoc (row y) (flat_map row xs) (row x))

-- One more line.
pub one_printed : (xs : List (Bor (List ℕ))) (x : Bor (List ℕ)) (made mid new : List ℕ) → made ≡ flat_map row (map (λ y. y.now) xs) → mid ≡ made ++ x.now → new ≡ mid ++ (0x0D ∷ 0x0A ∷ [])
    → new ≡ flat_map row (map (λ y. y.now) (xs ++ x ∷ []))
one_printed xs x made mid new is first second =
    second ∙ ap (λ t. t ++ (0x0D ∷ 0x0A ∷ [])) first ∙ append_assoc made x.now (0x0D ∷ 0x0A ∷ []) ∙ ap (λ t. t ++ row x.now) is
    ∙ sym (ap (flat_map row) (map-append (λ (y : Bor (List ℕ)). y.now) xs (x ∷ [])) ∙ more_rows (map (λ y. y.now) xs) x.now)
