-- Sets of attributes by their bits.
use Rattle.std.proofs.Common.{◌≡◌, ℕ, Bool, List, [], ◌∷◌, ◌++◌, refl, ap, sym, ◌∙◌}
use Rattle.std.proofs.lemmas.List.Elements.{filter-append}
use Rattle.std.specs.Int.RustNames.{bit_or}
use Rattle.std.specs.List.{filter}
use Rattle.crossterm_style.specs.Attributes.{all_attributes, bit_of, of_list, with_all}
use Rattle.crossterm_style.specs.declared.types.attribute.Attribute.{Attribute}
use Rattle.numbers.specs.Style.{includes, known_of}

with_all-append : (bits : ℕ) (xs ys : List Attribute) → with_all bits (xs ++ ys) ≡ with_all (with_all bits xs) ys
with_all-append bits [] ys = refl
with_all-append bits (x ∷ xs) ys = with_all-append (bit_or bits (bit_of x)) xs ys

gathered : (test : Attribute → Bool) (all : List Attribute) (x : Attribute) → of_list (filter test (all ++ x ∷ [])) ≡ with_all (of_list (filter test all)) (filter test (x ∷ []))
gathered test all x = ap of_list (filter-append test all (x ∷ [])) ∙ with_all-append 0 (filter test all) (filter test (x ∷ []))

-- One attribute more.
pub gathers_more : (test : Attribute → Bool) (all : List Attribute) (x : Attribute) (k n : ℕ) → k ≡ of_list (filter test all)
    → n ≡ with_all k (filter test (x ∷ [])) → n ≡ of_list (filter test (all ++ x ∷ []))
gathers_more test all x k n before more = more ∙ ap (λ (b : ℕ). with_all b (filter test (x ∷ []))) before ∙ sym (gathered test all x)

-- What all attributes gather.
pub gathers_all : (bits k : ℕ) (all : List Attribute) → all ≡ all_attributes → k ≡ of_list (filter (includes bits) all) → k ≡ known_of bits
unfolding known_of
gathers_all bits k all is gathers = gathers ∙ ap (λ (l : List Attribute). of_list (filter (includes bits) l)) is
