-- The members of a set, one by one.
use Rattle.std.proofs.Common.{◌≡◌, ℕ, ◌+◌, ◌<◌, ◌≤◌, Bool, true, false, List, [], ◌∷◌, ◌++◌, refl, sym, ap, ◌∙◌, get_or, length, take, take_all, append-nil, flat_map}
use Rattle.std.proofs.lemmas.List.{take_more}
use Rattle.std.proofs.lemmas.List.Elements.{filter-append}
use Rattle.std.proofs.lemmas.List.Concat.{flat_map-append}
use Rattle.std.proofs.lemmas.List.Folds.{flat_map-map}
use Rattle.std.specs.List.{filter}
use Rattle.std.specs.Int.RustNames.{bit_or}
use Rattle.crossterm_style.specs.declared.types.attribute.Attribute.{Attribute}
use Rattle.crossterm_style.specs.Attributes.{all_attributes, bit_of, has_attribute, members, of_list, with_all}
use Rattle.crossterm_style.specs.Acts.{attribute_acts}
use Rattle.crossterm_style.specs.Acts.StyleAct.{Takes}
use Rattle.crossterm_style.specs.Styles.{act_functions, attribute_functions, act_tokens}
use Rattle.crossterm_command.specs.declared.color_output.ColorOutput.{ColorOutput}
use Rattle.crossterm_command.specs.Tokens.{text_of}
use Rattle.crossterm_command.proofs.Readings.{text_of_each}

module _ {X : Type 0} (text : X → List ℕ) (test : X → Bool) (xs : List X) (i : ℕ) (other : X) (lt : i < length xs) where
  abbrev so_far : ℕ → List ℕ
  so_far n = flat_map text (filter test (take n xs))

  more : so_far (i + 1) ≡ so_far i ++ flat_map text (filter test (get_or xs i other ∷ []))
  more =
      ap (λ l. flat_map text (filter test l)) (take_more xs i other lt)
      ∙ ap (flat_map text) (filter-append test (take i xs) (get_or xs i other ∷ []))
      ∙ flat_map-append text (filter test (take i xs)) (filter test (get_or xs i other ∷ []))

  -- An element that passes the test.
  pub text_more : test (get_or xs i other) ≡ true → so_far i ++ text (get_or xs i other) ≡ so_far (i + 1)
  text_more is = sym (rw is at more ∙ ap (λ l. so_far i ++ l) (append-nil (text (get_or xs i other))))

  -- An element that doesn't pass the test.
  pub text_same : test (get_or xs i other) ≡ false → so_far i ≡ so_far (i + 1)
  text_same is = sym (rw is at more ∙ append-nil (so_far i))

-- The text of an attribute.
abbrev pub attribute_text : Attribute → List ℕ
attribute_text a = text_of (attribute_functions a)

-- All attributes that are in a set are its members.
pub all_written : (colors : ColorOutput) (bits n : ℕ) → length all_attributes ≤ n → flat_map attribute_text (filter (has_attribute bits) (take n all_attributes)) ≡ text_of (act_tokens colors (attribute_acts bits))
unfolding members
all_written colors bits n l =
    ap (λ all. flat_map attribute_text (filter (has_attribute bits) all)) (take_all n all_attributes l)
    ∙ sym (text_of_each attribute_functions (filter (has_attribute bits) all_attributes))
    ∙ ap text_of (sym (flat_map-map (act_functions colors) Takes (filter (has_attribute bits) all_attributes)))

-- One more attribute in a list is one more bit.
one_more : (bits : ℕ) (all : List Attribute) (a : Attribute) → with_all bits (all ++ (a ∷ [])) ≡ bit_or (with_all bits all) (bit_of a)
one_more bits [] a = refl
one_more bits (x ∷ all) a = one_more (bit_or bits (bit_of x)) all a

pub bits_more : (all : List Attribute) (i : ℕ) (other : Attribute) → i < length all → bit_or (of_list (take i all)) (bit_of (get_or all i other)) ≡ of_list (take (i + 1) all)
bits_more all i other lt = sym (ap of_list (take_more all i other lt) ∙ one_more 0 (take i all) (get_or all i other))
