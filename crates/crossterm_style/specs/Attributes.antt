-- The names, the SGR parameters and the bits of attributes, and sets of them.
use Rattle.std.specs.Prelude.{◌≡◌, ℕ, ◌+◌, ◌^◌, ◌<◌, ◌==◌, not, Bool, true, false, List, [], ◌∷◌, codes, map}
use Rattle.std.specs.List.{filter}
use Rattle.std.specs.Int.{bit_at}
use Rattle.std.specs.Int.RustNames.{bit_or}
use Rattle.crossterm_flags.specs.Variants.{Variants, all, name_in, rank}
use Rattle.crossterm_style.specs.contracts.types.attribute.AttributePartialEq.TheImpl as attribute_eq
use Rattle.crossterm_style.specs.declared.types.attribute.Attribute.{Attribute}
use Rattle.crossterm_style.specs.declared.types.attribute.Attribute.TheVariants as attribute

-- The attributes in declared order: the variant's name, the SGR parameter that sets it, and the attribute.
abbrev table : List (List ℕ × List ℕ × Attribute)
table =
    (codes "Reset", codes "0", attribute.Reset) ∷ (codes "Bold", codes "1", attribute.Bold) ∷ (codes "Dim", codes "2", attribute.Dim) ∷
    (codes "Italic", codes "3", attribute.Italic) ∷ (codes "Underlined", codes "4", attribute.Underlined) ∷ (codes "DoubleUnderlined", codes "4:2", attribute.DoubleUnderlined) ∷
    (codes "Undercurled", codes "4:3", attribute.Undercurled) ∷ (codes "Underdotted", codes "4:4", attribute.Underdotted) ∷ (codes "Underdashed", codes "4:5", attribute.Underdashed) ∷
    (codes "SlowBlink", codes "5", attribute.SlowBlink) ∷ (codes "RapidBlink", codes "6", attribute.RapidBlink) ∷ (codes "Reverse", codes "7", attribute.Reverse) ∷
    (codes "Hidden", codes "8", attribute.Hidden) ∷ (codes "CrossedOut", codes "9", attribute.CrossedOut) ∷ (codes "Fraktur", codes "20", attribute.Fraktur) ∷
    (codes "NoBold", codes "21", attribute.NoBold) ∷ (codes "NormalIntensity", codes "22", attribute.NormalIntensity) ∷ (codes "NoItalic", codes "23", attribute.NoItalic) ∷
    (codes "NoUnderline", codes "24", attribute.NoUnderline) ∷ (codes "NoBlink", codes "25", attribute.NoBlink) ∷ (codes "NoReverse", codes "27", attribute.NoReverse) ∷
    (codes "NoHidden", codes "28", attribute.NoHidden) ∷ (codes "NotCrossedOut", codes "29", attribute.NotCrossedOut) ∷ (codes "Framed", codes "51", attribute.Framed) ∷
    (codes "Encircled", codes "52", attribute.Encircled) ∷ (codes "OverLined", codes "53", attribute.OverLined) ∷ (codes "NotFramedOrEncircled", codes "54", attribute.NotFramedOrEncircled) ∷
    (codes "NotOverLined", codes "55", attribute.NotOverLined) ∷ []

-- The attributes by their names, in declared order, with their equality.
abbrev pub attributes : Variants Attribute
attributes = record { eq = attribute_eq.ghosts.eq; rows = map (λ row. (row.0, row.2)) table }

-- All attributes, in declared order.
abbrev pub all_attributes : List Attribute
all_attributes = all attributes

-- The SGR parameter that sets an attribute.
abbrev pub code_of : Attribute → List ℕ
code_of = name_in attributes.eq (map (λ row. (row.1, row.2)) table)

-- The place of an attribute in declared order, from 0.
abbrev pub attribute_index : Attribute → ℕ
attribute_index = rank attributes

-- The value of an attribute's bit in a set: 2 for the first one, 4 for the second, and so on.
abbrev pub bit_of : Attribute → ℕ
bit_of a = 2 ^ (attribute_index a + 1)

-- Whether an attribute is in a set.
abbrev pub has_attribute : ℕ → Attribute → Bool
has_attribute bits a = bit_at bits (attribute_index a + 1) == 1

-- The attributes in a set, in declared order.
unfoldable pub members : ℕ → List Attribute
members bits = filter (has_attribute bits) all_attributes

-- The set `z` has exactly those attributes for which `together` of the other two sets is true.
abbrev pub Combines : (Bool → Bool → Bool) → ℕ → ℕ → ℕ → Type 0
Combines together x y z = (a : Attribute) → has_attribute z a ≡ together (has_attribute x a) (has_attribute y a)

-- A set with the attributes of a list added.
abbrev pub with_all : ℕ → List Attribute → ℕ
with_all bits [] = bits
with_all bits (a ∷ all) = with_all (bit_or bits (bit_of a)) all

-- The set of the attributes in a list.
abbrev pub of_list : List Attribute → ℕ
of_list all = with_all 0 all

-- Whether exactly one of two truths holds.
abbrev pub differ : Bool → Bool → Bool
differ true q = not q
differ false q = q

-- Only the bits of attributes are set: not bit 0, and none from bit 29 on.
abbrev pub OnlyAttributes : ℕ → Type 0
OnlyAttributes bits = (bit_at bits 0 ≡ 0) × (bits < 2 ^ 29)
