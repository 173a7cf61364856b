-- Values as JSON, and what JSON reads as. The members of an object are in the order of their names.
use Rattle.std.specs.Prelude.{◌≡◌, ℕ, ◌&&◌, nat_eq, nat_lt, Bool, List, Option, Some, None, MatchResult, if◌then◌else◌}
use Rattle.std.specs.Cmp.Lexicographic.{pointwise}
use Rattle.std.specs.Option.{option_and_then}
use Rattle.std.specs.declared.result.Result.{Result}
use Rattle.serde_json.specs.Data.{Data, Items, Members, number, unsigned, object, member, no_members, item, no_items}
use Rattle.serde_json.specs.Find.{as_number, as_object, as_u64, as_array}
use Rattle.serde_json.specs.View.{view}
use Rattle.serde_json.specs.declared.value.Value.{Value}
use Rattle.crossterm_flags.specs.declared.value.ValueFault.{ValueFault}
use Rattle.crossterm_flags.specs.declared.value.ValueFault.TheVariants.{Memory, Shape}

-- ---- what is written

-- A number.
abbrev pub number_value : ℕ → Data
number_value n = number (unsigned n)

-- An object with one member.
abbrev pub one_member : List ℕ → Data → Data
one_member name d = object (member name d no_members)

-- The result is this JSON value, or memory for it was refused.
abbrev pub WritesJson : Data → Result Value ValueFault → Type 0
WritesJson d result = MatchResult result (λ v. view v ≡ d) (λ fault. fault ≡ Memory)

-- ---- what is read

-- True if two texts are the same.
abbrev pub same : List ℕ → List ℕ → Bool
same = pointwise nat_eq

-- A number if it is below the limit, else nothing.
abbrev pub below : ℕ → ℕ → Option ℕ
below limit n = if nat_lt n limit then Some n else None

-- A number below the limit; nothing of all other JSON.
abbrev pub reads_below : ℕ → Data → Option ℕ
reads_below limit d = option_and_then (below limit) (option_and_then as_u64 (as_number d))

-- The name and the value of the only member; nothing if there are none or more.
abbrev pub alone : Members → Option (List ℕ × Data)
alone (member name d no_members) = Some (name, d)
alone _ = None

-- The name and the value of an object's only member; nothing of all other JSON.
abbrev pub reads_member : Data → Option (List ℕ × Data)
reads_member d = option_and_then alone (as_object d)

-- The values of four members with these names, if there are no others; else nothing.
abbrev pub four : List ℕ → List ℕ → List ℕ → List ℕ → Members → Option (Data × Data × Data × Data)
four a b c d (member k w (member l x (member m y (member n z no_members)))) = if same k a && (same l b && (same m c && same n d)) then Some (w, x, y, z) else None
four a b c d _ = None

-- The values of an object's four members with these names; nothing of all other JSON.
abbrev pub reads_four : List ℕ → List ℕ → List ℕ → List ℕ → Data → Option (Data × Data × Data × Data)
reads_four a b c d value = option_and_then (four a b c d) (as_object value)

-- The two items of an array; nothing if it has more or fewer.
abbrev pub two : Items → Option (Data × Data)
two (item a (item b no_items)) = Some (a, b)
two _ = None

-- The items of an array of two; nothing of all other JSON.
abbrev pub reads_two : Data → Option (Data × Data)
reads_two d = option_and_then two (as_array d)

-- The result is what was read; it is `Shape` if and only if nothing was read.
abbrev pub ReadsJson : {X Y : Type 0} → (X → Y) → Option Y → Result X ValueFault → Type 0
ReadsJson seen reading result = MatchResult result (λ x. reading ≡ Some (seen x)) (λ fault. (fault ≡ Shape) × (reading ≡ None))
