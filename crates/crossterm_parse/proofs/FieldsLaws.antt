-- The fields of a text that grows byte by byte.
use Rattle.std.proofs.Common.{◌≡◌, ◌==◌, ℕ, Bool, true, false, cond, List, [], ◌∷◌, ◌++◌, refl, ap, sym, ◌∙◌, subst, Option, option_and_then, eqb-true}
use Rattle.std.specs.Str.{byte}
use Rattle.crossterm_parse.specs.Fields.{push_first, cut, nth}
use Rattle.crossterm_parse.specs.Tracking.{empty_field, whole_at, whole_of, ReadsParts, ReadsField, ReadsFields, Tracks}
use Rattle.crossterm_parse.specs.Transitions.{parts_at, field_after, fields_at, fields_after, number_after, reading}
use Rattle.crossterm_parse.specs.Number.{number}
use Rattle.crossterm_parse.specs.declared.fields.Field.{Field}
use Rattle.crossterm_parse.specs.declared.fields.Fields.{Fields}
use Rattle.crossterm_parse.specs.declared.fields.Part.{Part}
use Rattle.crossterm_parse.specs.declared.fields.Part.TheVariants as part
use Rattle.crossterm_parse.specs.declared.number.Number.{Number}
use Rattle.crossterm_parse.specs.declared.number.Number.TheVariants.{Empty, Plus, Value, Big, Bad}
use Rattle.crossterm_parse.specs.declared.fields.Place.{Place}
use Rattle.crossterm_parse.specs.declared.fields.Place.TheVariants as place
use Rattle.crossterm_parse.proofs.NumberLaws.{tracks_more, tracks_reading}

-- one more byte at the end of the last part
abbrev push_last : ℕ → List (List ℕ) → List (List ℕ)
push_last b [] = []
push_last b (x ∷ []) = (x ++ b ∷ []) ∷ []
push_last b (x ∷ y ∷ xs) = x ∷ push_last b (y ∷ xs)

abbrev part_more : Bool → ℕ → List (List ℕ) → List (List ℕ)
part_more t b parts = cond t (parts ++ [] ∷ []) (push_last b parts)

push_first_not_nil : (b : ℕ) (parts : List (List ℕ)) → (parts ≡ [] → ⊥) → push_first b parts ≡ [] → ⊥
push_first_not_nil b [] n e = n refl
push_first_not_nil b (x ∷ xs) n e = cc

cut_not_nil : (s : ℕ) (text : List ℕ) → cut s text ≡ [] → ⊥
cut_not_nil s [] e = cc
cut_not_nil s (c ∷ cs) e = go (c == s) (cut_not_nil s cs) e where
  go : (t : Bool) → (cut s cs ≡ [] → ⊥) → cond t ([] ∷ cut s cs) (push_first c (cut s cs)) ≡ [] → ⊥
  go true later e = cc
  go false later e = push_first_not_nil c (cut s cs) later e

more_after_part : (t : Bool) (b : ℕ) (parts : List (List ℕ)) → (parts ≡ [] → ⊥) → [] ∷ part_more t b parts ≡ part_more t b ([] ∷ parts)
more_after_part true b parts n = refl
more_after_part false b [] n = absurd (n refl)
more_after_part false b (x ∷ xs) n = refl

more_in_part : (t : Bool) (b c : ℕ) (parts : List (List ℕ)) → (parts ≡ [] → ⊥) → push_first c (part_more t b parts) ≡ part_more t b (push_first c parts)
more_in_part t b c [] n = absurd (n refl)
more_in_part true b c (x ∷ xs) n = refl
more_in_part false b c (x ∷ []) n = refl
more_in_part false b c (x ∷ y ∷ xs) n = refl

-- a text that grows by one byte
cut_more : (s : ℕ) (text : List ℕ) (b : ℕ) → cut s (text ++ b ∷ []) ≡ part_more (b == s) b (cut s text)
cut_more s [] b = refl
cut_more s (c ∷ cs) b = go (c == s) (cut_more s cs b) where
  go : (t : Bool) → cut s (cs ++ b ∷ []) ≡ part_more (b == s) b (cut s cs)
      → cond t ([] ∷ cut s (cs ++ b ∷ [])) (push_first c (cut s (cs ++ b ∷ []))) ≡ part_more (b == s) b (cond t ([] ∷ cut s cs) (push_first c (cut s cs)))
  go true e = ap (λ (parts : List (List ℕ)). [] ∷ parts) e ∙ more_after_part (b == s) b (cut s cs) (cut_not_nil s cs)
  go false e = ap (push_first c) e ∙ more_in_part (b == s) b c (cut s cs) (cut_not_nil s cs)

-- no number goes on with a `:`
colon_ends : (n : Number) → number_after n 58 ≡ Bad
colon_ends Empty = refl
colon_ends Plus = refl
colon_ends (Value v) = refl
colon_ends Big = refl
colon_ends Bad = refl

-- the field as one number is read on
whole_more : (p : Part) (n m : Number) (b : ℕ) → whole_of (parts_at p (record { first = n; second = m; part = p }) b) ≡ number_after (whole_at p n) b
whole_more part.First n m b = go (b == 58) refl where
  go : (t : Bool) → (b == 58) ≡ t → whole_of (cond t (record { first = n; second = m; part = part.Second }) (record { first = number_after n b; second = m; part = part.First })) ≡ number_after n b
  go true e = sym (subst (λ (c : ℕ). number_after n c ≡ Bad) (sym (eqb-true b 58 e)) (colon_ends n))
  go false e = refl
whole_more part.Second n m b = go (b == 58) where
  go : (t : Bool) → whole_of (cond t (record { first = n; second = m; part = part.Later }) (record { first = n; second = number_after m b; part = part.Second })) ≡ Bad
  go true = refl
  go false = refl
whole_more part.Later n m b = refl

-- the parts are read on
parts_more : (f : Field) (parts : List (List ℕ)) (b : ℕ) → ReadsParts f parts → ReadsParts (parts_at f.part f b) (part_more (b == 58) b parts)
parts_more f [] b r = absurd r
parts_more f (x ∷ []) b r = subst (λ (p : Part). ReadsParts (parts_at p f b) (part_more (b == 58) b (x ∷ []))) (sym r.0) (go (b == 58)) where
  go : (t : Bool) → ReadsParts (cond t (record f { part = part.Second }) (record f { first = number_after f.first b })) (part_more t b (x ∷ []))
  go true = (refl, r.1, rw r.2)
  go false = (r.0, tracks_more x f.first b r.1, r.2)
parts_more f (x ∷ y ∷ []) b r = subst (λ (p : Part). ReadsParts (parts_at p f b) (part_more (b == 58) b (x ∷ y ∷ []))) (sym r.0) (go (b == 58)) where
  go : (t : Bool) → ReadsParts (cond t (record f { part = part.Later }) (record f { second = number_after f.second b })) (part_more t b (x ∷ y ∷ []))
  go true = (refl, r.1, r.2)
  go false = (r.0, r.1, tracks_more y f.second b r.2)
parts_more f (x ∷ y ∷ z ∷ zs) b r = subst (λ (p : Part). ReadsParts (parts_at p f b) (part_more (b == 58) b (x ∷ y ∷ z ∷ zs))) (sym r.0) (go (b == 58) zs) where
  go : (t : Bool) (zs : List (List ℕ)) → ReadsParts f (part_more t b (x ∷ y ∷ z ∷ zs))
  go true zs = r
  go false [] = r
  go false (w ∷ ws) = r

-- a field is read on
field_more : (f : Field) (text : List ℕ) (b : ℕ) → ReadsField f text → ReadsField (field_after f b) (text ++ b ∷ [])
field_more f text b r = (
  subst (Tracks (text ++ b ∷ [])) (sym (whole_more f.part f.first f.second b)) (tracks_more text (whole_of f) b r.0),
  subst (ReadsParts (parts_at f.part f b)) (sym (cut_more 58 text b)) (parts_more f (cut (byte ":") text) b r.1),
)

pub empty_reads : ReadsField empty_field []
empty_reads = (refl, (refl, refl, refl))

empty_reads_at : (f : Field) → f ≡ empty_field → ReadsField f []
empty_reads_at f e = subst (λ (g : Field). ReadsField g []) (sym e) empty_reads

-- the fields are read on
fields_more : (f : Fields) (fields : List (List ℕ)) (b : ℕ) → ReadsFields f fields → ReadsFields (fields_after f b) (part_more (b == 59) b fields)
fields_more f [] b r = absurd r
fields_more f (x ∷ []) b r = subst (λ (p : Place). ReadsFields (fields_at p f b) (part_more (b == 59) b (x ∷ []))) (sym r.0) (go (b == 59)) where
  go : (t : Bool) → ReadsFields (cond t (record f { place = place.Second }) (record f { first = field_after f.first b })) (part_more t b (x ∷ []))
  go true = (refl, r.1, empty_reads_at f.second r.2, r.3)
  go false = (r.0, field_more f.first x b r.1, r.2, r.3)
fields_more f (x ∷ y ∷ []) b r = subst (λ (p : Place). ReadsFields (fields_at p f b) (part_more (b == 59) b (x ∷ y ∷ []))) (sym r.0) (go (b == 59)) where
  go : (t : Bool) → ReadsFields (cond t (record f { place = place.Third }) (record f { second = field_after f.second b })) (part_more t b (x ∷ y ∷ []))
  go true = (refl, r.1, r.2, rw r.3)
  go false = (r.0, r.1, field_more f.second y b r.2, r.3)
fields_more f (x ∷ y ∷ z ∷ []) b r = subst (λ (p : Place). ReadsFields (fields_at p f b) (part_more (b == 59) b (x ∷ y ∷ z ∷ []))) (sym r.0) (go (b == 59)) where
  go : (t : Bool) → ReadsFields (cond t (record f { place = place.Later }) (record f { third = number_after f.third b })) (part_more t b (x ∷ y ∷ z ∷ []))
  go true = (refl, r.1, r.2, r.3)
  go false = (r.0, r.1, r.2, tracks_more z f.third b r.3)
fields_more f (x ∷ y ∷ z ∷ w ∷ ws) b r = subst (λ (p : Place). ReadsFields (fields_at p f b) (part_more (b == 59) b (x ∷ y ∷ z ∷ w ∷ ws))) (sym r.0) (go (b == 59) ws) where
  go : (t : Bool) (ws : List (List ℕ)) → ReadsFields f (part_more t b (x ∷ y ∷ z ∷ w ∷ ws))
  go true ws = r
  go false [] = r
  go false (v ∷ vs) = r

-- One more byte of a text.
pub text_more : (f : Fields) (text : List ℕ) (b : ℕ) → ReadsFields f (cut (byte ";") text) → ReadsFields (fields_after f b) (cut (byte ";") (text ++ b ∷ []))
text_more f text b r = subst (ReadsFields (fields_after f b)) (sym (cut_more 59 text b)) (fields_more f (cut (byte ";") text) b r)

abbrev parts_number : ℕ → List (List ℕ) → Option ℕ
parts_number j parts = option_and_then number (nth j parts)

first_part : (f : Field) (parts : List (List ℕ)) → ReadsParts f parts → reading f.first ≡ parts_number 0 parts
first_part f [] r = absurd r
first_part f (x ∷ []) r = tracks_reading x f.first r.1
first_part f (x ∷ y ∷ []) r = tracks_reading x f.first r.1
first_part f (x ∷ y ∷ z ∷ zs) r = tracks_reading x f.first r.1

second_part : (f : Field) (parts : List (List ℕ)) → ReadsParts f parts → reading f.second ≡ parts_number 1 parts
second_part f [] r = absurd r
second_part f (x ∷ []) r = rw r.2 refl
second_part f (x ∷ y ∷ []) r = tracks_reading y f.second r.2
second_part f (x ∷ y ∷ z ∷ zs) r = tracks_reading y f.second r.2

abbrev pub in_fields : ℕ → List (List ℕ) → Option ℕ
in_fields k fields = option_and_then number (nth k fields)

abbrev pub in_parts : ℕ → ℕ → List (List ℕ) → Option ℕ
in_parts k j fields = option_and_then (λ field. option_and_then number (nth j (cut (byte ":") field))) (nth k fields)

-- what three fields read is what is in the text
pub record Numbers (f : Fields) (fields : List (List ℕ)) : Type 0 where
  pub first : reading (whole_of f.first) ≡ in_fields 0 fields
  pub second : reading (whole_of f.second) ≡ in_fields 1 fields
  pub third : reading f.third ≡ in_fields 2 fields
  pub code : reading f.first.first ≡ in_parts 0 0 fields
  pub alternate : reading f.first.second ≡ in_parts 0 1 fields
  pub mask : reading f.second.first ≡ in_parts 1 0 fields
  pub kind : reading f.second.second ≡ in_parts 1 1 fields

-- what was read of three fields, whatever comes after them
of_three : (f : Fields) (x y z : List ℕ) (more : List (List ℕ)) → ReadsField f.first x → ReadsField f.second y → Tracks z f.third → Numbers f (x ∷ y ∷ z ∷ more)
of_three f x y z more first second third = record {
  first = tracks_reading x (whole_of f.first) first.0;
  second = tracks_reading y (whole_of f.second) second.0;
  third = tracks_reading z f.third third;
  code = first_part f.first (cut (byte ":") x) first.1;
  alternate = second_part f.first (cut (byte ":") x) first.1;
  mask = first_part f.second (cut (byte ":") y) second.1;
  kind = second_part f.second (cut (byte ":") y) second.1;
}

-- What was read of a text is what is in it.
pub numbers_of : (f : Fields) (fields : List (List ℕ)) → ReadsFields f fields → Numbers f fields
numbers_of f [] r = absurd r
numbers_of f (x ∷ []) r = record {
  first = tracks_reading x (whole_of f.first) r.1.0;
  second = rw r.2 refl;
  third = rw r.3 refl;
  code = first_part f.first (cut (byte ":") x) r.1.1;
  alternate = second_part f.first (cut (byte ":") x) r.1.1;
  mask = rw r.2 refl;
  kind = rw r.2 refl;
}
numbers_of f (x ∷ y ∷ []) r = record {
  first = tracks_reading x (whole_of f.first) r.1.0;
  second = tracks_reading y (whole_of f.second) r.2.0;
  third = rw r.3 refl;
  code = first_part f.first (cut (byte ":") x) r.1.1;
  alternate = second_part f.first (cut (byte ":") x) r.1.1;
  mask = first_part f.second (cut (byte ":") y) r.2.1;
  kind = second_part f.second (cut (byte ":") y) r.2.1;
}
numbers_of f (x ∷ y ∷ z ∷ []) r = of_three f x y z [] r.1 r.2 r.3
numbers_of f (x ∷ y ∷ z ∷ w ∷ ws) r = of_three f x y z (w ∷ ws) r.1 r.2 r.3
