-- How the text of names grows by one name.
use Rattle.std.proofs.Common.{◌≡◌, ◌<◌, ◌+◌, ◌++◌, ◌∙◌, ℕ, List, [], ◌∷◌, length, map, take, true, false, refl, ap, sym, append_assoc}
use Rattle.std.proofs.lemmas.List.{append-nil, get_or_default, map-append, take_more}
use Rattle.std.proofs.lemmas.List.Elements.{filter-append}
use Rattle.std.specs.List.{filter, join_with_byte}
use Rattle.std.specs.Prelude.{◌==◌, get_or}
use Rattle.std.specs.Int.RustNames.{bit_and}
use Rattle.bitflags.specs.Sets.{Row}
use Rattle.bitflags.proofs.Tables.{row-at}
use Rattle.crossterm_flags.specs.Names.{names_in}

-- what is before the next name
abbrev pub separator_after : List (List ℕ) → List ℕ
separator_after [] = []
separator_after (name ∷ names) = 43 ∷ []

-- the names, and one more
join-more : (names : List (List ℕ)) (name : List ℕ) → join_with_byte 43 (names ++ name ∷ []) ≡ join_with_byte 43 names ++ (separator_after names ++ name)
join-more [] name = refl
join-more (x ∷ []) name = refl
join-more (x ∷ y ∷ names) name =
    ap (λ l. x ++ (43 ∷ l)) (join-more (y ∷ names) name) ∙ sym (append_assoc x (43 ∷ join_with_byte 43 (y ∷ names)) ((43 ∷ []) ++ name))

-- after a name comes `+`
separator-more : (names : List (List ℕ)) (name : List ℕ) → separator_after (names ++ name ∷ []) ≡ 43 ∷ []
separator-more [] name = refl
separator-more (x ∷ names) name = refl

module _ {X : Type 0} (view : X → Row) (flags : List X) (table : List Row) (place : ℕ) (other : X) (bits : ℕ)
    (rows : map view flags ≡ table) (lt : place < length flags) where
  -- the row of the flag at the place
  abbrev row : Row
  row = view (get_or flags place other)

  more : names_in (take (place + 1) table) bits ≡ names_in (take place table) bits ++ names_in (row ∷ []) bits
  more =
      let at = row-at view flags table place (get_or flags place other) rows lt (get_or_default flags place other (get_or flags place other) lt) in
      let test = λ (row : Row). bit_and bits row.1 == row.1 in
      rw (take_more table place row at.0, at.1, filter-append test (take place table) (row ∷ [])) (map-append (λ row. row.0) (filter test (take place table)) _)

  -- a name whose bit is not set
  pub names-same : (bit_and bits row.1 == row.1) ≡ false → names_in (take (place + 1) table) bits ≡ names_in (take place table) bits
  names-same is = rw is at more ∙ append-nil (names_in (take place table) bits)

  names-more : (bit_and bits row.1 == row.1) ≡ true → names_in (take (place + 1) table) bits ≡ names_in (take place table) bits ++ row.0 ∷ []
  names-more is = rw is at more

  -- a name whose bit is set: the text grows by it, after what is before it
  pub text-more : (separator : List ℕ) → separator ≡ separator_after (names_in (take place table) bits) → (bit_and bits row.1 == row.1) ≡ true
      → join_with_byte 43 (names_in (take place table) bits) ++ (separator ++ row.0) ≡ join_with_byte 43 (names_in (take (place + 1) table) bits)
  text-more separator before is =
      let names = names_in (take place table) bits in
      ap (λ s. join_with_byte 43 names ++ (s ++ row.0)) before ∙ sym (ap (join_with_byte 43) (names-more is) ∙ join-more names row.0)

  -- and `+` is before the next
  pub plus-after : (bit_and bits row.1 == row.1) ≡ true → separator_after (names_in (take (place + 1) table) bits) ≡ 43 ∷ []
  plus-after is = ap separator_after (names-more is) ∙ separator-more (names_in (take place table) bits) row.0
