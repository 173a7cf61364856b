-- The table behind a keymap, which has a place for some keys.
use Rattle.std.specs.Prelude.{◌≡◌, ◌≤◌, ℕ, suc, zero, Bool, false, cond, List, [], ◌∷◌, ◌||◌, map, Option, Some, None}
use Rattle.std.specs.Cmp.Lexicographic.{pointwise}
use Rattle.std.specs.HashMap.{HashMap, get, spare}
use Rattle.std.specs.Option.{unwrap_or}
use Rattle.crossterm_types.specs.Compared.{key_eq}
use Rattle.crossterm_types.specs.declared.event.key.KeyEvent.{KeyEvent}
use Rattle.keymap.specs.Chords.{Bound, chord, goes_beyond, is_begun}
use Rattle.keymap.specs.Bindings.{are_same}
use Rattle.keymap.specs.declared.inside.Match.{Match}
use Rattle.keymap.specs.declared.inside.Place.{Place}

-- The number of the list that is bound to just these chords, or `None`. Numbers count from `n`.
abbrev pub number_from : ℕ → Bound → List KeyEvent → Option ℕ
number_from n [] keys = None
number_from n (chords ∷ bound) keys = cond (are_same chords keys) (Some n) (number_from (suc n) bound keys)

-- The number bound to just these keys, and whether a longer list begins with them.
abbrev pub place_of : Bound → List KeyEvent → Place
place_of bound keys = record { number = number_from 0 bound keys; begun = is_begun bound keys }

-- No list is bound to the keys, and none begins with them.
abbrev pub nowhere : Place
nowhere = record { number = None; begun = false }

-- Whether two lists of keys are equal as chords.
abbrev pub are_alike : List KeyEvent → List KeyEvent → Bool
are_alike a b = pointwise key_eq (map chord a) (map chord b)

-- The place of some keys in a table, or `nowhere` if the table has none.
abbrev pub place_at : {S : Type 0} → HashMap (List KeyEvent) Place S → List KeyEvent → Place
place_at places keys = unwrap_or (get (pointwise key_eq) places (map chord keys)) nowhere

-- A table has the right place for any keys.
abbrev pub HasPlaces : {S : Type 0} → Bound → HashMap (List KeyEvent) Place S → Type 0
HasPlaces bound places = (keys : List KeyEvent) → place_at places keys ≡ place_of bound keys

-- The place of some keys after a list is bound to a number: the number if they are its chords, and begun if it goes
-- beyond them.
abbrev pub with_list : List KeyEvent → ℕ → Place → List KeyEvent → Place
with_list chords number place keys = record {
  number = cond (are_alike chords keys) (Some number) place.number;
  begun = place.begun || goes_beyond chords keys;
}

-- In the table a list was bound to a number.
abbrev pub BindsAt : {S : Type 0} → List KeyEvent → ℕ → HashMap (List KeyEvent) Place S → HashMap (List KeyEvent) Place S → Type 0
BindsAt chords number old new = (keys : List KeyEvent) → place_at new keys ≡ with_list chords number (place_at old keys) keys

-- A match of the found number and this count, or the other match if no number was found.
abbrev pub found_or : Option ℕ → ℕ → Option Match → Option Match
found_or None count other = other
found_or (Some number) count other = Some (record { number = number; count = count })

-- The match with the greatest count from 1 to this one that has a number, or `None`.
abbrev pub deepest : (ℕ → Option ℕ) → ℕ → Option Match
deepest numbers zero = None
deepest numbers (suc count) = found_or (numbers (suc count)) (suc count) (deepest numbers count)

-- The table has the right place for any keys. There is no table before a list is bound.
abbrev pub HasPlacesOf : {S : Type 0} → Bound → Option (HashMap (List KeyEvent) Place S) → Type 0
HasPlacesOf bound None = bound ≡ []
HasPlacesOf bound (Some places) = HasPlaces bound places

-- There is a table, with room for `count` more places.
abbrev pub HasRoom : {S : Type 0} → ℕ → Option (HashMap (List KeyEvent) Place S) → Type 0
HasRoom count None = ⊥
HasRoom count (Some places) = count ≤ spare places
