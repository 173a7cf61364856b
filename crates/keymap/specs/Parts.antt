-- What makes a cut the only one: the parts of the keys.
use Rattle.std.specs.Prelude.{◌≡◌, ◌<◌, ◌≤◌, ℕ, true, false, List, [], ◌∷◌, ◌++◌, length, map, Some}
use Rattle.std.specs.List.{flat_map, slice_get}
use Rattle.crossterm_types.specs.declared.event.key.KeyEvent.{KeyEvent}
use Rattle.keymap.specs.Chords.{Bound, is_front}
use Rattle.keymap.specs.Cut.{cut_keys}
use Rattle.keymap.specs.Outcomes.{SeenOutcome, Action, Key, Event}

-- Some keys side by side, and their outcome.
pub record Part : Type 0 where
  pub keys : List KeyEvent
  pub outcome : SeenOutcome

-- The keys of all parts, in order.
abbrev pub keys_of_parts : List Part → List KeyEvent
keys_of_parts parts = flat_map (λ part. part.keys) parts

-- The list with this number has `count` chords, and the keys begin with it. No such list is longer, and none before
-- it is as long.
pub record IsLongest (bound : Bound) (keys : List KeyEvent) (number count : ℕ) : Type 0 where
  pub chords : List KeyEvent
  pub is_bound : slice_get bound number ≡ Some chords
  pub counts : count ≡ length chords
  pub begins : is_front chords keys ≡ true
  pub none_longer : (i : ℕ) (other : List KeyEvent) → slice_get bound i ≡ Some other → is_front other keys ≡ true → length other ≤ count
  pub is_first : (i : ℕ) (other : List KeyEvent) → slice_get bound i ≡ Some other → is_front other keys ≡ true → i < number → length other < count

-- The keys begin with no bound list.
abbrev pub IsUnbound : Bound → List KeyEvent → Type 0
IsUnbound bound keys = (i : ℕ) (chords : List KeyEvent) → slice_get bound i ≡ Some chords → is_front chords keys ≡ false

-- Whether an outcome is the right one for a part of the keys and the keys that follow.
-- An action is right if its list is the longest that all the keys begin with, and as long as the part.
-- A key is right if it is the part, and all the keys begin with no bound list. An event is never right.
abbrev pub IsOutcomeOf : Bound → SeenOutcome → List KeyEvent → List KeyEvent → Type 0
IsOutcomeOf bound (Action number) part rest = IsLongest bound (part ++ rest) number (length part)
IsOutcomeOf bound (Key key) part rest = (part ≡ key ∷ []) × IsUnbound bound (part ++ rest)
IsOutcomeOf bound (Event _) part rest = ⊥

-- Each part has the right outcome, given the parts that follow.
abbrev pub AreRight : Bound → List Part → Type 0
AreRight bound [] = Unit {0}
AreRight bound (part ∷ parts) = IsOutcomeOf bound part.outcome part.keys (keys_of_parts parts) × AreRight bound parts

-- The keys are cut into these outcomes: they are joined parts, each with its right outcome.
pub record IsCutInto (bound : Bound) (keys : List KeyEvent) (outcomes : List SeenOutcome) : Type 0 where
  pub parts : List Part
  pub keys_are : keys ≡ keys_of_parts parts
  pub outcomes_are : outcomes ≡ map (λ part. part.outcome) parts
  pub right : AreRight bound parts

-- The keys are cut into their cut, and into nothing else.
pub record IsOnlyCut (bound : Bound) (keys : List KeyEvent) : Type 0 where
  pub is_cut : IsCutInto bound keys (cut_keys bound keys)
  pub is_only : (outcomes : List SeenOutcome) → IsCutInto bound keys outcomes → outcomes ≡ cut_keys bound keys
