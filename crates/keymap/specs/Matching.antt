-- A matcher, and what it is fed.
use Rattle.std.specs.Prelude.{◌≡◌, ◌<◌, ◌+◌, ℕ, Bool, if◌then◌else◌, nat_le, max, List, [], ◌∷◌, ◌++◌, Option, Some, None, length}
use Rattle.crossterm_types.specs.declared.event.key.KeyEvent.{KeyEvent}
use Rattle.keymap.specs.Bindings.{Binding, bound_of}
use Rattle.keymap.specs.Cut.{cut_keys, given, left}
use Rattle.keymap.specs.Outcomes.{SeenOutcome}

-- What a matcher matches with, and what it has read.
pub record Matching : Type 0 where
  -- The bindings.
  pub keymap : List Binding
  -- Whether it passes releases and modifier keys on.
  pub passes : Bool
  -- The keys that are undecided.
  pub undecided : List KeyEvent
  -- The outcomes that wait to be taken.
  pub waiting : List SeenOutcome

-- The matcher keeps exactly those of the keys that are left from the first undecided place on.
abbrev pub MatcherRepresents : Matching → List KeyEvent → Type 0
MatcherRepresents m keys = m.undecided ≡ left (bound_of m.keymap) keys

-- A matcher that had been fed these keys was fed one more.
pub record GivesOn (m : Matching) (keys : List KeyEvent) (key : KeyEvent) (n : Matching) : Type 0 where
  pub more : List SeenOutcome
  -- New outcomes wait, behind those before.
  pub waiting : n.waiting ≡ m.waiting ++ more
  -- The new outcomes are what is given of all keys and wasn't given of the former ones.
  pub grows : given (bound_of m.keymap) (keys ++ key ∷ []) ≡ given (bound_of m.keymap) keys ++ more
  -- The matcher keeps the undecided ones of all keys.
  pub represents : MatcherRepresents n (keys ++ key ∷ [])

-- The matcher was fed one more key, whatever keys it had been fed. Fewer than eight keys are undecided then.
pub record IsFed (m : Matching) (key : KeyEvent) (n : Matching) : Type 0 where
  pub keymap : n.keymap ≡ m.keymap
  pub passes : n.passes ≡ m.passes
  pub gives : (keys : List KeyEvent) → MatcherRepresents m keys → GivesOn m keys key n
  pub few : length n.undecided < 8

-- A matcher that had been fed these keys was flushed.
pub record GivesAll (m : Matching) (keys : List KeyEvent) (n : Matching) : Type 0 where
  pub more : List SeenOutcome
  -- New outcomes wait, behind those before.
  pub waiting : n.waiting ≡ m.waiting ++ more
  -- The new outcomes are what the cut of the keys has and wasn't given before.
  pub grows : cut_keys (bound_of m.keymap) keys ≡ given (bound_of m.keymap) keys ++ more
  -- The matcher keeps no keys.
  pub represents : MatcherRepresents n []

-- The matcher was flushed, whatever keys it had been fed.
pub record IsFlushed (m n : Matching) : Type 0 where
  pub keymap : n.keymap ≡ m.keymap
  pub passes : n.passes ≡ m.passes
  pub gives : (keys : List KeyEvent) → MatcherRepresents m keys → GivesAll m keys n

-- The first outcome that waits is taken, or none if none waits, and nothing else changes.
abbrev pub TakesOutcome : Matching → Option SeenOutcome → Matching → Type 0
TakesOutcome m None n = (m.waiting ≡ []) × (n ≡ m)
TakesOutcome m (Some x) n = (m.waiting ≡ x ∷ n.waiting) × (n ≡ record m { waiting = n.waiting })

-- A matcher as its callers see it: what it matches, and for how many more outcomes it has room without memory.
pub record MatcherState : Type 0 where
  pub matching : Matching
  pub room : ℕ

-- How many outcomes a matcher holds at most without memory: those that wait, and those for which it has room.
abbrev pub outcome_capacity : MatcherState → ℕ
outcome_capacity m = length m.matching.waiting + m.room

-- The room after room for `count` more outcomes is asked for: unchanged if it is enough, otherwise 16 or `waiting`,
-- whichever is more.
abbrev pub room_made : ℕ → ℕ → ℕ → ℕ
room_made count room waiting = if nat_le count room then room else max 16 waiting

-- The matcher after room for `count` more outcomes was asked for.
abbrev pub with_room : ℕ → MatcherState → MatcherState
with_room count m = record m { room = room_made count m.room (length m.matching.waiting) }
