-- Outcomes that are given place by place.
use Rattle.std.specs.Prelude.{◌≡◌, Bool, List, [], ◌∷◌, drop, map, Option, Some, None}
use Rattle.crossterm_types.specs.declared.event.key.KeyEvent.{KeyEvent}
use Rattle.keymap.specs.Chords.{Bound, longest}
use Rattle.keymap.specs.Cut.{outcome_of, more_of}
use Rattle.keymap.specs.Bindings.{Binding}
use Rattle.keymap.specs.Matching.{Matching}
use Rattle.keymap.specs.Outcomes.{SeenOutcome, outcome_seen}
use Rattle.keymap.specs.declared.outcome.Outcome.{Outcome}

-- The outcome at the first key, or none if there is no key.
abbrev pub first_outcomes : Bound → List KeyEvent → List SeenOutcome
first_outcomes bound [] = []
first_outcomes bound (k ∷ ks) = outcome_of k (longest bound (k ∷ ks)) ∷ []

-- The keys behind those of the first place.
abbrev pub after_first : Bound → List KeyEvent → List KeyEvent
after_first bound [] = []
after_first bound (k ∷ ks) = drop (more_of (longest bound (k ∷ ks))) ks

-- A matcher of these parts.
abbrev pub state_of : {A : Type 0} → List Binding → Bool → List KeyEvent → List (Outcome A) → Matching
state_of keymap passes keys outcomes = record { keymap = keymap; passes = passes; undecided = keys; waiting = map outcome_seen outcomes }

-- The first of the outcomes is taken, or none if there is none.
abbrev pub TakesFirstOf : List SeenOutcome → Option SeenOutcome → List SeenOutcome → Type 0
TakesFirstOf old None new = (old ≡ []) × (new ≡ [])
TakesFirstOf old (Some x) new = old ≡ x ∷ new
