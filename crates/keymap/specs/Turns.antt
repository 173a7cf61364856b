-- A matcher over any run of turns: events that it takes, flushes without an event, and outcomes that are taken.
use Rattle.std.specs.Prelude.{◌≡◌, Bool, List, [], ◌∷◌, ◌++◌, Some}
use Rattle.crossterm_types.specs.Seen.{Seen}
use Rattle.keymap.specs.Bindings.{bound_of}
use Rattle.keymap.specs.Matching.{Matching, IsFlushed, TakesOutcome}
use Rattle.keymap.specs.Runs.{MatcherCall, Fed, Flushed, outcomes}
use Rattle.keymap.specs.Taking.{TakesEvent, way_of}
use Rattle.keymap.specs.Outcomes.{SeenOutcome, Action, Key, Event}
use Rattle.keymap.specs.declared.inside.Way.{Way}
use Rattle.keymap.specs.declared.inside.Way.TheVariants.{Feed, Pass, Follow}

-- A part of a step.
pub data StepPart : Type 0 where
  -- An event came and was taken.
  Came : Seen → StepPart
  -- No event came, and the matcher was flushed.
  Rested : StepPart
  -- An outcome was given.
  Gave : SeenOutcome → StepPart

-- A turn changes a matcher into another.
abbrev pub TakesTurn : Matching → StepPart → Matching → Type 0
TakesTurn m (Came x) n = TakesEvent m x n
TakesTurn m Rested n = IsFlushed m n
TakesTurn m (Gave x) n = TakesOutcome m (Some x) n

-- Turns, one after another, change a matcher into another.
abbrev pub TakesTurns : Matching → List StepPart → Matching → Type 0
TakesTurns m [] n = n ≡ m
TakesTurns m (turn ∷ turns) n = (u : Matching) × TakesTurn m turn u × TakesTurns u turns n

-- The outcomes that were given.
abbrev pub given_outcomes : List StepPart → List SeenOutcome
given_outcomes [] = []
given_outcomes (Came x ∷ turns) = given_outcomes turns
given_outcomes (Rested ∷ turns) = given_outcomes turns
given_outcomes (Gave x ∷ turns) = x ∷ given_outcomes turns

-- What an event counts for the keys: a key that is fed, nothing if it is passed on, or a flush.
abbrev pub act_by : Way → List MatcherCall
act_by (Feed key) = Fed key ∷ []
act_by Pass = []
act_by Follow = Flushed ∷ []

-- What turns count for the keys: each key that is fed, and each flush.
abbrev pub key_calls : Bool → List StepPart → List MatcherCall
key_calls passes [] = []
key_calls passes (Came x ∷ turns) = act_by (way_of passes x) ++ key_calls passes turns
key_calls passes (Rested ∷ turns) = Flushed ∷ key_calls passes turns
key_calls passes (Gave x ∷ turns) = key_calls passes turns

-- The event, unless it is fed.
abbrev pub unfed_by : Way → Seen → List Seen
unfed_by (Feed key) x = []
unfed_by Pass x = x ∷ []
unfed_by Follow x = x ∷ []

-- The events that aren't fed, in order.
abbrev pub unfed : Bool → List StepPart → List Seen
unfed passes [] = []
unfed passes (Came x ∷ turns) = unfed_by (way_of passes x) x ++ unfed passes turns
unfed passes (Rested ∷ turns) = unfed passes turns
unfed passes (Gave x ∷ turns) = unfed passes turns

-- The outcomes that are actions or keys, in order.
abbrev pub of_keys : List SeenOutcome → List SeenOutcome
of_keys [] = []
of_keys (Action number ∷ outcomes) = Action number ∷ of_keys outcomes
of_keys (Key key ∷ outcomes) = Key key ∷ of_keys outcomes
of_keys (Event x ∷ outcomes) = of_keys outcomes

-- The outcomes that are other events, in order.
abbrev pub events : List SeenOutcome → List Seen
events [] = []
events (Action number ∷ outcomes) = events outcomes
events (Key key ∷ outcomes) = events outcomes
events (Event x ∷ outcomes) = x ∷ events outcomes

-- What is known of the outcomes that were given, followed by those that wait.
pub record AreReported (m : Matching) (turns : List StepPart) (n : Matching) : Type 0 where
  -- The actions and keys among them are all outcomes of the keys that were fed and the flushes.
  pub keys : of_keys (given_outcomes turns ++ n.waiting) ≡ outcomes (bound_of m.keymap) [] (key_calls m.passes turns)
  -- The events among them are those that weren't fed, each once, in the order in which they came.
  pub others : events (given_outcomes turns ++ n.waiting) ≡ unfed m.passes turns

-- Over any turns of a new matcher, the outcomes given and waiting are those of the fed keys, and the events that
-- weren't fed.
abbrev pub TurnsGiveOutcomes : Type 0
TurnsGiveOutcomes = (m n : Matching) (turns : List StepPart) → m.undecided ≡ [] → m.waiting ≡ [] → TakesTurns m turns n → AreReported m turns n
