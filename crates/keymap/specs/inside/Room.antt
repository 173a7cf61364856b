-- Room for outcomes.
use Rattle.std.specs.Prelude.{ℕ, ◌-◌, Bool, List}
use Rattle.std.specs.VecDeque.{deque_len, deque_capacity}
use Rattle.std.specs.declared.collections.VecDeque.{VecDeque}
use Rattle.crossterm_types.specs.declared.event.key.KeyEvent.{KeyEvent}
use Rattle.keymap.specs.Bindings.{Binding}
use Rattle.keymap.specs.Matching.{MatcherState}
use Rattle.keymap.specs.declared.outcome.Outcome.{Outcome}
use Rattle.keymap.specs.inside.Giving.{state_of}

-- For how many more outcomes there is room without memory.
abbrev pub room_in : {X A : Type 0} → VecDeque X A → ℕ
room_in outcomes = deque_capacity outcomes - deque_len outcomes

-- A matcher of these parts, with its room.
abbrev pub matcher_of : {A B : Type 0} → List Binding → Bool → List KeyEvent → VecDeque (Outcome A) B → MatcherState
matcher_of keymap passes keys outcomes = record { matching = state_of keymap passes keys outcomes.items; room = room_in outcomes }
