-- Room for outcomes, as a clause sees it.
use Rattle.std.proofs.Common.{◌≡◌, ℕ, ◌+◌, Bool, List, [], length, map, sym, ap, ◌∙◌, arith}
use Rattle.std.specs.VecDeque.{deque_len, deque_capacity}
use Rattle.std.specs.declared.collections.VecDeque.{VecDeque}
use Rattle.std.proofs.lemmas.List.{length-map}
use Rattle.crossterm_types.specs.declared.event.key.KeyEvent.{KeyEvent}
use Rattle.keymap.specs.Bindings.{Binding}
use Rattle.keymap.specs.Matching.{room_made, with_room}
use Rattle.keymap.specs.Outcomes.{outcome_seen}
use Rattle.keymap.specs.declared.outcome.Outcome.{Outcome}
use Rattle.keymap.specs.inside.Room.{room_in, matcher_of}

module _ {A B : Type 0} where
  -- As many outcomes wait as a clause sees.
  pub count_is : (q : VecDeque (Outcome A) B) → deque_len q ≡ length (map outcome_seen q.items)
  count_is q = q.ok.0 ∙ sym (length-map q.items outcome_seen)

  -- Those that wait and the room are all that it holds.
  pub all_is : (q : VecDeque (Outcome A) B) → length (map outcome_seen q.items) + room_in q ≡ deque_capacity q
  all_is q = omega (arith, count_is q, q.small.1)

  -- What keeps its capacity holds as many.
  pub kept_is : (q r : VecDeque (Outcome A) B) → deque_capacity r ≡ deque_capacity q → length (map outcome_seen r.items) + room_in r ≡ length (map outcome_seen q.items) + room_in q
  kept_is q r kept = all_is r ∙ kept ∙ sym (all_is q)

  -- Room was made, and then as many were held.
  pub whole_is : (n : ℕ) (q r s : VecDeque (Outcome A) B) → r.items ≡ q.items → room_in r ≡ room_made n (room_in q) (deque_len q) → deque_capacity s ≡ deque_capacity r
      → length (map outcome_seen s.items) + room_in s ≡ length (map outcome_seen q.items) + room_made n (room_in q) (length (map outcome_seen q.items))
  whole_is n q r s same made kept =
      kept_is r s kept ∙ ap (λ items. length (map outcome_seen items) + room_in r) same ∙ ap (λ room. length (map outcome_seen q.items) + room) (made ∙ ap (room_made n (room_in q)) (count_is q))

  -- No outcome waited, and then room was made.
  pub record IsRoomy (n : ℕ) (q p r : VecDeque (Outcome A) B) : Type 0 where
    pub none : map outcome_seen q.items ≡ []
    pub none_still : map outcome_seen p.items ≡ []
    pub kept : deque_capacity p ≡ deque_capacity q
    pub items : r.items ≡ p.items
    pub made : room_in r ≡ room_made n (room_in p) (deque_len p)

  same_is : (n : ℕ) (q p r : VecDeque (Outcome A) B) → IsRoomy n q p r → map outcome_seen r.items ≡ map outcome_seen q.items
  same_is n q p r h = ap (map outcome_seen) h.items ∙ h.none_still ∙ sym h.none

  made_is : (n : ℕ) (q p r : VecDeque (Outcome A) B) → IsRoomy n q p r → room_in r ≡ room_made n (room_in q) (length (map outcome_seen q.items))
  made_is n q p r h =
      let count : deque_len p ≡ deque_len q = count_is p ∙ ap length (h.none_still ∙ sym h.none) ∙ sym (count_is q) in
      let room : room_in p ≡ room_in q = omega (arith, count, h.kept) in
      h.made ∙ ap (λ m. room_made n m (deque_len p)) room ∙ ap (room_made n (room_in q)) (count ∙ count_is q)

  -- The matcher has room, and is as it was but for that.
  pub roomy_is : (keymap : List Binding) (passes : Bool) (keys : List KeyEvent) (n : ℕ) (q p r : VecDeque (Outcome A) B) → IsRoomy n q p r
      → matcher_of keymap passes keys r ≡ with_room n (matcher_of keymap passes keys q)
  roomy_is keymap passes keys n q p r h = λ i. record {
    matching = record { keymap = keymap; passes = passes; undecided = keys; waiting = same_is n q p r h i };
    room = made_is n q p r h i;
  }

  pub whole_after : (n : ℕ) (q p r s : VecDeque (Outcome A) B) → IsRoomy n q p r → deque_capacity s ≡ deque_capacity r
      → length (map outcome_seen s.items) + room_in s ≡ length (map outcome_seen q.items) + room_made n (room_in q) (length (map outcome_seen q.items))
  whole_after n q p r s h kept = kept_is r s kept ∙ (λ i. length (same_is n q p r h i) + made_is n q p r h i)
