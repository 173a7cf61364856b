-- The events that a parser has not yet given.
use Rattle.std.specs.Prelude.{◌≡◌, ◌==◌, ◌&&◌, ◌-◌, not, if◌then◌else◌, ℕ, List, [], ◌++◌, map}
use Rattle.std.proofs.Common.{ap, sym, ◌∙◌, append_assoc}
use Rattle.std.proofs.lemmas.List.{append-nil, map-append}
use Rattle.crossterm_types.specs.Seen.{Seen}
use Rattle.crossterm_parse.specs.Meaning.{seen_meaning, typed}
use Rattle.crossterm_parse.specs.declared.meaning.Meaning.{Meaning}

-- The typed characters in a table, and for how many more it has room.
pub record TypedView : Type 0 where
  pub waiting : List ℕ
  pub room : ℕ

-- The event of a typed character.
abbrev pub typed_seen : ℕ → Seen
typed_seen c = seen_meaning (typed c)

-- For how many typed characters there is room: in the table, if it has any and no other event waits, and else as for other events.
abbrev pub typed_room : ℕ → ℕ → ℕ → ℕ
typed_room places waiting capacity = if (waiting == 0) && not (places == 0) then places else capacity - waiting

-- The events in order, how many of them are in the table, and for how many more there is room.
pub record QueueView : Type 0 where
  pub waiting : List Seen
  pub typed : ℕ
  pub room : ℕ
  pub typed_room : ℕ

-- These meanings came to the queue, in order.
abbrev pub Grew : QueueView → List Meaning → QueueView → Type 0
Grew old meanings new = new.waiting ≡ old.waiting ++ map seen_meaning meanings

pub grew_none : (q : QueueView) → Grew q [] q
grew_none q = sym (append-nil q.waiting)

pub grew_on : (q r s : QueueView) (ms ns : List Meaning) → Grew q ms r → Grew r ns s → Grew q (ms ++ ns) s
grew_on q r s ms ns first more =
    more ∙ ap (λ (xs : List Seen). xs ++ map seen_meaning ns) first ∙ append_assoc q.waiting (map seen_meaning ms) (map seen_meaning ns)
    ∙ ap (λ (xs : List Seen). q.waiting ++ xs) (sym (map-append seen_meaning ms ns))
