-- A table that is filled with events.
use Rattle.std.specs.Prelude.{◌≡◌, ◌≤◌, ◌+◌, ℕ, true, false, if◌then◌else◌, List, [], ◌∷◌, ◌++◌, length, map, take}
use Rattle.std.proofs.Common.{refl, ap, sym, ◌∙◌, arith, append_assoc}
use Rattle.std.proofs.lemmas.List.{append-nil, length-append, map-append}
use Rattle.crossterm_parse.specs.Meaning.{seen_meaning}
use Rattle.crossterm_parse.specs.declared.marked.Marked.{Marked}
use Rattle.crossterm_parse.specs.declared.meaning.Meaning.{Meaning}
use Rattle.crossterm_parse.specs.declared.state.State.{State}
use Rattle.crossterm_read.specs.Store.{next_number}
use Rattle.numbers.specs.Event.{event_at}
use Rattle.crossterm_c.specs.Feeding.{Feeds}
use Rattle.crossterm_c.specs.Held.{next_arrival, held_from}
use Rattle.numbers.specs.declared.event.GelvanhEvent.{GelvanhEvent}
use Rattle.crossterm_c.specs.declared.held.GelvanhHeld.{GelvanhHeld}
use Rattle.crossterm_c.specs.declared.table.Table.{Table}

-- How many places a table has.
abbrev pub table_capacity : Table → ℕ
table_capacity t = if t.is_held then length t.held.now else length t.events.now

-- These events were put behind the filled places of a table, with their numbers if they are held.
pub record PutsEvents (old : Table) (given : List GelvanhEvent) (new : Table) : Type 0 where
  pub same : (new.events.ghost_name ≡ old.events.ghost_name) × (new.held.ghost_name ≡ old.held.ghost_name) × (new.is_held ≡ old.is_held)
  pub places : table_capacity new ≡ table_capacity old
  pub within : old.end ≤ table_capacity old → new.end ≤ table_capacity new
  pub count : new.end ≡ old.end + length given
  pub events : old.is_held ≡ false → take new.end new.events.now ≡ take old.end old.events.now ++ given
  pub held : old.is_held ≡ true → take new.end new.held.now ≡ take old.end old.held.now ++ held_from old.number given
  pub number : old.is_held ≡ true → new.number ≡ next_arrival old.number given

-- The events that were put into the table have these meanings.
pub record Filled (old : Table) (meanings : List Meaning) (new : Table) : Type 0 where
  pub given : List GelvanhEvent
  pub means : (kept : List ℕ) → map (event_at kept) given ≡ map seen_meaning meanings
  pub puts : PutsEvents old given new

-- The events that were put into the table are those of these bytes.
pub record FillsBy (before after : State) (old new : Table) (bytes : List ℕ) (taken : List Marked) : Type 0 where
  pub given : List GelvanhEvent
  pub feeds : Feeds before after given bytes taken
  pub puts : PutsEvents old given new

number_after_append : (n : ℕ) (xs ys : List GelvanhEvent) → next_arrival n (xs ++ ys) ≡ next_arrival (next_arrival n xs) ys
number_after_append n [] ys = refl
number_after_append n (x ∷ xs) ys = number_after_append (next_number n) xs ys

numbered_append : (n : ℕ) (xs ys : List GelvanhEvent) → held_from n (xs ++ ys) ≡ held_from n xs ++ held_from (next_arrival n xs) ys
numbered_append n [] ys = refl
numbered_append n (x ∷ xs) ys = ap (λ (hs : List GelvanhHeld). record { event = x; arrival = n } ∷ hs) (numbered_append (next_number n) xs ys)

pub puts_none : (t : Table) → PutsEvents t [] t
puts_none t = record {
  same = (refl, refl, refl);
  places = refl;
  within = λ l. l;
  count = omega arith;
  events = λ _. sym (append-nil (take t.end t.events.now));
  held = λ _. sym (append-nil (take t.end t.held.now));
  number = λ _. refl;
}

pub puts_on : (s t u : Table) (xs ys : List GelvanhEvent) → PutsEvents s xs t → PutsEvents t ys u → PutsEvents s (xs ++ ys) u
puts_on s t u xs ys first more = record {
  same = (more.same.0 ∙ first.same.0, more.same.1 ∙ first.same.1, more.same.2 ∙ first.same.2);
  places = more.places ∙ first.places;
  within = λ l. more.within (first.within l);
  count = omega (arith, first.count, more.count, length-append xs ys);
  events = λ bare. more.events (first.same.2 ∙ bare) ∙ ap (λ (es : List GelvanhEvent). es ++ ys) (first.events bare) ∙ append_assoc (take s.end s.events.now) xs ys;
  held = λ is.
      let front = take s.end s.held.now in
      more.held (first.same.2 ∙ is) ∙ ap (λ (hs : List GelvanhHeld). hs ++ held_from t.number ys) (first.held is) ∙ append_assoc front (held_from s.number xs) (held_from t.number ys)
      ∙ ap (λ (n : ℕ). front ++ (held_from s.number xs ++ held_from n ys)) (first.number is) ∙ ap (λ (hs : List GelvanhHeld). front ++ hs) (sym (numbered_append s.number xs ys));
  number = λ is. more.number (first.same.2 ∙ is) ∙ ap (λ (n : ℕ). next_arrival n ys) (first.number is) ∙ sym (number_after_append s.number xs ys);
}

pub filled_none : (t : Table) → Filled t [] t
filled_none t = record { given = []; means = λ kept. refl; puts = puts_none t }

pub filled_on : (s t u : Table) (xs ys : List Meaning) → Filled s xs t → Filled t ys u → Filled s (xs ++ ys) u
filled_on s t u xs ys first more = record {
  given = first.given ++ more.given;
  means = λ kept.
      map-append (event_at kept) first.given more.given ∙ ap (λ es. es ++ map (event_at kept) more.given) (first.means kept) ∙ ap (λ es. map seen_meaning xs ++ es) (more.means kept)
      ∙ sym (map-append seen_meaning xs ys);
  puts = puts_on s t u first.given more.given first.puts more.puts;
}
