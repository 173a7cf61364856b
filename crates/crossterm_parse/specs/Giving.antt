-- The events of a parser, one after another.
use Rattle.std.specs.Prelude.{◌≡◌, ◌≤◌, ◌++◌, List, map, Option}
use Rattle.std.specs.Iterator.{Yields, YieldsFirstBy}
use Rattle.crossterm_types.specs.Seen.{Seen, seen}
use Rattle.crossterm_types.specs.declared.event.InternalEvent.{InternalEvent}
use Rattle.crossterm_parse.specs.View.{RepresentsSame, capacity}
use Rattle.crossterm_parse.specs.declared.parse.events.Events.{Events}

module _ {A : Type 0} where
  -- The events that aren't given yet.
  abbrev pub events_left_in : Events A → List Seen
  events_left_in events = events.parser.now.waiting

  -- An iterator over the same parser, which represents the same bytes. No memory is taken, and no room is lost.
  pub record KeepsParser (old new : Events A) : Type 0 where
    pub same : new.parser.ghost_name ≡ old.parser.ghost_name
    pub represents : RepresentsSame old.parser.now new.parser.now
    pub capacity : capacity new.parser.now ≡ capacity old.parser.now
    pub room : old.parser.now.room ≤ new.parser.now.room

  -- The first waiting event was given, if there is one, and nothing else changed.
  abbrev pub GivesWaiting : Events A → Option (InternalEvent A) → Events A → Type 0
  GivesWaiting old event new = YieldsFirstBy seen events_left_in old event new × KeepsParser old new

  -- Events that are given one after another are the first ones, in order, and nothing else changes.
  abbrev pub GivesInOrder : Events A → Type 0
  GivesInOrder old = (events : List (InternalEvent A)) (new : Events A) → Yields GivesWaiting old events new
      → (events_left_in old ≡ map seen events ++ events_left_in new) × KeepsParser old new
