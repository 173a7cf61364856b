-- Bytes, as a parser takes them.
use Rattle.std.specs.Prelude.{◌≡◌, ◌≢◌, ◌⊎◌, ◌≤◌, ◌<◌, ◌==◌, ◌&&◌, not, Bool, true, false, ℕ, ◌+◌, ◌*◌, get_or, length, List, ◌++◌, ◌∷◌, [], map, take}
use Rattle.std.specs.List.{AllByRecursion}
use Rattle.crossterm_types.specs.Seen.{Seen}
use Rattle.crossterm_parse.specs.Bytes.{ESC}
use Rattle.crossterm_parse.specs.Transitions.{events_left, state_after, state_left, text_left}
use Rattle.crossterm_parse.specs.States.{is_paste}
use Rattle.crossterm_parse.specs.Marked.{marked}
use Rattle.crossterm_parse.specs.Meaning.{seen_meaning}
use Rattle.crossterm_parse.specs.declared.meaning.Meaning.{Meaning}
use Rattle.crossterm_parse.specs.declared.state.State.{State}
use Rattle.crossterm_parse.specs.declared.state.State.TheVariants.{Ground}
use Rattle.crossterm_parse.specs.View.{AdvancesOver, ParserView}

-- A byte was put in: the state, the text of an open paste and the waiting events follow from the state before it.
abbrev pub PutsByte : ParserView → ParserView → ℕ → Bool → Bool → Type 0
PutsByte old new byte raw pause = (new.state ≡ state_left (state_after old.state byte raw pause))
    × (new.text ≡ text_left (state_after old.state byte raw pause) old.state old.text byte)
    × (new.waiting ≡ old.waiting ++ events_left (state_after old.state byte raw pause) old.text)

-- Events, state and text are as they were, and no room was lost.
abbrev pub StaysAsItWas : ParserView → ParserView → Type 0
StaysAsItWas old new = (new.waiting ≡ old.waiting) × (new.state ≡ old.state) × (new.text ≡ old.text) × (old.room ≤ new.room)

-- The bytes were put in one after another, with one result whatever the mode and the pauses.
abbrev pub PutsAll : ParserView → ParserView → List ℕ → Type 0
PutsAll old new [] = (new.state ≡ old.state) × (new.text ≡ old.text) × (new.waiting ≡ old.waiting)
PutsAll old new (b ∷ bs) = (mid : ParserView) × ((raw pause : Bool) → PutsByte old mid b raw pause) × PutsAll mid new bs

-- The bytes were put in one after another in one mode. A pause behind the last one changes nothing.
abbrev pub PutsOn : Bool → ParserView → ParserView → List ℕ → Type 0
PutsOn raw old new [] = (new.state ≡ old.state) × (new.text ≡ old.text) × (new.waiting ≡ old.waiting)
PutsOn raw old new (b ∷ bs) = (mid : ParserView) × ((pause : Bool) → (pause ≡ true → length bs ≡ 0) → PutsByte old mid b raw pause) × PutsOn raw mid new bs

-- One event was given, and the parser is in the ground state.
abbrev pub Gives : ParserView → ParserView → Meaning → Type 0
Gives old new m = (new.state ≡ Ground) × (new.text ≡ old.text) × (new.waiting ≡ old.waiting ++ seen_meaning m ∷ [])

-- A parser in this state with these events waiting, no text of a paste, and no room.
abbrev pub bare : State → List Seen → ParserView
bare state waiting = record { waiting = waiting; state = state; text = []; typed = 0; room = 0 }

-- A change of state, by which an outlet was given the meanings that a parser would have given, whatever waits there.
abbrev pub Through : {O : Type 0} → (O → List Meaning → O → Type 0) → (ParserView → ParserView → Type 0) → State → State → O → O → Type 0
Through given does old new before after =
    (meanings : List Meaning) × given before meanings after × ((waiting : List Seen) → does (bare old waiting) (bare new (waiting ++ map seen_meaning meanings)))

-- Some bytes in front were put in, one step each. Each took room for one event at most.
pub record TakesFront (had left : ℕ) (bytes : List ℕ) (count before after : ℕ) : Type 0 where
  pub within : count ≤ length bytes
  pub room : had ≤ left + count
  pub steps : after ≡ before + count

-- Bytes in front were taken: all, or up to a paste's start or end, or up to one that memory was refused for.
pub record TakesPart (old new : ParserView) (piece : List ℕ) (more raw : Bool) (count before after : ℕ) : Type 0 where
  pub within : count ≤ length piece
  -- The parser follows the division over the bytes taken.
  pub divided : AdvancesOver old new (take count (marked piece more raw))
  -- Each byte took room for one event at most.
  pub room : old.room ≤ new.room + count
  -- Each byte took a step at least.
  pub counted : before + count ≤ after
  -- With the paste's text, the steps grew by two a byte at most, if all bytes were taken or a paste began or ended.
  pub steps : (count ≡ length piece) ⊎ (is_paste new.state ≢ is_paste old.state) → after + length new.text ≤ before + length old.text + 2 * count
  -- A paste begins or ends only by a byte.
  pub turns : is_paste new.state ≢ is_paste old.state → 0 < count
  -- Outside a paste, bytes are left only if no room is left.
  pub full : count < length piece → is_paste old.state ≡ false → is_paste new.state ≡ false → new.room ≡ 0
  -- Outside a paste, the first byte that is left ends an event.
  pub ends : count < length piece → is_paste old.state ≡ false → is_paste new.state ≡ false → (text : List ℕ)
      → events_left (state_after new.state (get_or piece count 0) raw (not more && (count + 1 == length piece))) text ≢ []

-- Some bytes in front joined the text; none of them is ESC.
pub record JoinsBeforeEscape (old new bytes : List ℕ) (count : ℕ) : Type 0 where
  pub within : count ≤ length bytes
  pub none : AllByRecursion (λ b. b == ESC ≡ false) (take count bytes)
  pub joined : new ≡ old ++ take count bytes

-- Some bytes in front are one whole sequence with this meaning, if no sequence is open, whatever follows them.
pub record GivesInFront (bytes : List ℕ) (raw : Bool) (meaning : Meaning) (count : ℕ) : Type 0 where
  pub some : 0 < count
  pub within : count ≤ length bytes
  pub puts : (waiting : List Seen) → PutsOn raw (bare Ground waiting) (bare Ground (waiting ++ seen_meaning meaning ∷ [])) (take count bytes)
