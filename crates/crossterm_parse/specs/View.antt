-- A parser as its callers see it, and what it makes of bytes.
use Rattle.std.specs.Prelude.{◌≡◌, ◌≢◌, ◌⊎◌, ◌≤◌, ◌<◌, ℕ, ◌+◌, ◌-◌, ◌*◌, length, take, drop, option_to_list, sum, if◌then◌else◌, List, ◌++◌, ◌∷◌, [], Bool, false, Option, None, Some}
use Rattle.std.specs.List.{filter_map, flat_map, AllByRecursion}
use Rattle.crossterm_types.specs.Seen.{Seen}
use Rattle.crossterm_parse.specs.Grammar.{begins, Whole, paste_start}
use Rattle.crossterm_parse.specs.Division.{Divides, IsUndecided}
use Rattle.crossterm_parse.specs.States.{StateRepresents, kept_text}
use Rattle.crossterm_parse.specs.Marked.{Marked, bytes_of, marked}
use Rattle.crossterm_parse.specs.Meaning.{meaning_of}
use Rattle.crossterm_parse.specs.declared.state.State.{State}

-- A parser as its callers see it.
pub record ParserView : Type 0 where
  -- The events that aren't given yet.
  pub waiting : List Seen
  -- The state of the open sequence.
  pub state : State
  -- The text of an open paste.
  pub text : List ℕ
  -- How many of the events are typed characters in the parser's own table, in front of the others.
  pub typed : ℕ
  -- How many more events it can take without asking for memory.
  pub room : ℕ

-- For how many events memory was taken: those that wait outside the table, and those that there is room for.
abbrev pub capacity : ParserView → ℕ
capacity parser = length (drop parser.typed parser.waiting) + parser.room

-- The parser represents these bytes: its state does, and its text of a paste is theirs.
abbrev pub Represents : ParserView → List Marked → Type 0
Represents parser before = StateRepresents parser.state (bytes_of before) × (parser.text ≡ kept_text parser.state (bytes_of before))

-- The new parser represents all bytes that the old one represented.
abbrev pub RepresentsSame : ParserView → ParserView → Type 0
RepresentsSame old new = (before : List Marked) → Represents old before → Represents new before

-- The parser took more bytes behind those before. The waiting events grew by the meanings of the division's parts, and
-- it represents the rest.
pub record Advances (old new : ParserView) (before taken : List Marked) : Type 0 where
  pub parts : List (List Marked)
  pub rest : List Marked
  pub division : Divides Whole (before ++ taken) parts rest
  pub given : new.waiting ≡ old.waiting ++ filter_map meaning_of parts
  pub represents : Represents new rest

-- The parser took these bytes behind any undecided bytes that it represented.
abbrev pub AdvancesOver : ParserView → ParserView → List Marked → Type 0
AdvancesOver old new taken = (before : List Marked) → Represents old before → IsUndecided Whole before → Advances old new before taken

-- Behind some bytes that the parser represents, these end no event, and no paste is open after them.
abbrev pub EndsNoEvent : ParserView → List Marked → Type 0
EndsNoEvent parser taken = (before : List Marked) × (parts : List (List Marked)) × (rest : List Marked)
    × Represents parser before × IsUndecided Whole before × Divides Whole (before ++ taken) parts rest × (filter_map meaning_of parts ≡ [])
    × (begins paste_start (bytes_of rest) ≡ false)

-- Behind some bytes that the parser represents, these are of no paste, and open none.
abbrev pub OpensNoPaste : ParserView → List Marked → Type 0
OpensNoPaste parser taken = (before : List Marked) × (parts : List (List Marked)) × (rest : List Marked)
    × Represents parser before × IsUndecided Whole before × Divides Whole (before ++ taken) parts rest
    × AllByRecursion (λ part. begins paste_start (bytes_of part) ≡ false) parts × (begins paste_start (bytes_of rest) ≡ false)

-- The first event was taken out, if there is one, after some bytes in front of the piece were put in.
pub record TakesFirst (old new : ParserView) (piece : List ℕ) (more raw : Bool) (event : Option Seen) (count : ℕ) : Type 0 where
  pub within : count ≤ length piece
  -- The parser with these bytes, before the event was taken out.
  pub mid : ParserView
  pub divided : AdvancesOver old mid (take count (marked piece more raw))
  pub given : mid.waiting ≡ option_to_list event ++ new.waiting
  pub represents : RepresentsSame mid new
  -- If an event waited, no byte was put in.
  pub waits : old.waiting ≢ [] → count ≡ 0
  -- If no event came, none waits.
  pub none : event ≡ None → new.waiting ≡ []
  -- If nothing waited, a piece that ends no event is put in whole.
  pub quiet : old.waiting ≡ [] → EndsNoEvent old (marked piece more raw) → count ≡ length piece
  -- If nothing waited or no event came, the first byte that is left ends an event or is of a paste.
  pub stops : (event ≡ None) ⊎ (old.waiting ≡ []) → count < length piece → ¬ EndsNoEvent mid (take 1 (drop count (marked piece more raw)))
  -- If no event came, a byte outside a paste is left only if there is no room.
  pub full : event ≡ None → count < length piece → OpensNoPaste mid (take 1 (drop count (marked piece more raw))) → new.room ≡ 0
  -- Each byte took room for one event at most.
  pub room : old.room ≤ new.room + count

-- The length of the text of the paste that some undecided bytes open; 0 if they open none.
abbrev pub paste_length : List ℕ → ℕ
paste_length bytes = if begins paste_start bytes then length bytes - 6 else 0

-- From `s` to `t` steps for `n` bytes: together with the text of an open paste they grew by at most two a byte.
abbrev pub TakesSteps : ParserView → ParserView → ℕ → ℕ → ℕ → Type 0
TakesSteps old new s t n = (before rest : List Marked) → Represents old before → Represents new rest
    → t + paste_length (bytes_of rest) ≤ s + paste_length (bytes_of before) + 2 * n

-- The parser took these pieces, one after another.
abbrev pub AdvancesThrough : ParserView → List (List Marked) → ParserView → Type 0
AdvancesThrough old [] new = new ≡ old
AdvancesThrough old (piece ∷ pieces) new = (mid : ParserView) × AdvancesOver old mid piece × AdvancesThrough mid pieces new

-- Two ways to cut the same marked bytes into pieces give the same events.
abbrev pub CutsAlike : Type 0
CutsAlike = (old new other : ParserView) (pieces others : List (List Marked)) (before : List Marked) → Represents old before → IsUndecided Whole before
    → flat_map (λ piece. piece) pieces ≡ flat_map (λ piece. piece) others
    → AdvancesThrough old pieces new → AdvancesThrough old others other → new.waiting ≡ other.waiting

-- An empty piece gives no event, and the parser represents the bytes that it represented.
abbrev pub EmptyDoesNothing : Type 0
EmptyDoesNothing = (old new : ParserView) → AdvancesOver old new [] → (before : List Marked) → Represents old before → IsUndecided Whole before
    → (new.waiting ≡ old.waiting) × Represents new before

-- Calls took these pieces whole, one after another; `s` and `t` are the steps before and after.
abbrev pub StepsThrough : ParserView → ℕ → List (List Marked) → ParserView → ℕ → Type 0
StepsThrough old s [] new t = (new ≡ old) × (t ≡ s)
StepsThrough old s (piece ∷ pieces) new t =
    (mid : ParserView) × (m : ℕ) × AdvancesOver old mid piece × TakesSteps old mid s m (length piece) × StepsThrough mid m pieces new t

-- Over any list of calls that begins without the text of a paste, the steps are at most twice the bytes.
abbrev pub TwoStepsAByte : Type 0
TwoStepsAByte = (old new : ParserView) (s t : ℕ) (pieces : List (List Marked)) (before : List Marked) → Represents old before → IsUndecided Whole before
    → paste_length (bytes_of before) ≡ 0 → StepsThrough old s pieces new t → t ≤ s + 2 * length (flat_map (λ piece. piece) pieces)

-- Calls took these numbers of bytes, one after another; the steps grew from `s` to `t`, by at least one a byte.
abbrev pub CountsThrough : ℕ → List ℕ → ℕ → Type 0
CountsThrough s [] t = t ≡ s
CountsThrough s (n ∷ ns) t = (m : ℕ) × (s + n ≤ m) × CountsThrough m ns t

-- Over any list of calls the steps are at least the bytes taken.
abbrev pub AStepAByte : Type 0
AStepAByte = (s t : ℕ) (taken : List ℕ) → CountsThrough s taken t → s + sum taken ≤ t

-- The text that is kept; empty if there is none.
abbrev pub text_or_empty : Option (List ℕ) → List ℕ
text_or_empty None = []
text_or_empty (Some text) = text
