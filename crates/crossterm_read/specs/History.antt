-- One legal history of the calls of all passes of a shared reader.
use Rattle.std.specs.Prelude.{◌≡◌, ◌≢◌, ◌≤◌, ◌<◌, ◌==◌, ℕ, Bool, true, false, cond, List, [], ◌∷◌, ◌++◌, map, Option, Some, None, is_some, nat_lt}
use Rattle.std.specs.List.{AllByRecursion, flat_map, list_all}
use Rattle.std.specs.List.Sorted.{IsPermutation}
use Rattle.crossterm_types.specs.Seen.{Seen}
use Rattle.crossterm_types.specs.declared.event.filter.AnyFilter.{AnyFilter}
use Rattle.crossterm_types.specs.declared.event.filter.AnyFilter.TheVariants as filter
use Rattle.crossterm_read.specs.Answers.{SourceAnswer}
use Rattle.crossterm_read.specs.Calls.{Request, Read, Take, Position, Keyboard, Step, IsWithin, taken}
use Rattle.crossterm_read.specs.Store.{IsLow, ReaderState, arrived, reader_capacity, numbered_after}
use Rattle.crossterm_read.specs.Replies.{Replied, ToPoll, ToTake, ToQuery, Fault}

-- One call of a pass.
pub record Entry : Type 0 where
  -- The number of the pass.
  pub by : ℕ
  -- The request.
  pub call : Request
  -- The source's answers in it.
  pub answers : List SourceAnswer
  pub reply : Replied

-- The calls of one pass, in order.
abbrev pub calls_by : ℕ → List Entry → List Entry
calls_by by [] = []
calls_by by (e ∷ es) = cond (e.by == by) (e ∷ calls_by by es) (calls_by by es)

-- True if each call is one of so many passes, which are numbered from 0.
abbrev pub are_of : ℕ → List Entry → Bool
are_of passes log = list_all (λ e. nat_lt e.by passes) log

-- The history begins with these calls.
abbrev pub StartsWith : List Entry → List Entry → Type 0
StartsWith log seen = (rest : List Entry) × (log ≡ seen ++ rest)

-- The source's answers in these calls, in order.
abbrev pub answers_of : List Entry → List SourceAnswer
answers_of log = flat_map (λ e. e.answers) log

-- The events that these calls took, each with its arrival number.
abbrev pub taken_by : List Entry → List (Seen × ℕ)
taken_by log = taken (map (λ e. e.reply) log)

-- The event that one call took: by which filter, and the arrival number of the event.
abbrev pub took : Request → Replied → List (AnyFilter × ℕ)
took (Read patience f) (ToTake (Some x)) = (f, x.1) ∷ []
took (Take f) (ToTake (Some x)) = (f, x.1) ∷ []
took (Position patience) (ToTake (Some x)) = (filter.Cursor, x.1) ∷ []
took (Keyboard patience again) (ToTake (Some x)) = (filter.Flags, x.1) ∷ []
took (Keyboard patience again) (ToQuery x (Some y)) = (filter.Flags, x.1) ∷ (filter.Attributes, y.1) ∷ []
took (Keyboard patience again) (ToQuery x None) = (filter.Flags, x.1) ∷ []
took c r = []

-- The events that these calls took, in order: by which filter, and the arrival number of each event.
abbrev pub takes_of : List Entry → List (AnyFilter × ℕ)
takes_of log = flat_map (λ e. took e.call e.reply) log

-- Of two events taken by one filter, the later one has the greater arrival number.
abbrev pub RiseByFilter : List (AnyFilter × ℕ) → Type 0
RiseByFilter [] = Unit {0}
RiseByFilter (x ∷ xs) = AllByRecursion (λ y. y.0 ≡ x.0 → x.1 < y.1) xs × RiseByFilter xs

-- No two events have the same arrival number.
abbrev pub Differ : List (Seen × ℕ) → Type 0
Differ [] = Unit {0}
Differ (x ∷ xs) = AllByRecursion (λ y. x.1 ≢ y.1) xs × Differ xs

-- All events of a history: those held when the reader was opened and those that arrived since, each with its arrival
-- number.
abbrev pub all_events : {S : Type 0} → ReaderState S → List Entry → List (Seen × ℕ)
all_events o log = o.store.held ++ arrived o.store.arrivals (answers_of log)

-- Each event of a history was taken once or is held. The numbers that promise an order do so while fewer than 2^64 - 1
-- events have arrived.
pub record EachOnce {S : Type 0} (o : ReaderState S) (log : List Entry) (t : ReaderState S) : Type 0 where
  -- The events that were taken and those that are held are together all events, each once.
  pub once : IsPermutation (all_events o log) (taken_by log ++ t.store.held)
  -- The held events are in order of arrival.
  pub in_order : IsWithin t.store.held (all_events o log)
  pub arrivals : t.store.arrivals ≡ numbered_after o.store.arrivals (answers_of log)
  -- No two events that were taken have the same number.
  pub differ : IsLow t.store.arrivals → Differ (taken_by log)
  -- The events that one filter takes have rising numbers.
  pub rise : IsLow t.store.arrivals → RiseByFilter (takes_of log)

-- The knowledge that a pass got from another one: its number, the calls that it had seen, and those seen by itself before.
pub record Meeting : Type 0 where
  pub other : ℕ
  pub theirs : List Entry
  pub ours : List Entry

-- The knowledge that a pass has of its reader.
pub record Known (S : Type 0) : Type 0 where
  -- Its own number.
  pub number : ℕ
  -- How many passes the reader has.
  pub passes : ℕ
  -- How many passes it represents besides itself, while the passes are being made.
  pub spare : ℕ
  -- The reader as it was opened.
  pub opening : Option (ReaderState S)
  -- The history up to the last call that it has seen.
  pub seen : List Entry
  -- Its own calls.
  pub mine : List Entry
  -- Whether it has the reader.
  pub has : Bool
  -- Which pass it met last.
  pub met : Option Meeting

-- A new pass of this number, of a reader with so many passes that was opened in this state. It has seen nothing.
abbrev pub opened : {S : Type 0} → ReaderState S → ℕ → ℕ → Known S
opened o passes number = record { number = number; passes = passes; spare = 0; opening = Some o; seen = []; mine = []; has = false; met = None }

-- A pass in use. It represents itself alone, and its calls are those of its number in the history that it has seen.
pub record Sits {S : Type 0} (v : Known S) : Type 0 where
  pub opened : is_some v.opening ≡ true
  pub number : v.number < v.passes
  pub alone : v.spare ≡ 0
  pub mine : calls_by v.number v.seen ≡ v.mine
  pub of_passes : are_of v.passes v.seen ≡ true

-- The arrival number of the event that was taken last, after one more reply.
abbrev pub last_taken : Option ℕ → Replied → Option ℕ
last_taken n (ToTake (Some x)) = Some x.1
last_taken n (ToTake None) = n
last_taken n (ToQuery x (Some y)) = Some y.1
last_taken n (ToQuery x None) = Some x.1
last_taken n (ToPoll ready) = n
last_taken n (Fault kind) = n

-- The arrival number of the event that was taken last, after these calls.
abbrev pub last_from : Option ℕ → List Entry → Option ℕ
last_from n [] = n
last_from n (e ∷ es) = last_from (last_taken n e.reply) es

module _ {S : Type 0} (drawn : S → List SourceAnswer → S → Type 0) where
  -- A call leads from one state of the reader to another, as with a reader of one thread. No room is lost.
  abbrev pub Makes : Entry → ReaderState S → ReaderState S → Type 0
  Makes e s t = drawn s.source e.answers t.source × Step e.call e.answers s.store t.store e.reply × (reader_capacity s ≤ reader_capacity t)

  -- A legal history: each call begins in the state that the one before left, and the last one leaves `t`.
  abbrev pub Runs : ReaderState S → List Entry → ReaderState S → Type 0
  Runs s [] t = s ≡ t
  Runs s (e ∷ es) t = (m : ReaderState S) × Makes e s m × Runs m es t

  -- A call changes what its pass knows so. The call is the last of one legal history, which begins with all that
  -- the pass had seen.
  pub record Extends (made : ReaderState S → Entry → ReaderState S → Type 0) (v w : Known S) : Type 0 where
    pub opening : ReaderState S
    -- Calls of other passes that came before it.
    pub between : List Entry
    pub call : Entry
    -- The state in which the call found the reader.
    pub found : ReaderState S
    -- The state that it left.
    pub left : ReaderState S
    pub such : made found call left
    pub by : call.by ≡ v.number
    pub opened : v.opening ≡ Some opening
    pub before : Runs opening (v.seen ++ between) found
    pub makes : Makes call found left
    pub others : calls_by v.number between ≡ []
    pub after : w ≡ record v { seen = (v.seen ++ between) ++ call ∷ []; mine = v.mine ++ call ∷ [] }
    -- No event that the pass had seen arrive is missing.
    pub fresh : numbered_after opening.store.arrivals (answers_of v.seen) ≤ found.store.arrivals
    -- No room is lost that there was at first.
    pub room : reader_capacity opening ≤ reader_capacity found
    pub each_once : EachOnce opening w.seen left

  -- Two passes met. One of them now sees a legal history that begins with all that both had seen.
  pub record Meets (v other w : Known S) : Type 0 where
    pub opening : ReaderState S
    pub left : ReaderState S
    pub opened : v.opening ≡ Some opening
    pub runs : Runs opening w.seen left
    pub each_once : EachOnce opening w.seen left
    pub ours : StartsWith w.seen v.seen
    pub theirs : StartsWith w.seen other.seen
    pub apart : v.number ≢ other.number
    pub kept : w ≡ record v { seen = w.seen; met = w.met }

  -- A pass took the reader out for good, as one legal history left it, which begins with all that the pass had seen.
  pub record Closes (v : Known S) (r : ReaderState S) (w : Known S) : Type 0 where
    pub opening : ReaderState S
    pub between : List Entry
    pub opened : v.opening ≡ Some opening
    pub runs : Runs opening (v.seen ++ between) r
    pub others : calls_by v.number between ≡ []
    pub each_once : EachOnce opening (v.seen ++ between) r
    pub after : w ≡ record v { seen = v.seen ++ between; has = true }
