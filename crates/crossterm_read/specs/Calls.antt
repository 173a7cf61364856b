-- Calls of a reader, one after another.
use Rattle.std.specs.Prelude.{◌≡◌, ◌⊎◌, ℕ, Bool, List, [], ◌∷◌, ◌++◌, map, Some, None, Result}
use Rattle.std.specs.List.{flat_map}
use Rattle.std.specs.List.Sorted.{IsPermutation}
use Rattle.std.specs.Option.{option_map}
use Rattle.std.specs.declared.io.ErrorKind.{ErrorKind}
use Rattle.crossterm_types.specs.Admitting.{admitted, is_cursor_position}
use Rattle.crossterm_types.specs.Seen.{Seen, seen, CursorPosition}
use Rattle.crossterm_types.specs.declared.event.filter.AnyFilter.{AnyFilter}
use Rattle.crossterm_read.specs.Answers.{SourceAnswer}
use Rattle.crossterm_read.specs.Outcomes.{Answered, Happened}
use Rattle.crossterm_read.specs.Device.{DeviceAnswer}
use Rattle.crossterm_read.specs.Store.{EventStore, next_number}
use Rattle.crossterm_read.specs.Queries.{QueryStep, KeyboardStep}
use Rattle.crossterm_read.specs.Replies.{Replied, ToPoll, ToTake, ToQuery, Fault, Said, Polled, Came, Faulted, flags_seen, replied, shown}
use Rattle.crossterm_read.specs.Steps.{Patience, UpTo, PollStep, ReadStep, TakeStep}
use Rattle.crossterm_read.specs.declared.read.call.Call.{Call}
use Rattle.crossterm_read.specs.declared.read.call.Call.TheVariants as call
use Rattle.crossterm_read.specs.declared.read.call.Reply.{Reply}
use Rattle.crossterm_read.specs.declared.read.call.Reply.TheVariants as reply

-- A reply that the library returned, as a caller sees it.
abbrev pub said : {A : Type 0} → Reply A → Said
said (reply.Poll ready) = Polled ready
said (reply.Event event) = Came (option_map seen event)
said (reply.Position column row) = Came (Some (CursorPosition column row))
said (reply.Keyboard flags) = Came (Some (flags_seen flags))
said (reply.Fault kind) = Faulted kind

-- A request to a reader, and how long it may ask its source.
pub data Request : Type 0 where
  Poll : Patience → AnyFilter → Request
  Read : Patience → AnyFilter → Request
  Take : AnyFilter → Request
  Position : Patience → Request
  -- The second patience is that of the wait for the attributes, after the flags came.
  Keyboard : Patience → Patience → Request

-- The request of a call of `play`.
abbrev pub request : Call → Request
request (call.Poll tries f) = Poll (UpTo tries) f
request (call.Read tries f) = Read (UpTo tries) f
request (call.Take f) = Take f
request (call.Position tries) = Position (UpTo tries)
request (call.Keyboard tries) = Keyboard (UpTo tries) (UpTo tries)

-- One call: the source gives these answers, the reader goes from one store to another, and this is the reply.
abbrev pub Step : Request → List SourceAnswer → EventStore → EventStore → Replied → Type 0
Step (Poll patience f) zs s t r = (p : Result Bool ErrorKind) × PollStep patience (admitted f) zs s t p × (r ≡ replied p)
Step (Read patience f) zs s t r = ReadStep patience (admitted f) zs s t r
Step (Take f) zs s t r = TakeStep (admitted f) zs s t r
Step (Position patience) zs s t r = QueryStep is_cursor_position patience zs s t r
Step (Keyboard patience again) zs s t r = KeyboardStep patience again zs s t r

-- The same request, with some number of tries in place of how long it may ask.
abbrev pub SameInTries : Request → Request → Type 0
SameInTries (Poll patience f) c = (tries : ℕ) × (c ≡ Poll (UpTo tries) f)
SameInTries (Read patience f) c = (tries : ℕ) × (c ≡ Read (UpTo tries) f)
SameInTries (Take f) c = c ≡ Take f
SameInTries (Position patience) c = (tries : ℕ) × (c ≡ Position (UpTo tries))
SameInTries (Keyboard patience again) c = (tries : ℕ) × (more : ℕ) × (c ≡ Keyboard (UpTo tries) (UpTo more))

-- Each step within a limit of time is also a step with some number of tries.
abbrev pub CountsTries : Type 0
CountsTries = (c : Request) (zs : List SourceAnswer) (s t : EventStore) (r : Replied) → Step c zs s t r → (d : Request) × SameInTries c d × Step d zs s t r

-- Calls one after another, each with the answers of the source in it and its reply.
abbrev pub Run : EventStore → List Call → List (List SourceAnswer) → List Replied → EventStore → Type 0
Run s [] [] [] t = t ≡ s
Run s (c ∷ cs) (zs ∷ zss) (r ∷ rs) t = (m : EventStore) × Step (request c) zs s m r × Run m cs zss rs t
Run s [] (zs ∷ zss) rs t = ⊥
Run s [] [] (r ∷ rs) t = ⊥
Run s (c ∷ cs) [] rs t = ⊥
Run s (c ∷ cs) (zs ∷ zss) [] t = ⊥

-- The answers of all calls, in order.
abbrev pub all_answers : List (List SourceAnswer) → List SourceAnswer
all_answers zss = flat_map (λ zs. zs) zss

-- No event is held, and none has arrived.
abbrev pub empty : EventStore
empty = record { held = []; arrivals = 0 }

-- The calls were made one after another over these answers of the device. The replies are those returned, and these
-- events are held at the end.
pub record Plays (device_answers : List DeviceAnswer) (calls : List Call) (answers : List Said) (held : List Seen) : Type 0 where
  -- The source's answers in each call.
  pub drawn : List (List SourceAnswer)
  pub replies : List Replied
  pub last : EventStore
  -- All of it follows from what the device answered.
  pub answered : Answered device_answers (all_answers drawn)
  -- Each call is a step of a reader.
  pub run : Run empty calls drawn replies last
  pub shows : answers ≡ map shown replies
  pub left : held ≡ map (λ h. h.0) last.held

-- The events that were taken, each with its arrival number.
abbrev pub taken : List Replied → List (Seen × ℕ)
taken [] = []
taken (ToTake (Some x) ∷ rs) = x ∷ taken rs
taken (ToTake None ∷ rs) = taken rs
taken (ToQuery x (Some y) ∷ rs) = x ∷ y ∷ taken rs
taken (ToQuery x None ∷ rs) = x ∷ taken rs
taken (ToPoll ready ∷ rs) = taken rs
taken (Fault kind ∷ rs) = taken rs

-- Events with their arrival numbers, from `n` on.
abbrev pub numbered : ℕ → List Seen → List (Seen × ℕ)
numbered n [] = []
numbered n (x ∷ xs) = (x, n) ∷ numbered (next_number n) xs

-- The first list is the second one without some elements.
abbrev pub IsWithin : {X : Type 0} → List X → List X → Type 0
IsWithin [] ys = Unit {0}
IsWithin (x ∷ xs) [] = ⊥
IsWithin (x ∷ xs) (y ∷ ys) = ((x ≡ y) × IsWithin xs ys) ⊎ IsWithin (x ∷ xs) ys

-- Each of the first events that happen was taken or is held, once, with its arrival number. Those that are held are in
-- order of arrival.
pub record IsAccounted (device_answers : List DeviceAnswer) (taken_so held : List (Seen × ℕ)) : Type 0 where
  -- All events that happen by the device's answers.
  pub all : List Seen
  -- The first of them.
  pub front : List Seen
  pub rest : List Seen
  pub happened : Happened device_answers all
  pub first : all ≡ front ++ rest
  pub once : IsPermutation (numbered 0 front) (taken_so ++ held)
  pub in_order : IsWithin held (numbered 0 front)

-- Some replies agree with those returned, and account for what they took and what is held.
pub record Accounts (device_answers : List DeviceAnswer) (answers : List Said) (held : List Seen) : Type 0 where
  pub replies : List Replied
  pub kept : List (Seen × ℕ)
  pub shows : answers ≡ map shown replies
  pub left : held ≡ map (λ h. h.0) kept
  pub accounted : IsAccounted device_answers (taken replies) kept
