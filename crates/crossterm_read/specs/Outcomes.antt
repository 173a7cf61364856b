-- Which events a device's answers make, and what a source answers then.
use Rattle.std.specs.Prelude.{◌≡◌, ◌⊎◌, Bool, true, List, [], ◌∷◌, ◌++◌}
use Rattle.std.specs.List.{filter_map, flat_map}
use Rattle.std.specs.declared.io.ErrorKind.TheVariants.{OutOfMemory, UnexpectedEof, Interrupted}
use Rattle.crossterm_types.specs.Seen.{Seen, Resize}
use Rattle.crossterm_parse.specs.declared.marked.Marked.{Marked}
use Rattle.crossterm_parse.specs.Grammar.{Whole, begins, paste_start}
use Rattle.crossterm_parse.specs.Marked.{bytes_of}
use Rattle.crossterm_parse.specs.Meaning.{meaning_of}
use Rattle.crossterm_parse.specs.Division.{Divides}
use Rattle.crossterm_read.specs.Answers.{SourceAnswer, Gave, Nothing, Failed}
use Rattle.crossterm_read.specs.Device.{DeviceAnswer, Bytes, Resized, Woken, Idle, Fault, marked_bytes}
use Rattle.crossterm_read.specs.Scripted.{AnswersWith}

-- The answer of a source if its device answers without bytes: the end of input, a size, a wake-up, nothing, or an error.
abbrev pub IsAnsweredBy : DeviceAnswer → SourceAnswer → Type 0
IsAnsweredBy (Bytes [] raw) x = x ≡ Failed UnexpectedEof
IsAnsweredBy (Bytes (b ∷ bs) raw) x = ⊥
IsAnsweredBy (Resized columns rows) x = x ≡ Gave (Resize columns rows)
IsAnsweredBy Woken x = x ≡ Failed Interrupted
IsAnsweredBy Idle x = x ≡ Nothing
IsAnsweredBy (Fault kind) x = x ≡ Failed kind

-- True if these undecided bytes are those of an open paste.
abbrev pub is_pasting : List Marked → Bool
is_pasting undecided = begins paste_start (bytes_of undecided)

-- An outcome, which one answer of a device makes.
pub data Outcome : Type 0 where
  -- The events that end in its bytes, and whether a paste is open after them.
  Ended : List Seen → Bool → Outcome
  -- The source's one answer, if it has no bytes.
  Single : SourceAnswer → Outcome

-- One answer makes this outcome, and leaves these undecided bytes: those of the division, with the bytes that were
-- undecided before.
abbrev pub Produces : List Marked → DeviceAnswer → Outcome → List Marked → Type 0
Produces before (Bytes (b ∷ bs) raw) (Ended es pasting) after =
    (parts : List (List Marked)) × Divides Whole (before ++ marked_bytes (b ∷ bs) raw) parts after × (es ≡ filter_map meaning_of parts) × (pasting ≡ is_pasting after)
Produces before (Bytes (b ∷ bs) raw) (Single x) after = ⊥
Produces before w (Ended es pasting) after = ⊥
Produces before w (Single x) after = IsAnsweredBy w x × (after ≡ before)

-- Answers make outcomes, one each.
abbrev pub Happens : List Marked → List DeviceAnswer → List Outcome → List Marked → Type 0
Happens before [] [] after = after ≡ before
Happens before [] (b ∷ bs) after = ⊥
Happens before (w ∷ ws) [] after = ⊥
Happens before (w ∷ ws) (b ∷ bs) after = (mid : List Marked) × Produces before w b mid × Happens mid ws bs after

-- The events of an outcome, in order.
abbrev pub outcome_events : Outcome → List Seen
outcome_events (Ended es pasting) = es
outcome_events (Single (Gave x)) = x ∷ []
outcome_events (Single Nothing) = []
outcome_events (Single (Failed kind)) = []

-- The events of outcomes, in order.
abbrev pub events_of : List Outcome → List Seen
events_of bs = flat_map outcome_events bs

-- Bytes of a paste were left for want of memory and taken later: some refusals of memory, and then that nothing came.
abbrev pub TakenLate : List SourceAnswer → Type 0
TakenLate [] = ⊥
TakenLate (Gave x ∷ xs) = ⊥
TakenLate (Nothing ∷ xs) = xs ≡ []
TakenLate (Failed kind ∷ xs) = (kind ≡ OutOfMemory) × TakenLate xs

-- The answers of a source for events: each once, in order, and before each any number of refusals of memory.
abbrev pub Delivers : Bool → List Seen → List SourceAnswer → Type 0
Delivers pasting [] [] = Unit {0}
Delivers pasting [] (x ∷ xs) = (pasting ≡ true) × TakenLate (x ∷ xs)
Delivers pasting (e ∷ es) [] = ⊥
Delivers pasting (e ∷ es) (Gave x ∷ xs) = (x ≡ e) × Delivers pasting es xs
Delivers pasting (e ∷ es) (Nothing ∷ xs) = ⊥
Delivers pasting (e ∷ es) (Failed kind ∷ xs) = (kind ≡ OutOfMemory) × Delivers pasting (e ∷ es) xs

-- The answers of a source for bytes. If they end no event it is nothing, once, or an open paste's bytes are taken late.
abbrev pub DeliversBytes : Bool → List Seen → List SourceAnswer → Type 0
DeliversBytes pasting [] xs = (xs ≡ Nothing ∷ []) ⊎ ((pasting ≡ true) × TakenLate xs)
DeliversBytes pasting (e ∷ es) xs = Delivers pasting (e ∷ es) xs

-- The answers of a source for outcomes, in order. No outcome is left out.
abbrev pub DeliversAll : List Outcome → List SourceAnswer → Type 0
DeliversAll [] xs = xs ≡ []
DeliversAll (Single x ∷ bs) xs = (rest : List SourceAnswer) × (xs ≡ x ∷ rest) × DeliversAll bs rest
DeliversAll (Ended es pasting ∷ bs) xs = (front : List SourceAnswer) × (rest : List SourceAnswer) × (xs ≡ front ++ rest) × DeliversBytes pasting es front × DeliversAll bs rest

-- The device gave the first of these answers. The list is the beginning of what a source answers for their outcomes.
pub record Answered (device_answers : List DeviceAnswer) (list : List SourceAnswer) : Type 0 where
  -- The answers that the device gave.
  pub answered : List DeviceAnswer
  -- The answers that it has left.
  pub left : List DeviceAnswer
  pub outcomes : List Outcome
  -- The bytes that end no sequence yet.
  pub undecided : List Marked
  -- The answers that the source still owes.
  pub more : List SourceAnswer
  pub answering : AnswersWith device_answers answered left
  pub happens : Happens [] answered outcomes undecided
  pub delivers : DeliversAll outcomes (list ++ more)

-- All events that these answers make.
abbrev pub Happened : List DeviceAnswer → List Seen → Type 0
Happened device_answers es = (outcomes : List Outcome) × (undecided : List Marked) × Happens [] device_answers outcomes undecided × (es ≡ events_of outcomes)

-- The marked bytes of one answer.
abbrev pub answer_bytes : DeviceAnswer → List Marked
answer_bytes (Bytes bytes raw) = marked_bytes bytes raw
answer_bytes (Resized columns rows) = []
answer_bytes Woken = []
answer_bytes Idle = []
answer_bytes (Fault kind) = []

-- The marked bytes of all answers.
abbrev pub all_bytes : List DeviceAnswer → List Marked
all_bytes ws = flat_map answer_bytes ws

-- The events of an outcome that come from bytes.
abbrev pub byte_events : Outcome → List Seen
byte_events (Ended es pasting) = es
byte_events (Single x) = []

-- The events from bytes are the meanings of the parts of the only division of all bytes.
abbrev pub HappensByDivision : Type 0
HappensByDivision = (ws : List DeviceAnswer) (bs : List Outcome) (after : List Marked) → Happens [] ws bs after → (parts : List (List Marked)) × Divides Whole (all_bytes ws) parts after × (flat_map byte_events bs ≡ filter_map meaning_of parts)
