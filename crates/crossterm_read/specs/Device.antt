-- The answers of a device.
use Rattle.std.specs.Prelude.{◌≡◌, ◌⊎◌, ◌≤◌, ◌==◌, ℕ, Bool, List, [], ◌∷◌, ◌++◌, length, take, Option, Result, Ok, Err, IsSomeAnd, ⊤}
use Rattle.std.specs.List.{AllByRecursion}
use Rattle.std.specs.Duration.{as_nanos}
use Rattle.std.specs.IoError.{error_kind}
use Rattle.std.specs.declared.io.Error.{Error}
use Rattle.std.specs.declared.io.ErrorKind.{ErrorKind}
use Rattle.std.specs.declared.time.Duration.{Duration}
use Rattle.crossterm_parse.specs.declared.marked.Marked.{Marked}
use Rattle.crossterm_parse.specs.Marked.{marked}
use Rattle.crossterm_read.specs.declared.source.device.Answer.{Answer}
use Rattle.crossterm_read.specs.declared.source.device.Answer.TheVariants as answer

-- One answer of a device.
pub data DeviceAnswer : Type 0 where
  -- Some bytes, and whether the terminal was in raw mode. No bytes mean that the input has ended.
  Bytes : List ℕ → Bool → DeviceAnswer
  -- A new size: columns and rows.
  Resized : ℕ → ℕ → DeviceAnswer
  -- It was woken.
  Woken : DeviceAnswer
  -- Nothing came within the limit.
  Idle : DeviceAnswer
  -- An error of this kind.
  Fault : ErrorKind → DeviceAnswer

-- The result of a call of `answer`, with the bytes that it put into the buffer.
abbrev pub device_answer : Result Answer Error → List ℕ → DeviceAnswer
device_answer (Ok (answer.Bytes count raw)) buffer = Bytes (take count buffer) raw
device_answer (Ok (answer.Resize columns rows)) buffer = Resized columns rows
device_answer (Ok answer.Woken) buffer = Woken
device_answer (Ok answer.Idle) buffer = Idle
device_answer (Err e) buffer = Fault (error_kind e)

-- How a device answers: between which of its states it can give which answers.
pub record Answering (D : Type 0) : Type 1 where
  pub answered : D → List DeviceAnswer → D → Type 0
  -- If it gives no answer, its state stays.
  pub none : (s : D) → answered s [] s
  -- Two runs of answers, one after another, are one run.
  pub on : (s t u : D) (xs ys : List DeviceAnswer) → answered s xs t → answered t ys u → answered s (xs ++ ys) u

-- Nothing is promised of the answers.
abbrev pub anything : {D : Type 0} → Answering D
anything = record { answered = λ _ _ _. ⊤; none = λ _. tt; on = λ _ _ _ _ _ _ _. tt }

-- How a device answers that hands on the answers of another one inside it.
abbrev pub answering_within : {D E : Type 0} → (D → E) → Answering E → Answering D
answering_within inner answering = record {
  answered = λ s device_answers t. answering.answered (inner s) device_answers (inner t);
  none = λ s. answering.none (inner s);
  on = λ s t u. answering.on (inner s) (inner t) (inner u);
}

-- The limit is zero: a device answers without waiting.
abbrev pub IsAtOnce : Option Duration → Type 0
IsAtOnce limit = IsSomeAnd limit (λ d. as_nanos d ≡ 0)

-- The device was asked once at most, with this limit.
abbrev pub AsksWith : Option Duration → List (Option Duration) → List (Option Duration) → Type 0
AsksWith limit old new = (new ≡ old) ⊎ (new ≡ old ++ limit ∷ [])

-- The device was asked any number of times more, and each limit meets the condition.
abbrev pub AsksEach : (Option Duration → Type 0) → List (Option Duration) → List (Option Duration) → Type 0
AsksEach P old new = (more : List (Option Duration)) × (new ≡ old ++ more) × AllByRecursion P more

-- The device was asked any number of times more, each time with limit zero.
abbrev pub AsksAtOnce : List (Option Duration) → List (Option Duration) → Type 0
AsksAtOnce old new = AsksEach IsAtOnce old new

-- The bytes of the answer are at most as many as the buffer holds.
abbrev pub CountWithin : Answer → ℕ → Type 0
CountWithin (answer.Bytes count raw) n = count ≤ n
CountWithin (answer.Resize columns rows) n = Unit {0}
CountWithin answer.Woken n = Unit {0}
CountWithin answer.Idle n = Unit {0}

-- The bytes of one answer with their marks. More follow at once if and only if they filled the buffer.
abbrev pub marked_bytes : List ℕ → Bool → List Marked
marked_bytes bytes raw = marked bytes (length bytes == 1024) raw
