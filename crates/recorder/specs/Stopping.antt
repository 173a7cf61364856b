-- What is known of a recording that ended before its session.
use Rattle.std.specs.Prelude.{◌≡◌, ◌⊎◌, ℕ, List, ◌++◌, Option, Some, None, Ok, Err}
use Rattle.std.specs.List.{AllByRecursion}
use Rattle.std.specs.Io.KnownBytes.{Appends}
use Rattle.std.specs.declared.io.ErrorKind.{ErrorKind}
use Rattle.crossterm_command.specs.Writing.{AppendsFront}
use Rattle.crossterm_types.specs.Seen.{Seen}
use Rattle.crossterm_read.specs.Answers.{SourceAnswer}
use Rattle.crossterm_read.specs.Device.{DeviceAnswer}
use Rattle.crossterm_read.specs.Outcomes.{Happened}
use Rattle.crossterm_read.specs.Sources.{Source, SourceDrawn}
use Rattle.recorder.specs.Lines.{entry_answers, text, times_of}
use Rattle.recorder.specs.Reads.{IsEntry, Session, read_text, session}
use Rattle.recorder.specs.Recording.{Recording, Records, recorded}
use Rattle.recorder.specs.declared.reading.Wrong.TheVariants.{Unended}
use Rattle.recorder.specs.declared.recorder.Stop.TheVariants as stop

-- ---- events

-- The same answers have one list of events.
abbrev pub OneList : Type 0
OneList = (ws : List DeviceAnswer) (es fs : List Seen) → Happened ws es → Happened ws fs → es ≡ fs

-- If more answers follow, the events of the first ones come first among all events.
abbrev pub FrontsHappen : Type 0
FrontsHappen = (ws more : List DeviceAnswer) (all : List Seen) → Happened (ws ++ more) all → (es : List Seen) × (rest : List Seen) × Happened ws es × (all ≡ es ++ rest)

-- ---- texts

-- The acts of a session and their times are those of the first entries.
pub record ReadsFirst (es : List (ℕ × DeviceAnswer)) (s : Session) : Type 0 where
  pub kept : List (ℕ × DeviceAnswer)
  pub rest : List (ℕ × DeviceAnswer)
  pub split : es ≡ kept ++ rest
  pub acts : s.acts ≡ entry_answers kept
  pub times : s.times ≡ times_of kept

-- A text reads as the first of these entries, or it is refused because its last line has no end.
abbrev pub FirstOrUnended : List (ℕ × DeviceAnswer) → List ℕ → Type 0
FirstOrUnended es bytes = ((s : Session) × (read_text bytes ≡ Ok s) × ReadsFirst es s) ⊎ ((n : ℕ) × (read_text bytes ≡ Err (record { number = n; reason = Unended })))

-- Each prefix of a recording reads as its first entries, or is refused because its last line has no end.
abbrev pub FrontsRead : Type 0
FrontsRead = (es : List (ℕ × DeviceAnswer)) (front rest : List ℕ) → AllByRecursion IsEntry es → text es ≡ front ++ rest → FirstOrUnended es front

-- ---- recorders that stopped

-- The room was used up, and what was written reads as the first entries.
pub record Kept {D W : Type 0} (contents : W → Option (List ℕ)) (answered : D → List DeviceAnswer → D → Type 0) (s t : Recording D W) : Type 0 where
  pub given : List DeviceAnswer
  pub kept : List (ℕ × DeviceAnswer)
  pub rest : List DeviceAnswer
  -- The device gave these answers.
  pub by_device : answered s.device given t.device
  -- The kept entries have the first of those that are recorded.
  pub says : recorded given ≡ entry_answers kept ++ rest
  -- The writer grew by the text of the kept entries.
  pub written : Appends (contents s.writer) (contents t.writer) (text kept)
  -- That text reads as the kept entries.
  pub reads : read_text (text kept) ≡ Ok (session kept)

-- If a recorder stops because its room is used up, what it wrote reads as the first entries.
abbrev pub CutsKeep : {D W : Type 0} → (W → Option (List ℕ)) → (D → List DeviceAnswer → D → Type 0) → Type 0
CutsKeep {D} {W} contents answered = (s t : Source (Recording D W)) (xs : List SourceAnswer) → s.device.stop ≡ None → t.device.stop ≡ Some stop.Cut
    → SourceDrawn (Records contents answered) s xs t → Kept contents answered s.device t.device

-- The recorder failed to write, and what was written reads as the first entries or has a last line without an end.
pub record Torn {D W : Type 0} (contents : W → Option (List ℕ)) (answered : D → List DeviceAnswer → D → Type 0) (s t : Recording D W) : Type 0 where
  pub given : List DeviceAnswer
  pub entries : List (ℕ × DeviceAnswer)
  -- The device gave these answers.
  pub by_device : answered s.device given t.device
  -- The entries have what is recorded of them.
  pub says : entry_answers entries ≡ recorded given
  -- The writer grew by a prefix of the entries' text.
  pub written : AppendsFront (contents s.writer) (contents t.writer) (text entries)
  -- That prefix reads as the first entries, or its last line has no end.
  pub reads : FirstOrUnended entries written.front

-- If a recorder stops because of an error, what it wrote reads as the first entries or has a last line without an
-- end.
abbrev pub FailuresTear : {D W : Type 0} → (W → Option (List ℕ)) → (D → List DeviceAnswer → D → Type 0) → Type 0
FailuresTear {D} {W} contents answered = (s t : Source (Recording D W)) (xs : List SourceAnswer) (kind : ErrorKind) → s.device.stop ≡ None → t.device.stop ≡ Some (stop.Failed kind)
    → SourceDrawn (Records contents answered) s xs t → Torn contents answered s.device t.device
