-- What a recorder writes of the answers of its device.
use Rattle.std.specs.Prelude.{◌≡◌, ◌≤◌, ◌<◌, ◌+◌, ◌/◌, ℕ, List, [], ◌∷◌, ◌++◌, length, min, Option, Some, None}
use Rattle.std.specs.List.{AllByRecursion}
use Rattle.std.specs.Io.KnownBytes.{Appends}
use Rattle.hex.specs.Hex.{IsBytes}
use Rattle.crossterm_command.specs.Writing.{AppendsFront}
use Rattle.crossterm_read.specs.Device.{DeviceAnswer, Bytes, Resized, Woken, Idle, Fault}
use Rattle.recorder.specs.Lines.{entry_answers, text, times_of}
use Rattle.recorder.specs.declared.recorder.Stop.{Stop}
use Rattle.recorder.specs.declared.recorder.Stop.TheVariants as stop

-- The answers that are recorded: all but the ends of input, which are bytes of which there are none.
abbrev pub recorded : List DeviceAnswer → List DeviceAnswer
recorded [] = []
recorded (Bytes [] raw ∷ ws) = recorded ws
recorded (Bytes (b ∷ bs) raw ∷ ws) = Bytes (b ∷ bs) raw ∷ recorded ws
recorded (Resized columns rows ∷ ws) = Resized columns rows ∷ recorded ws
recorded (Woken ∷ ws) = Woken ∷ recorded ws
recorded (Idle ∷ ws) = Idle ∷ recorded ws
recorded (Fault kind ∷ ws) = Fault kind ∷ recorded ws

-- What a device can answer: at most 1024 bytes, each below 256, and sizes below 65536.
abbrev pub IsPossible : DeviceAnswer → Type 0
IsPossible (Bytes bytes raw) = (length bytes ≤ 1024) × IsBytes bytes
IsPossible (Resized columns rows) = (columns < 65536) × (rows < 65536)
IsPossible Woken = Unit {0}
IsPossible Idle = Unit {0}
IsPossible (Fault kind) = Unit {0}

-- ---- times

-- The whole milliseconds of a time in nanoseconds, at most 4294967295.
abbrev pub millis : ℕ → ℕ
millis nanos = min 4294967295 (nanos / 1000000)

-- The times are between `low` and `high`, and none is before an earlier one.
abbrev pub Rises : ℕ → List ℕ → ℕ → Type 0
Rises low [] high = low ≤ high
Rises low (time ∷ times) high = (low ≤ time) × Rises time times high

-- ---- room

-- `n` bytes fit into the room. Without a bound, any number fits.
abbrev pub HasRoomFor : Option ℕ → ℕ → Type 0
HasRoomFor None n = Unit {0}
HasRoomFor (Some room) n = n ≤ room

-- `n` bytes of the room are used, and `after` is what is left. Without a bound, nothing changes.
abbrev pub Uses : Option ℕ → ℕ → Option ℕ → Type 0
Uses None n after = after ≡ None
Uses (Some room) n after = (left : ℕ) × (after ≡ Some left) × (left + n ≡ room)

-- ---- writing

-- The next entry didn't fit into the room.
pub record Cuts (old new : Option (List ℕ)) (room : Option ℕ) (es : List (ℕ × DeviceAnswer)) : Type 0 where
  pub kept : List (ℕ × DeviceAnswer)
  pub next : ℕ × DeviceAnswer
  pub rest : List (ℕ × DeviceAnswer)
  pub split : es ≡ kept ++ next ∷ rest
  -- The entries before it were written whole, and nothing of it.
  pub written : Appends old new (text kept)
  -- With the next one, they wouldn't fit into the room.
  pub full : HasRoomFor room (length (text (kept ++ next ∷ []))) → ⊥

-- A prefix of the bytes was written, and no more than there is room for.
pub record WritesPrefix (old new : Option (List ℕ)) (room : Option ℕ) (bytes : List ℕ) : Type 0 where
  pub written : AppendsFront old new bytes
  pub fits : HasRoomFor room (length written.front)

-- Entries go to a writer: all of them, those that fit, or a prefix of their text before a failure. Nothing is written
-- after a stop.
abbrev pub WritesEntries : {W : Type 0} → (W → Option (List ℕ)) → Option Stop → Option ℕ → W → List (ℕ × DeviceAnswer) → Option Stop → Option ℕ → W → Type 0
WritesEntries contents None room s es None left t = Appends (contents s) (contents t) (text es) × Uses room (length (text es)) left
WritesEntries contents None room s es (Some stop.Cut) left t = Cuts (contents s) (contents t) room es
WritesEntries contents None room s es (Some (stop.Failed kind)) left t = WritesPrefix (contents s) (contents t) room (text es)
WritesEntries contents (Some why) room s es None left t = ⊥
WritesEntries contents (Some why) room s es (Some same) left t = (same ≡ why) × (t ≡ s)

-- A recorder as its callers see it.
pub record Recording (D W : Type 0) : Type 0 where
  pub device : D
  pub writer : W
  -- What its clock returned last, in nanoseconds.
  pub clock : ℕ
  -- How many more bytes it may write, if that is bounded.
  pub room : Option ℕ
  -- Why it no longer writes, if it stopped.
  pub stop : Option Stop

-- A recorder answers what its device answers, and writes these answers with rising times.
pub record Records {D W : Type 0} (contents : W → Option (List ℕ)) (answered : D → List DeviceAnswer → D → Type 0)
    (s : Recording D W) (ws : List DeviceAnswer) (t : Recording D W) : Type 0 where
  pub given : answered s.device ws t.device
  pub entries : List (ℕ × DeviceAnswer)
  pub says : entry_answers entries ≡ recorded ws
  pub rises : Rises (millis s.clock) (times_of entries) (millis t.clock)
  pub written : WritesEntries contents s.stop s.room s.writer entries t.stop t.room t.writer
  pub are_answers : AllByRecursion IsPossible ws
