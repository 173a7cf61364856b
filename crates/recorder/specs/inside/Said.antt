-- What is written of one answer, as the private functions see it.
use Rattle.std.specs.Prelude.{◌≡◌, ℕ, List, [], ◌∷◌, Option, Some, None}
use Rattle.crossterm_read.specs.Device.{DeviceAnswer, Bytes, Resized, Woken, Idle, Fault}
use Rattle.recorder.specs.Lines.{entry_answers, times_of}
use Rattle.recorder.specs.Recording.{Rises, WritesEntries, millis}
use Rattle.recorder.specs.declared.recorder.Stop.{Stop}
use Rattle.recorder.specs.declared.line.Noted.{Noted}
use Rattle.recorder.specs.declared.line.Noted.TheVariants as noted

-- The answer that a line says.
abbrev pub noted_answer : Noted → DeviceAnswer
noted_answer (noted.Bytes bytes raw) = Bytes bytes.now raw
noted_answer (noted.Resized columns rows) = Resized columns rows
noted_answer noted.Woken = Woken
noted_answer noted.Idle = Idle
noted_answer (noted.Fault kind) = Fault kind

-- The answer that the line says, or none if there is no line.
abbrev pub said_by : Option Noted → List DeviceAnswer
said_by None = []
said_by (Some t) = noted_answer t ∷ []

-- Answers were written with rising times. The clock, the stop, the room and the writer changed as the recording went
-- on.
pub record Notes {W : Type 0} (contents : W → Option (List ℕ)) (clock : ℕ) (stop : Option Stop) (room : Option ℕ) (writer : W) (ws : List DeviceAnswer)
    (later : ℕ) (stopped : Option Stop) (left : Option ℕ) (after : W) : Type 0 where
  pub entries : List (ℕ × DeviceAnswer)
  pub says : entry_answers entries ≡ ws
  pub rises : Rises (millis clock) (times_of entries) (millis later)
  pub written : WritesEntries contents stop room writer entries stopped left after
