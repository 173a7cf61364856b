-- What a recording replays.
use Rattle.std.specs.Prelude.{◌≡◌, ◌≢◌, ◌≤◌, ℕ, List, [], ◌∷◌, length, map, Option, None, Ok}
use Rattle.std.specs.List.{AllByRecursion}
use Rattle.std.specs.Io.KnownBytes.{Appends}
use Rattle.crossterm_types.specs.Seen.{Seen}
use Rattle.crossterm_read.specs.Answers.{SourceAnswer}
use Rattle.crossterm_read.specs.Calls.{IsAccounted, Plays, Run, empty, all_answers}
use Rattle.crossterm_read.specs.Device.{DeviceAnswer, Bytes, Resized, Woken, Idle, Fault}
use Rattle.crossterm_read.specs.History.{Entry, Runs, taken_by}
use Rattle.crossterm_read.specs.History as history
use Rattle.crossterm_read.specs.OneResult.{IsUnrefused, PastesApart}
use Rattle.crossterm_read.specs.Outcomes.{Answered}
use Rattle.crossterm_read.specs.OverScripts.{IsNew}
use Rattle.crossterm_read.specs.Replies.{Replied, Said, shown}
use Rattle.crossterm_read.specs.Store.{EventStore, ReaderState}
use Rattle.crossterm_read.specs.declared.read.call.Call.{Call}
use Rattle.crossterm_read.specs.Scripted.{device_answers}
use Rattle.crossterm_read.specs.declared.source.script.Act.{Act}
use Rattle.crossterm_read.specs.Sources.{Source, SourceDrawn}
use Rattle.recorder.specs.Lines.{entry_answers, text, act_answer}
use Rattle.recorder.specs.Reads.{read_text, session}
use Rattle.recorder.specs.Recording.{IsPossible, Recording, Records, recorded}

-- The answer is the end of input: bytes of which there are none.
abbrev pub IsEnd : DeviceAnswer → Type 0
IsEnd (Bytes [] raw) = Unit {0}
IsEnd (Bytes (b ∷ bs) raw) = ⊥
IsEnd (Resized columns rows) = ⊥
IsEnd Woken = ⊥
IsEnd Idle = ⊥
IsEnd (Fault kind) = ⊥

-- After an end of input nothing comes but that end again.
abbrev pub EndsLast : List DeviceAnswer → Type 0
EndsLast [] = Unit {0}
EndsLast (Bytes [] raw ∷ ws) = AllByRecursion IsEnd ws
EndsLast (Bytes (b ∷ bs) raw ∷ ws) = EndsLast ws
EndsLast (Resized columns rows ∷ ws) = EndsLast ws
EndsLast (Woken ∷ ws) = EndsLast ws
EndsLast (Idle ∷ ws) = EndsLast ws
EndsLast (Fault kind ∷ ws) = EndsLast ws

-- A recorder over a device was read, and its recording replays what was read.
pub record Replayed {D W : Type 0} (contents : W → Option (List ℕ)) (answered : D → List DeviceAnswer → D → Type 0)
    (s : Recording D W) (xs : List SourceAnswer) (t : Recording D W) : Type 0 where
  pub given : List DeviceAnswer
  pub entries : List (ℕ × DeviceAnswer)
  -- The device gave these answers.
  pub by_device : answered s.device given t.device
  -- The entries have what is recorded of them.
  pub says : entry_answers entries ≡ recorded given
  -- The writer grew by the text of the entries.
  pub written : Appends (contents s.writer) (contents t.writer) (text entries)
  -- That text reads as the entries.
  pub reads : read_text (text entries) ≡ Ok (session entries)
  -- The source answered what a script of the recording allows, if nothing followed the end of input.
  pub replays : EndsLast given → Answered (recorded given) xs

-- Whatever a new source over a recorder answers is replayed, as long as the recording goes on.
abbrev pub Replays : {D W : Type 0} → (W → Option (List ℕ)) → (D → List DeviceAnswer → D → Type 0) → Type 0
Replays {D} {W} contents answered = (s t : Source (Recording D W)) (xs : List SourceAnswer) → IsNew s → s.device.stop ≡ None → t.device.stop ≡ None
    → SourceDrawn (Records contents answered) s xs t → Replayed contents answered s.device xs t.device

-- An answer that a recording can have: not the end of input, and at most 1024 bytes.
abbrev pub IsLine : DeviceAnswer → Type 0
IsLine (Bytes bytes raw) = (bytes ≢ []) × (length bytes ≤ 1024)
IsLine (Resized columns rows) = Unit {0}
IsLine Woken = Unit {0}
IsLine Idle = Unit {0}
IsLine (Fault kind) = Unit {0}

-- A script of acts that a recording can have answers exactly what they describe, one answer for each act.
abbrev pub AnswersAsRecorded : (A : Type 0) → Type 0
AnswersAsRecorded A = (acts : List (Act A)) → AllByRecursion IsLine (map act_answer acts) → device_answers acts ≡ map act_answer acts

-- What is recorded of a device's answers is always such an answer (`IsLine`).
abbrev pub RecordsLines : Type 0
RecordsLines = (ws : List DeviceAnswer) → AllByRecursion IsPossible ws → AllByRecursion IsLine (recorded ws)

-- Any other run of these calls over the recording has the same result.
-- This holds if no call of either is refused memory, and no answer's bytes both end an event and leave a paste open.
abbrev pub IsOnlyResult : List DeviceAnswer → List Call → List Replied → List Seen → Type 0
IsOnlyResult device_answers calls replies held = PastesApart device_answers → AllByRecursion IsUnrefused replies
    → (others : List Said) (kept : List Seen) (other : Plays device_answers calls others kept) → AllByRecursion IsUnrefused other.replies
    → (map shown replies ≡ others) × (held ≡ kept)

-- What a reader's calls over a recorder draw is replayed, as long as the recording goes on.
-- If nothing follows the end of input, the same calls over the recording have the same result, which is the only one.
abbrev pub PlaysAlike : {D W : Type 0} → (W → Option (List ℕ)) → (D → List DeviceAnswer → D → Type 0) → Type 0
PlaysAlike {D} {W} contents answered = (s t : Source (Recording D W)) (calls : List Call) (drawn : List (List SourceAnswer)) (replies : List Replied) (last : EventStore)
    → IsNew s → s.device.stop ≡ None → t.device.stop ≡ None → SourceDrawn (Records contents answered) s (all_answers drawn) t → Run empty calls drawn replies last
    → (r : Replayed contents answered s.device (all_answers drawn) t.device) × (EndsLast r.given →
    Plays (recorded r.given) calls (map shown replies) (map (λ h. h.0) last.held) × IsOnlyResult (recorded r.given) calls replies (map (λ h. h.0) last.held))

-- What a shared reader over a recorder draws is replayed, as long as the recording goes on. The reader is new and
-- holds nothing at first.
-- If nothing follows the end of input, the events taken and those held are together, each once, the first events of
-- the recording.
abbrev pub HistoriesReplay : {D W : Type 0} → (W → Option (List ℕ)) → (D → List DeviceAnswer → D → Type 0) → Type 0
HistoriesReplay {D} {W} contents answered = (o t : ReaderState (Source (Recording D W))) (log : List Entry)
    → IsNew o.source → o.store ≡ empty → o.source.device.stop ≡ None → t.source.device.stop ≡ None → Runs (SourceDrawn (Records contents answered)) o log t
    → (r : Replayed contents answered o.source.device (history.answers_of log) t.source.device) × (EndsLast r.given → IsAccounted (recorded r.given) (taken_by log) t.store.held)
