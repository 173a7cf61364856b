-- Calls of a reader, and what a recording of them replays.
use Rattle.std.specs.Prelude.{◌≡◌, ℕ, List, Option}
use Rattle.std.specs.List.{AllByRecursion}
use Rattle.crossterm_types.specs.Seen.{Seen}
use Rattle.crossterm_read.specs.Answers.{SourceAnswer}
use Rattle.crossterm_read.specs.Calls.{Plays}
use Rattle.crossterm_read.specs.Device.{DeviceAnswer}
use Rattle.crossterm_read.specs.OneResult.{PastesApart, ShowsUnrefused}
use Rattle.crossterm_read.specs.Replies.{Said}
use Rattle.crossterm_read.specs.declared.read.call.Call.{Call}
use Rattle.recorder.specs.Recording.{Recording, recorded}
use Rattle.recorder.specs.Replaying.{EndsLast, Replayed}

-- Any other result of these calls over a script with these answers is the same.
-- This holds if no call of either is refused memory, and no answer's bytes both end an event and leave a paste open.
abbrev pub IsOnly : List DeviceAnswer → List Call → List Said → List Seen → Type 0
IsOnly device_answers calls replies held = PastesApart device_answers → AllByRecursion ShowsUnrefused replies
    → (others : List Said) (kept : List Seen) → Plays device_answers calls others kept → AllByRecursion ShowsUnrefused others → (replies ≡ others) × (held ≡ kept)

-- A recorder went from `s` to `t` while a reader made these calls, and what it wrote reads back.
-- If nothing came after the end of input, the same calls over a script of the recording have this result, and only it
-- (`IsOnly`).
abbrev pub CallsReplay : {D W : Type 0} → (W → Option (List ℕ)) → (D → List DeviceAnswer → D → Type 0) → Recording D W → Recording D W → List Call → List Said → List Seen → Type 0
CallsReplay contents answered s t calls replies held =
    (xs : List SourceAnswer) × (r : Replayed contents answered s xs t) × (EndsLast r.given → Plays (recorded r.given) calls replies held × IsOnly (recorded r.given) calls replies held)
