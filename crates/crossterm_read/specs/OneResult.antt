-- Two runs of the same calls over the same answers have one result, if no memory was refused.
use Rattle.std.specs.Prelude.{◌≡◌, ◌≢◌, false, List, [], ◌∷◌, Some, None}
use Rattle.std.specs.List.{AllByRecursion}
use Rattle.std.specs.declared.io.ErrorKind.TheVariants.{OutOfMemory}
use Rattle.crossterm_parse.specs.declared.marked.Marked.{Marked}
use Rattle.crossterm_types.specs.Seen.{Seen}
use Rattle.crossterm_read.specs.Calls.{Plays}
use Rattle.crossterm_read.specs.Device.{DeviceAnswer}
use Rattle.crossterm_read.specs.Outcomes.{Outcome, Ended, Single, Happens}
use Rattle.crossterm_read.specs.Replies.{Replied, ToPoll, ToTake, ToQuery, Fault, Said, Polled, Came, Faulted}
use Rattle.crossterm_read.specs.declared.read.call.Call.{Call}
use Rattle.crossterm_read.specs.declared.read.call.Call.TheVariants as call

-- A reply of a call that wasn't refused memory. Flags without attributes may be a refusal, so they don't count.
abbrev pub IsUnrefused : Replied → Type 0
IsUnrefused (ToPoll ready) = Unit {0}
IsUnrefused (ToTake x) = Unit {0}
IsUnrefused (ToQuery x (Some y)) = Unit {0}
IsUnrefused (ToQuery x None) = ⊥
IsUnrefused (Fault kind) = kind ≢ OutOfMemory

-- Such a reply, as a caller sees it, if the call is no query for the keyboard flags.
abbrev pub ShowsUnrefused : Said → Type 0
ShowsUnrefused (Polled ready) = Unit {0}
ShowsUnrefused (Came x) = Unit {0}
ShowsUnrefused (Faulted kind) = kind ≢ OutOfMemory

-- A call that is no query for the keyboard flags.
abbrev pub IsNoKeyboardQuery : Call → Type 0
IsNoKeyboardQuery (call.Poll tries f) = Unit {0}
IsNoKeyboardQuery (call.Read tries f) = Unit {0}
IsNoKeyboardQuery (call.Take f) = Unit {0}
IsNoKeyboardQuery (call.Position tries) = Unit {0}
IsNoKeyboardQuery (call.Keyboard tries) = ⊥

-- Bytes that end an event leave no paste open.
abbrev pub IsApart : Outcome → Type 0
IsApart (Ended [] pasting) = Unit {0}
IsApart (Ended (e ∷ es) pasting) = pasting ≡ false
IsApart (Single x) = Unit {0}

-- None of these answers has bytes that both end an event and leave a paste open.
abbrev pub PastesApart : List DeviceAnswer → Type 0
PastesApart device_answers =
    (outcomes : List Outcome) (undecided : List Marked) → Happens [] device_answers outcomes undecided → AllByRecursion IsApart outcomes

-- Two runs of the same calls over the same answers show the same replies and hold the same events, if no call was
-- refused memory.
abbrev pub OneResult : Type 0
OneResult = (device_answers : List DeviceAnswer) (calls : List Call) (answers others : List Said) (held kept : List Seen) → PastesApart device_answers
    → (p : Plays device_answers calls answers held) → AllByRecursion IsUnrefused p.replies
    → (q : Plays device_answers calls others kept) → AllByRecursion IsUnrefused q.replies
    → (answers ≡ others) × (held ≡ kept)

-- The same by what callers see alone, if no call is a query for the keyboard flags.
abbrev pub OneShown : Type 0
OneShown = (device_answers : List DeviceAnswer) (calls : List Call) (answers others : List Said) (held kept : List Seen) → PastesApart device_answers
    → AllByRecursion IsNoKeyboardQuery calls
    → Plays device_answers calls answers held → AllByRecursion ShowsUnrefused answers
    → Plays device_answers calls others kept → AllByRecursion ShowsUnrefused others
    → (answers ≡ others) × (held ≡ kept)
