-- Two reads in one legal history.
use Rattle.std.specs.Prelude.{◌≡◌, ◌≢◌, ◌++◌, ℕ, List, Option, Some}
use Rattle.std.specs.List.{slice_get}
use Rattle.std.specs.List.Sorted.{IsPermutation}
use Rattle.crossterm_types.specs.Seen.{Seen}
use Rattle.crossterm_read.specs.Answers.{SourceAnswer}
use Rattle.crossterm_read.specs.History.{Entry, Known, EachOnce, Runs, StartsWith, all_events, calls_by, taken_by}
use Rattle.crossterm_read.specs.Store.{IsLow, ReaderState}
use Rattle.crossterm_read.specs.Replies.{Said, ToTake, shown}

-- One legal history, which begins with all that two passes saw, has two calls with the replies `a` and `b`.
pub record ReadApart {S : Type 0} (drawn : S → List SourceAnswer → S → Type 0) (v w : Known S) (a b : Said) : Type 0 where
  pub opening : ReaderState S
  pub log : List Entry
  pub left : ReaderState S
  -- The history is a legal one.
  pub runs : Runs drawn opening log left
  -- Each event that arrived was taken once or is held.
  pub each_once : EachOnce opening log left
  -- The history begins with all that the one pass saw, and with all that the other one saw.
  pub ours : StartsWith log v.seen
  pub theirs : StartsWith log w.seen
  -- The two calls are at different places in the history.
  pub place : ℕ
  pub other_place : ℕ
  pub call : Entry
  pub other_call : Entry
  pub apart : place ≢ other_place
  pub there : slice_get log place ≡ Some call
  pub other_there : slice_get log other_place ≡ Some other_call
  -- One call returned `a`, and the other one `b`.
  pub said : a ≡ shown call.reply
  pub other_said : b ≡ shown other_call.reply
  -- While fewer than 2^64 - 1 events have arrived, the events that they took have two numbers, so none went to both.
  pub numbers : IsLow left.store.arrivals → (x y : Seen × ℕ) → call.reply ≡ ToTake (Some x) → other_call.reply ≡ ToTake (Some y) → x.1 ≢ y.1
  -- If the reader has no further pass, each event was taken by the one or by the other, once, or is held.
  pub none_lost : v.passes ≡ 2 → IsPermutation (all_events opening log) ((taken_by (calls_by v.number log) ++ taken_by (calls_by w.number log)) ++ left.store.held)
