-- The rule of the slot that a shared reader is kept in, and what a take and a put promise.
use Rattle.std.specs.Prelude.{◌≡◌, ◌≢◌, ◌⊎◌, ◌<◌, ◌+◌, ◌-◌, ◌^◌, ℕ, suc, pred, true, false, nat_lt, if◌then◌else◌, List, [], ◌∷◌, ◌++◌, length, Some, None}
use mathlib.Core.Option.{some}
use lib.ListN.{get_elem?}
use Rattle.crossterm_read.specs.Answers.{SourceAnswer}
use Rattle.crossterm_read.specs.History.{Entry, Known, Meeting, StartsWith, Makes, Runs, are_of, calls_by}
use Rattle.crossterm_read.specs.inside.Numbers.{IsOrderly}
use Rattle.crossterm_read.specs.Store.{ReaderState}

-- Before a reader is put in there is one pass, which knows nothing.
abbrev pub newcomer : {S : Type 0} → Known S
newcomer = record { number = 0; passes = 0; spare = 0; opening = None; seen = []; mine = []; has = false; met = None }

-- The first pass, which makes so many others. It represents those that it hasn't made yet.
abbrev pub first_pass : {S : Type 0} → ReaderState S → ℕ → ℕ → Known S
first_pass o others left = record { number = 0; passes = suc others; spare = left; opening = Some o; seen = []; mine = []; has = false; met = None }

-- The first pass after one more was made of it.
abbrev pub one_less : {S : Type 0} → Known S → Known S
one_less v = record v { spare = pred v.spare }

-- The pass that was made of it.
abbrev pub one_more : {S : Type 0} → Known S → Known S
one_more v = record v { number = v.passes - v.spare; spare = 0 }

-- The longer one of two lists.
abbrev pub longer : List Entry → List Entry → List Entry
longer xs ys = if nat_lt (length xs) (length ys) then ys else xs

-- A pass takes in what another has seen.
abbrev pub taught : {S : Type 0} → Known S → Known S → Known S
taught v w = record v { seen = longer v.seen w.seen; met = Some (record { other = w.number; theirs = w.seen; ours = v.seen }) }

module _ {S : Type 0} (drawn : S → List SourceAnswer → S → Type 0) where
  -- The history, as one pass sees it.
  pub record Agrees (o : ReaderState S) (passes : ℕ) (log : List Entry) (by : ℕ) (v : Known S) : Type 0 where
    pub number : v.number ≡ by
    pub passes_so : v.passes ≡ passes
    pub spare : by ≢ 0 → v.spare ≡ 0
    pub opening : v.opening ≡ Some o
    pub seen : StartsWith log v.seen
    pub mine : calls_by by v.seen ≡ v.mine
    pub all_mine : calls_by by log ≡ v.mine
    pub has : v.has ≡ true → v.seen ≡ log
    pub met : (m : Meeting) → v.met ≡ Some m → StartsWith v.seen m.ours × StartsWith v.seen m.theirs × (v.number ≢ m.other)

  -- No pass has the reader.
  abbrev pub Nobody : List (Known S) → Type 0
  Nobody views = (by : ℕ) (v : Known S) → get_elem? views by ≡ some v → v.has ≡ false

  -- One pass has the reader.
  pub record Holder (views : List (Known S)) : Type 0 where
    pub by : ℕ
    pub v : Known S
    pub there : get_elem? views by ≡ some v
    pub has : v.has ≡ true
    pub alone : (j : ℕ) (u : Known S) → get_elem? views j ≡ some u → u.has ≡ true → j ≡ by

  -- The reader is in the slot as the history left it, or one pass has it.
  abbrev pub ReaderPlace : List (ReaderState S) → List (Known S) → ReaderState S → Type 0
  ReaderPlace items views now = ((items ≡ now ∷ []) × Nobody views) ⊎ ((items ≡ []) × Holder views)

  -- There is one legal history from the opening state, which some pass has seen whole. The passes are those that the reader was opened for, and each call is
  -- one of theirs.
  pub record Open (items : List (ReaderState S)) (views : List (Known S)) : Type 0 where
    pub opening : ReaderState S
    pub passes : ℕ
    pub log : List Entry
    pub now : ReaderState S
    pub orderly : IsOrderly opening.store.held opening.store.arrivals
    pub fits : opening.store.arrivals < 2 ^ 64
    pub runs : Runs drawn opening log now
    pub whole : (by : ℕ) × (v : Known S) × (get_elem? views by ≡ some v) × (v.seen ≡ log)
    pub place : ReaderPlace items views now
    pub each : (by : ℕ) (v : Known S) → get_elem? views by ≡ some v → Agrees opening passes log by v
    pub count : (v : Known S) → get_elem? views 0 ≡ some v → length views + v.spare ≡ passes
    pub callers : are_of (length views) log ≡ true

  -- The rule of the slot.
  abbrev pub SlotRule : List (ReaderState S) → List (Known S) → Type 0
  SlotRule items views = ((items ≡ []) × (views ≡ newcomer ∷ [])) ⊎ Open items views

  -- A take promises this: the pass has seen the whole history, and has the reader as that left it.
  pub record Took (v : Known S) (x : ReaderState S) (w : Known S) : Type 0 where
    pub opening : ReaderState S
    pub between : List Entry
    pub opened : v.opening ≡ Some opening
    pub orderly : IsOrderly opening.store.held opening.store.arrivals
    pub fits : opening.store.arrivals < 2 ^ 64
    pub runs : Runs drawn opening (v.seen ++ between) x
    pub others : calls_by v.number between ≡ []
    pub callers : are_of v.passes (v.seen ++ between) ≡ true
    pub after : w ≡ record v { seen = v.seen ++ between; has = true }

  -- A put requires this: the pass has the reader, and one such call led from the state that the history left to the
  -- reader's.
  pub record ProducesCall (made : ReaderState S → Entry → ReaderState S → Type 0) (v : Known S) (x : ReaderState S) : Type 0 where
    pub opening : ReaderState S
    pub found : ReaderState S
    pub call : Entry
    pub such : made found call x
    pub by : call.by ≡ v.number
    pub opened : v.opening ≡ Some opening
    pub has : v.has ≡ true
    pub runs : Runs drawn opening v.seen found
    pub makes : Makes drawn call found x

  -- A put promises this: the call is the last one of the history, and of its pass.
  abbrev pub Put : (ReaderState S → Entry → ReaderState S → Type 0) → Known S → ReaderState S → Known S → Type 0
  Put made v x w = (b : ProducesCall made v x) × (w ≡ record v { seen = v.seen ++ b.call ∷ []; mine = v.mine ++ b.call ∷ []; has = false })

  -- The knowledge of a pass after it met another.
  pub record Learnt (v : Known S) : Type 0 where
    pub opening : ReaderState S
    pub left : ReaderState S
    pub opened : v.opening ≡ Some opening
    pub orderly : IsOrderly opening.store.held opening.store.arrivals
    pub runs : Runs drawn opening v.seen left
    pub mine : calls_by v.number v.seen ≡ v.mine
    pub callers : are_of v.passes v.seen ≡ true
    pub met : (m : Meeting) → v.met ≡ Some m → StartsWith v.seen m.ours × StartsWith v.seen m.theirs × (v.number ≢ m.other)
