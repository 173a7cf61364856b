-- How a session changes its terminal's mode, and how it begins.
use Rattle.std.specs.Prelude.{◌≡◌, ◌⊎◌, ◌+◌, ℕ, List, Some, None, Result, IsOk, IsTrue, OnOk, is_some, map}
use Rattle.std.specs.List.{range_with_len}
use Rattle.std.specs.declared.io.Error.{Error}
use Rattle.crossterm_read.specs.Calls.{empty}
use Rattle.crossterm_read.specs.History.{Known, opened}
use Rattle.crossterm_read.specs.OverScripts.{IsNew}
use Rattle.crossterm_read.specs.Store.{ReaderState}
use Rattle.crossterm_read.specs.Sources.{Source}
use Rattle.crossterm.specs.Modes.{ModeCall, Modes, SwitchesOff}

-- Raw mode ends, if it is on: the device was asked to set the mode from before, and answered `r`.
-- If this succeeded, the device has that mode. If raw mode is off, nothing is done.
abbrev pub EndsRaw : {D M : Type 0} → (D → M) → (D → ModeCall M → D → Type 0) → Modes D M → Result (Unit {0}) Error → Modes D M → Type 0
EndsRaw current answered old r new =
    ((old.prior ≡ None) × IsOk r × (new ≡ old)) ⊎ (IsTrue (is_some old.prior) × SwitchesOff answered old r new × OnOk r (Some (current new.device) ≡ old.prior))

-- The only pass of a reader over this source. Nothing was read yet.
abbrev pub BeginsAt : {S : Type 0} → S → Known S → Type 0
BeginsAt {S} source pass = (o : ReaderState S) × (o.source ≡ source) × (o.store ≡ empty) × (pass ≡ opened o 1 0)

-- The only pass of a reader over a device that was asked for nothing yet.
abbrev pub BeginsOver : {D : Type 0} → D → Known (Source D) → Type 0
BeginsOver {D} device pass = (o : ReaderState (Source D)) × IsNew o.source × (o.source.device ≡ device) × (o.store ≡ empty) × (pass ≡ opened o 1 0)

-- The first pass of a reader over a device that was asked for nothing yet, and `others` further passes, which have
-- the lower numbers.
abbrev pub BeginsShared : {D : Type 0} → D → ℕ → Known (Source D) → List (Known (Source D)) → Type 0
BeginsShared {D} device others pass shares = (o : ReaderState (Source D)) × IsNew o.source × (o.source.device ≡ device) × (o.store ≡ empty)
    × (pass ≡ opened o (others + 1) others) × (shares ≡ map (opened o (others + 1)) (range_with_len 0 others))
