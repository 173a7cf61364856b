-- A terminal's modes and its size.
use Rattle.std.specs.Prelude.{◌≡◌, ◌⊎◌, ◌<◌, ◌^◌, ◌-◌, ℕ, List, Option, Some, None, Result, Ok, Err, ⊤}
use Rattle.std.specs.declared.io.Error.{Error}
use Rattle.crossterm.specs.Sizes.{both, size_in}
use Rattle.crossterm.specs.declared.terminal.size.WindowSize.{WindowSize}

-- A terminal: its device, and the mode before raw mode while that is on.
pub record Modes (D M : Type 0) : Type 0 where
  pub device : D
  pub prior : Option M

-- A call of a device of modes, with its result.
pub data ModeCall (M : Type 0) : Type 0 where
  -- It was asked for its present mode.
  Gets : Result M Error → ModeCall M
  -- It was asked to set the raw mode of this mode.
  SetsRaw : M → Result (Unit {0}) Error → ModeCall M
  -- It was asked to set this mode.
  Sets : M → Result (Unit {0}) Error → ModeCall M
  -- It was asked for its size.
  Sizes : Result WindowSize Error → ModeCall M

-- Nothing is promised of its results.
abbrev pub any_call : {D M : Type 0} → D → ModeCall M → D → Type 0
any_call _ _ _ = ⊤

-- An error comes only if the count of failures rose, or is at its greatest.
abbrev pub Refuses : ℕ → ℕ → Type 0
Refuses old new = (old < new) ⊎ (new ≡ 2 ^ 64 - 1)

-- Raw mode was switched on: the device returned its mode, which is kept, and set the raw mode of it.
pub record SwitchedOn {D M : Type 0} (answered : D → ModeCall M → D → Type 0) (old new : Modes D M) : Type 0 where
  pub mode : M
  pub between : D
  pub got : answered old.device (Gets (Ok mode)) between
  pub set : answered between (SetsRaw mode (Ok tt)) new.device
  pub kept : new.prior ≡ Some mode

-- Raw mode wasn't switched on, with this error of the device.
pub data NotOn {D M : Type 0} (answered : D → ModeCall M → D → Type 0) (old new : Modes D M) (e : Error) : Type 0 where
  -- It couldn't return its mode.
  not_got : answered old.device (Gets (Err e)) new.device → new.prior ≡ old.prior → NotOn answered old new e
  -- It couldn't set the raw mode of the mode that it returned.
  unset : (mode : M) (between : D) → answered old.device (Gets (Ok mode)) between → answered between (SetsRaw mode (Err e)) new.device → new.prior ≡ old.prior → NotOn answered old new e

-- What switching raw mode on did, by its result.
abbrev pub SwitchesOn : {D M : Type 0} → (D → ModeCall M → D → Type 0) → Modes D M → Result (Unit {0}) Error → Modes D M → Type 0
SwitchesOn answered old (Ok _) new = SwitchedOn answered old new
SwitchesOn answered old (Err e) new = NotOn answered old new e

-- Raw mode was switched off: the device set the mode that was kept, which is kept no longer.
pub record SwitchedOff {D M : Type 0} (answered : D → ModeCall M → D → Type 0) (old new : Modes D M) : Type 0 where
  pub mode : M
  pub kept : old.prior ≡ Some mode
  pub set : answered old.device (Sets mode (Ok tt)) new.device
  pub forgotten : new.prior ≡ None

-- Raw mode wasn't switched off: the device couldn't set the mode, which is still kept.
pub record NotOff {D M : Type 0} (answered : D → ModeCall M → D → Type 0) (old new : Modes D M) (e : Error) : Type 0 where
  pub mode : M
  pub kept : old.prior ≡ Some mode
  pub unset : answered old.device (Sets mode (Err e)) new.device
  pub still : new.prior ≡ old.prior

-- What switching raw mode off did, by its result.
abbrev pub SwitchesOff : {D M : Type 0} → (D → ModeCall M → D → Type 0) → Modes D M → Result (Unit {0}) Error → Modes D M → Type 0
SwitchesOff answered old (Ok _) new = SwitchedOff answered old new
SwitchesOff answered old (Err e) new = NotOff answered old new e

-- The value if there is one, else the error.
abbrev or_error : {X : Type 0} → Option X → Error → Result X Error
or_error (Some x) e = Ok x
or_error None e = Err e

-- A size: that of the window, else that of two texts of `tput` if both have one, else the device's error.
abbrev pub window_size : Result WindowSize Error → List ℕ → List ℕ → Result (ℕ × ℕ) Error
window_size (Ok size) columns lines = Ok (size.columns, size.rows)
window_size (Err e) columns lines = or_error (both (size_in columns) (size_in lines)) e
