-- Queries of a terminal: what is written, what is asked, and raw mode around both.
use Rattle.std.specs.Prelude.{◌≡◌, ◌⊎◌, ℕ, List, Option, Some, None, Result, Ok, Err, is_some, IsErr, IsTrue, codes}
use Rattle.std.specs.Io.KnownBytes.{Appends}
use Rattle.std.specs.Duration.{as_nanos}
use Rattle.std.specs.declared.io.Error.{Error}
use Rattle.std.specs.declared.time.Duration.{Duration}
use Rattle.crossterm_command.specs.Writing.{AppendsFront}
use Rattle.crossterm.specs.Modes.{ModeCall, Modes, Refuses, SwitchesOff, SwitchesOn}

-- The query for the cursor's position (DSR: ECMA-48, 8.3.35).
abbrev pub position_query : List ℕ
position_query = codes "\u{1b}[6n"

-- The query for the keyboard flags (kitty), and behind it that for the terminal's attributes (DA: ECMA-48, 8.3.24).
abbrev pub keyboard_query : List ℕ
keyboard_query = codes "\u{1b}[?u\u{1b}[c"

-- It holds for a limit of two seconds.
abbrev pub InTwoSeconds : (Duration → Type 0) → Type 0
InTwoSeconds P = (limit : Duration) × (as_nanos limit ≡ 2000000000) × P limit

-- A query writes its text, flushes, and makes its call. If the writer fails, a beginning of the text is written and no
-- call is made.
abbrev pub Queries : {X : Type 0} → Option (List ℕ) → Option (List ℕ) → List ℕ → Type 0 → (Result X Error → Type 0) → Result X Error → Type 0
Queries old new text no_call called q = (AppendsFront old new text × no_call × IsErr q) ⊎ (Appends old new text × called q)

-- A query in raw mode, which is switched on before it and off after it, unless it is on already.
pub data InRawMode {D M X : Type 0} (current : D → M) (answered : D → ModeCall M → D → Type 0) (failed : D → ℕ) (old new : Modes D M) (nothing : Type 0) (queried : Result X Error → Type 0) (result : Result X Error) : Type 0 where
  -- Raw mode was on: only the query is made.
  raw_already : IsTrue (is_some old.prior) → new ≡ old → queried result → InRawMode current answered failed old new nothing queried result
  -- Raw mode can't be switched on: that is the error, and nothing else is done.
  not_on : (e : Error) → old.prior ≡ None → SwitchesOn answered old (Err e) new → nothing → result ≡ Err e → Refuses (failed old.device) (failed new.device)
      → InRawMode current answered failed old new nothing queried result
  -- Raw mode can't be switched off after the query: that is the error, and raw mode stays on.
  not_off : (e : Error) (raw : Modes D M) (q : Result X Error) → old.prior ≡ None → SwitchesOn answered old (Ok tt) raw → queried q
      → SwitchesOff answered raw (Err e) new → new.prior ≡ Some (current old.device) → result ≡ Err e → Refuses (failed old.device) (failed new.device)
      → InRawMode current answered failed old new nothing queried result
  -- Raw mode was switched on, the query made, and the mode is as it was before.
  on_and_off : (raw : Modes D M) → old.prior ≡ None → SwitchesOn answered old (Ok tt) raw → queried result
      → SwitchesOff answered raw (Ok tt) new → current new.device ≡ current old.device → InRawMode current answered failed old new nothing queried result
