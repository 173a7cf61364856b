-- Why a command was stopped, and what was written before that.
use Rattle.std.specs.Prelude.{◌≡◌, ℕ, List, Option}
use Rattle.std.specs.declared.io.Error.{Error}
use Rattle.std.specs.declared.io.ErrorKind.TheVariants as kind
use Rattle.std.specs.IoError.{error_kind}
use Rattle.crossterm_command.specs.Writing.{AppendsFrontOfText, AppendsText}
use Rattle.crossterm_command.specs.declared.fault.CommandFault.{CommandFault}
use Rattle.crossterm_command.specs.declared.fault.CommandFault.TheVariants.{Writer, Text, Both, Flush}

-- The error returned for a fault: the writer's or the flush's own if it alone failed, else one of kind `Other`.
abbrev pub Answers : CommandFault → Error → Type 0
Answers (Writer e) answer = answer ≡ e
Answers Text answer = error_kind answer ≡ kind.Other
Answers (Both e) answer = error_kind answer ≡ kind.Other
Answers (Flush e) answer = answer ≡ e

-- If the writer alone failed, known bytes grew by a beginning of the text. Else the command failed by itself.
abbrev pub Stopped : CommandFault → Option (List ℕ) → Type 0 → Option (List ℕ) → Option (List ℕ) → Type 0
Stopped (Writer e) text failed old new = AppendsFrontOfText old new text
Stopped Text text failed old new = failed
Stopped (Both e) text failed old new = failed
Stopped (Flush e) text failed old new = ⊥

-- As `Stopped`, for a command that is flushed: if the flush alone failed, known bytes grew by the whole text.
abbrev pub Unsent : CommandFault → Option (List ℕ) → Type 0 → Option (List ℕ) → Option (List ℕ) → Type 0
Unsent (Writer e) text failed old new = Stopped (Writer e) text failed old new
Unsent Text text failed old new = Stopped Text text failed old new
Unsent (Both e) text failed old new = Stopped (Both e) text failed old new
Unsent (Flush e) text failed old new = AppendsText old new text
