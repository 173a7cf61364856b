-- The answers of a source.
use Rattle.std.specs.Prelude.{◌≡◌, ◌⊎◌, ℕ, List, [], ◌∷◌, Option, Some, None, Result, Ok, Err}
use Rattle.std.specs.IoError.{error_kind}
use Rattle.std.specs.List.{AllByRecursion}
use Rattle.std.specs.declared.io.Error.{Error}
use Rattle.std.specs.declared.io.ErrorKind.{ErrorKind}
use Rattle.std.specs.declared.io.ErrorKind.TheVariants.{OutOfMemory, UnexpectedEof, Interrupted}
use Rattle.crossterm_types.specs.Seen.{Seen, seen}
use Rattle.crossterm_types.specs.declared.event.InternalEvent.{InternalEvent}

-- One answer of a source.
pub data SourceAnswer : Type 0 where
  -- An event.
  Gave : Seen → SourceAnswer
  -- No event yet.
  Nothing : SourceAnswer
  -- An error of this kind.
  Failed : ErrorKind → SourceAnswer

-- The answer in what `try_read` returned.
abbrev pub answer_of : {A : Type 0} → Result (Option (InternalEvent A)) Error → SourceAnswer
answer_of (Ok (Some event)) = Gave (seen event)
answer_of (Ok None) = Nothing
answer_of (Err e) = Failed (error_kind e)

-- The events among the answers, in order.
abbrev pub gave : List SourceAnswer → List Seen
gave [] = []
gave (Gave x ∷ xs) = x ∷ gave xs
gave (Nothing ∷ xs) = gave xs
gave (Failed kind ∷ xs) = gave xs

-- The kinds of a source's own errors: memory was refused, the input ended, or it was woken. All others are the
-- device's.
abbrev pub IsOwn : ErrorKind → Type 0
IsOwn kind = (kind ≡ OutOfMemory) ⊎ (kind ≡ UnexpectedEof) ⊎ (kind ≡ Interrupted)

-- An answer that is no error.
abbrev pub IsNoFault : SourceAnswer → Type 0
IsNoFault (Gave x) = Unit {0}
IsNoFault Nothing = Unit {0}
IsNoFault (Failed kind) = ⊥

-- If none of the answers is an error, the device has failed as often as before.
abbrev pub IsSteady : {S : Type 0} → (S → ℕ) → S → List SourceAnswer → S → Type 0
IsSteady failed s zs t = AllByRecursion IsNoFault zs → failed t ≡ failed s
