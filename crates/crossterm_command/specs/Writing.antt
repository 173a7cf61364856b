-- By what a writer's bytes grow, if they are known.
use Rattle.std.specs.Prelude.{◌≡◌, ◌≢◌, ℕ, List, ◌++◌, Option, Some, None, IfSome, ◌⊎◌}
use Rattle.std.specs.declared.io.ErrorKind.{ErrorKind}
use Rattle.std.specs.declared.io.ErrorKind.TheVariants.{Other}
use Rattle.std.specs.Fmt.{WritesInCalls}
use Rattle.std.specs.Io.KnownBytes.{Appends, Keeps}

-- A text was written, if there is one: by several calls of `write_str`, or by one.
abbrev pub Writes : {W : Type 0} → (W → List ℕ → W → Type 0) → W → Option (List ℕ) → W → Type 0
Writes took old text new = IfSome text (λ bs. WritesInCalls took old bs new ⊎ took old bs new)

-- Known bytes grew by the text, if there is one.
abbrev pub AppendsText : Option (List ℕ) → Option (List ℕ) → Option (List ℕ) → Type 0
AppendsText old new text = IfSome text (Appends old new)

-- Known bytes grew by a beginning of the text.
pub record AppendsFront (old new : Option (List ℕ)) (text : List ℕ) : Type 0 where
  pub front : List ℕ
  pub rest : List ℕ
  pub split : text ≡ front ++ rest
  pub grown : Appends old new front

-- Known bytes grew by a beginning of the text, if there is one.
abbrev pub AppendsFrontOfText : Option (List ℕ) → Option (List ℕ) → Option (List ℕ) → Type 0
AppendsFrontOfText old new text = IfSome text (AppendsFront old new)

-- A command was stopped with an error of this kind.
pub record Stops (kind : ErrorKind) (text : Option (List ℕ)) (failed : Type 0) (old new : Option (List ℕ)) : Type 0 where
  -- If it isn't `Other`, known bytes grew by a beginning of its text.
  pub front : kind ≢ Other → AppendsFrontOfText old new text
  -- If it is `Other`, they did so too, or the command failed by itself.
  pub cause : AppendsFrontOfText old new text ⊎ failed

-- A writer that drops all behind its first error takes a text; the errors before and after say how much of it.
abbrev pub WriterTakes : {E : Type 0} → Option (List ℕ) → Option E → List ℕ → Option (List ℕ) → Option E → Type 0
WriterTakes old None text new None = Appends old new text
WriterTakes old None text new (Some e) = AppendsFront old new text
WriterTakes old (Some e) text new None = ⊥
WriterTakes old (Some e) text new (Some f) = Keeps old new
