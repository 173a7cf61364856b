-- The bytes of a question for the cursor's place.
use Rattle.std.proofs.Common.{◌≡◌, inl, inr, ℕ, List, [], Option, Result, refl, sym, subst, append-nil}
use Rattle.std.proofs.KnownBytes.{Appends-nil}
use Rattle.std.specs.Io.KnownBytes.{Appends}
use Rattle.std.specs.declared.io.Error.{Error}
use Rattle.crossterm_command.specs.Writing.{AppendsFront}
use Rattle.crossterm.specs.Asking.{InRawMode, Queries, raw_already, not_on, not_off, on_and_off}
use Rattle.crossterm.specs.Modes.{ModeCall, Modes}

queried : {X : Type 0} (old new : Option (List ℕ)) (text : List ℕ) (none : Type 0) (called : Result X Error → Type 0) (r : Result X Error) → Queries old new text none called r → AppendsFront old new text
queried old new text none called r (inl unasked) = unasked.0
queried old new text none called r (inr made) = record { front = text; rest = []; split = sym (append-nil text); grown = made.0 }

nothing : (old new : Option (List ℕ)) (text : List ℕ) → new ≡ old → AppendsFront old new text
nothing old new text is = record { front = []; rest = text; split = refl; grown = subst (λ x. Appends old x []) (sym is) (Appends-nil old) }

-- A beginning of the query, whatever raw mode did.
pub asks : {D M X : Type 0} (current : D → M) (answered : D → ModeCall M → D → Type 0) (failed : D → ℕ) (before after_it : Modes D M) (old new : Option (List ℕ)) (text : List ℕ)
    (same none : Type 0) (called : Result X Error → Type 0) (r : Result X Error)
    → InRawMode current answered failed before after_it ((new ≡ old) × same) (Queries old new text none called) r → AppendsFront old new text
asks current answered failed before after_it old new text same none called r (raw_already raw is made) = queried old new text none called r made
asks current answered failed before after_it old new text same none called r (not_on e off switched kept is why) = nothing old new text kept.0
asks current answered failed before after_it old new text same none called r (not_off e raw x off on made was kept is why) = queried old new text none called x made
asks current answered failed before after_it old new text same none called r (on_and_off raw off on made was mode) = queried old new text none called r made
