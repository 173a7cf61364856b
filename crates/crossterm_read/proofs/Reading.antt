-- What one read answers.
use Rattle.std.proofs.Common.{◌≡◌, ◌≤◌, ◌<◌, ℕ, Bool, Option, None, Some, List, [], ◌∷◌, take, length, refl, sym, ap, subst, ◌∙◌, append-nil}
use Rattle.std.proofs.lemmas.List.{length-take-le}
use Rattle.std.specs.Io.KnownBytes.{Consumes, IsAtEnd}
use Rattle.crossterm_read.specs.Device.{Bytes}
use Rattle.crossterm_read.specs.Reading.{ReadingAnswers, AnswersEnd, AreSpent}

no_bytes : (bytes : List ℕ) (raw : Bool) → AnswersEnd (Bytes bytes raw ∷ []) → bytes ≡ []
no_bytes [] raw e = refl
no_bytes (x ∷ xs) raw e = absurd e

no_count : (n : ℕ) (buffer : List ℕ) → n ≤ length buffer → take n buffer ≡ [] → n ≡ 0
no_count n buffer within e = sym (length-take-le n buffer within) ∙ ap length e

spent : (before after : Option (List ℕ)) → IsAtEnd after → AreSpent before after
spent None after e = tt
spent (Some xs) after e = e

-- The bytes of a read are answered, and the end only if it gave none.
pub read_answers : (before after : Option (List ℕ)) (n : ℕ) (buffer : List ℕ) (raw : Bool) → n ≤ length buffer → 0 < length buffer
    → Consumes before after (take n buffer) → (n ≡ 0 → 0 < length buffer → IsAtEnd after) → ReadingAnswers before (Bytes (take n buffer) raw ∷ []) after
read_answers before after n buffer raw within room consumed ends = (
  subst (λ (l : List ℕ). Consumes before after l) (sym (append-nil (take n buffer))) consumed,
  λ e. spent before after (ends (no_count n buffer within (no_bytes (take n buffer) raw e)) room),
)
