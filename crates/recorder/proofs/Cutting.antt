-- The first part of a text, and what is behind it.
use Rattle.std.proofs.Common.{◌≡◌, ℕ, ◌==◌, ◌<◌, ◌+◌, List, [], ◌∷◌, length, take, drop, Some, None, arith, ap, ◌∙◌}
use Rattle.std.specs.List.{position_or_len}
use Rattle.std.proofs.lemmas.List.Sums.{fails_before_first, position_or_len_is}
use Rattle.std.proofs.lemmas.List.Splits.{length-slice_split, slice_split_none, slice_split_first}
use Rattle.std.proofs.lemmas.Bool.{false_from_ne_true}
use Rattle.memchr.specs.Find.{IsFirstByte, is_byte}
use Rattle.recorder.specs.Reads.{parts}

pub cut_some : (c : ℕ) (bytes : List ℕ) (i : ℕ) → IsFirstByte (is_byte c) bytes (Some i) → parts c bytes ≡ take i bytes ∷ parts c (drop (i + 1) bytes)
cut_some c bytes i f =
    let within : i < length bytes = f.0.high in
    let is : position_or_len (λ b. b == c) bytes ≡ i = position_or_len_is (λ b. b == c) bytes i 0 (omega (arith, within))
    (λ k l. false_from_ne_true _ (f.0.before k (omega arith) l)) (λ _. f.1) in
    slice_split_first (λ b. b == c) bytes 0 (omega (arith, is, within))
    ∙ ap (λ n. take n bytes ∷ parts c (drop (n + 1) bytes)) is

pub cut_none : (c : ℕ) (bytes : List ℕ) → IsFirstByte (is_byte c) bytes None → parts c bytes ≡ bytes ∷ []
cut_none c bytes f =
    let is : position_or_len (λ b. b == c) bytes ≡ length bytes = position_or_len_is (λ b. b == c) bytes (length bytes) 0 (omega arith)
    (λ k l. false_from_ne_true _ (f k (omega arith) l)) (λ l. absurd (omega (arith, l))) in
    slice_split_none (λ b. b == c) bytes (λ k d l. fails_before_first (λ b. b == c) bytes k d (omega (arith, is, l)))

-- A text has a part.
pub parts_there : (c : ℕ) (bytes : List ℕ) → parts c bytes ≡ [] → ⊥
parts_there c bytes e = omega (arith, length-slice_split (λ b. b == c) bytes, ap length e)
