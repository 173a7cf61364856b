-- What one more byte does to a number that is read from its digits.
use Rattle.std.proofs.Common.{◌≡◌, ℕ, ◌+◌, ◌-◌, ◌*◌, Bool, true, false, cond, min, List, [], ◌∷◌, filter, sym, ap, ◌∙◌, arith}
use Rattle.std.specs.List.{fold}
use Rattle.crossterm.specs.Sizes.{is_size_digit, size_after}

-- A number that is cut at 65536 before a digit is the same as one that is cut after it.
cut_between : (n d : ℕ) → min (min n 65536 * 10 + d) 65536 ≡ min (n * 10 + d) 65536
cut_between n d = omega arith

-- A number may be cut before further digits.
cut : (n : ℕ) (digits : List ℕ) → min (fold (λ n digit. n * 10 + (digit - 48)) (min n 65536) digits) 65536 ≡ min (fold (λ n digit. n * 10 + (digit - 48)) n digits) 65536
cut n [] = omega arith
cut n (d ∷ ds) =
    sym (cut (min n 65536 * 10 + (d - 48)) ds) ∙ ap (λ m. min (fold (λ n digit. n * 10 + (digit - 48)) m ds) 65536) (cut_between n (d - 48)) ∙ cut (n * 10 + (d - 48)) ds

pub digit_read : (n byte : ℕ) (rest : List ℕ) → is_size_digit byte ≡ true → size_after (min (n * 10 + (byte - 48)) 65536) rest ≡ size_after n (byte ∷ rest)
digit_read n byte rest is =
    cut (n * 10 + (byte - 48)) (filter is_size_digit rest)
    ∙ ap (λ (b : Bool). min (fold (λ n digit. n * 10 + (digit - 48)) n (cond b (byte ∷ filter is_size_digit rest) (filter is_size_digit rest))) 65536) (sym is)

pub other_read : (n byte : ℕ) (rest : List ℕ) → is_size_digit byte ≡ false → size_after n rest ≡ size_after n (byte ∷ rest)
other_read n byte rest is = ap (λ (b : Bool). min (fold (λ n digit. n * 10 + (digit - 48)) n (cond b (byte ∷ filter is_size_digit rest) (filter is_size_digit rest))) 65536) (sym is)
