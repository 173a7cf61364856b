use Rattle.std.proofs.Common.{◌≡◌, ◌+◌, ◌++◌, ◌/◌, ◌%◌, [], ◌∷◌, arith, refl, append_assoc, ◌∙◌}
use Rattle.std.proofs.lemmas.Fmt.{decimal_digit, decimal_step, length-decimal-le}
use Rattle.crossterm_style.proofs.digits.push_digits.Goals as goal
use Rattle.crossterm_style.proofs.digits.push_digits.Goals.{then-number-ge100, else-number-ge100}

pub returns-then-number-lt10 : goal.returns-then-number-lt10
returns-then-number-lt10 g c =
    let n = c.args.number in
    let e : n % 10 ≡ n = omega arith in
    record { short = length-decimal-le 3 n (omega arith) (omega arith) (omega arith); pushed = rw (c.push.ensures.ascii (omega arith), decimal_digit n (omega arith), e) refl }

pub returns-clause-short : goal.returns-clause-short
returns-clause-short g c = length-decimal-le 3 c.args.number (omega arith) (omega arith) (omega arith)

pub returns-clause-pushed : goal.returns-clause-pushed
returns-clause-pushed g c =
    let n = c.args.number in
    elim c.if-number-ge100.branch [
      | then-number-ge100 w ↦
          let e : n / 100 ≡ n / 10 / 10 = omega arith in
          rw (c.push-3.ensures.ascii (omega arith), c.push-2.ensures.ascii (omega arith), w.text-is, w.push-then-number-ge100.ensures.ascii (omega arith), decimal_step n (omega arith) (omega arith), decimal_step (n / 10) (omega arith) (omega arith), decimal_digit (n / 10 / 10) (omega arith), e)
          (append_assoc (c.args.text.now.bytes ++ (48 + n / 10 / 10) ∷ []) ((48 + n / 10 % 10) ∷ []) ((48 + n % 10) ∷ [])
          ∙ append_assoc c.args.text.now.bytes ((48 + n / 10 / 10) ∷ []) ((48 + n / 10 % 10) ∷ (48 + n % 10) ∷ []))
      | else-number-ge100 w ↦
          let e : n / 10 % 10 ≡ n / 10 = omega (arith, w.if-number-ge100.false) in
          rw (c.push-3.ensures.ascii (omega arith), c.push-2.ensures.ascii (omega arith), w.text-is, decimal_step n (omega arith) (omega arith), decimal_digit (n / 10) (omega (arith, w.if-number-ge100.false)), e)
          (append_assoc c.args.text.now.bytes ((48 + n / 10) ∷ []) ((48 + n % 10) ∷ []))
    ]
