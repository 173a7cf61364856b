use Rattle.std.proofs.Common.{◌≡◌, ℕ, arith, subst, sym, take}
use Rattle.crossterm_parse.specs.Transitions.{OpensWith}
use Rattle.crossterm_parse.proofs.RunLaws.{opens_two, opens_three}
use Rattle.crossterm_parse.proofs.state.State.open.Goals as goal

pub returns-then-count-lt3-clause-opens : goal.returns-then-count-lt3-clause-opens
returns-then-count-lt3-clause-opens g c some =
    let low = c.open_front-count.ensures.few some in
    let two : c.open_front-count.result ≡ 2 = omega (arith, low, c.if-count-lt3.true) in
    subst (λ (n : ℕ). OpensWith c.open_front-count.new.self (take n c.args.bytes.now)) (sym two)
    (opens_two c.open_front-count.new.self c.args.bytes.now (omega (arith, c.if-bytes-lt3.false)) (omega (arith, c.if-bytes-ne27.false)) (c.open_front-count.ensures.two two))

pub returns-clause-opens : goal.returns-clause-opens
returns-clause-opens g c some =
    let three : c.open_front-count.result ≡ 3 = omega (arith, c.open_front-count.ensures.most, c.if-count-lt3.false) in
    opens_three c.open_front-count.new.self c.put_numbers.new.self c.args.bytes.now c.put_numbers.result (omega (arith, c.if-bytes-lt3.false)) (omega (arith, c.if-bytes-ne27.false))
    (c.open_front-count.ensures.three three) c.put_numbers.ensures.opens
