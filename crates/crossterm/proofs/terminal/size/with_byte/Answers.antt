use Rattle.std.proofs.Common.{◌≡◌, ◌∙◌, ap, ◌+◌, ◌-◌, ◌*◌, min, arith, true}
use Rattle.std.proofs.lemmas.Bool.Decides.{nat_tests}
use Rattle.crossterm.specs.Sizes.{is_size_digit, size_after}
use Rattle.crossterm.proofs.SizeLaws.{digit_read}
use Rattle.crossterm.proofs.terminal.size.with_byte.Goals as goal

pub returns-in-48-to-57-clause-read : goal.returns-in-48-to-57-clause-read
returns-in-48-to-57-clause-read c =
    let is : is_size_digit c.args.byte ≡ true = grind (arith, nat_tests, c.in-48-to-57) in
    let cut : c.min.result ≡ min (c.args.number * 10 + (c.args.byte - 48)) 65536 = grind (arith, c.min.ensures, c.from.ensures) in
    λ rest. ap (λ n. size_after n rest) cut ∙ digit_read c.args.number c.args.byte rest is
