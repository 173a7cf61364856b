use Rattle.std.specs.Prelude.{◌≡◌, ℕ}
use Rattle.std.proofs.Common.{ap, subst}
use Rattle.crossterm_read.specs.History.{opened}
use Rattle.crossterm_read.specs.PassViews.{knows, pass_number}
use Rattle.crossterm_read.specs.Shared.{IsPassOf}
use Rattle.own_terminal.proofs.Beginning.{all_only, only_one}
use Rattle.own_terminal.proofs.session.alone.Goals as goal

pub returns-clause-begins : goal.returns-clause-begins
returns-clause-begins g c =
    let reader = c.new-reader.result in
    let pass = c.in-Some.pass in
    let passes = c.in_ok-reader.passes.items in
    let one = only_one pass_number passes c.pop.new.self.items pass c.in-Some.ensures.items c.in_ok-reader.ensures.numbers in
    let first = all_only (λ p. IsPassOf c.in_ok-reader.reader p × (knows p ≡ opened reader 1 (pass_number p))) passes pass one.0 c.in_ok-reader.ensures.passes in
    (reader, ap (λ r. r.source) c.new-reader.ensures, ap (λ r. r.store) c.new-reader.ensures, subst (λ (n : ℕ). knows pass ≡ opened reader 1 n) one.1 first.1)
