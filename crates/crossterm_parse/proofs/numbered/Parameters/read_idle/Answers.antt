use Rattle.std.proofs.Common.{rules, arith, sym, subst, take, get_or, ◌≡◌}
use Rattle.crossterm_parse.specs.Transitions.{Opens}
use Rattle.crossterm_parse.specs.declared.numbered.Parameters.{Parameters}
use Rattle.crossterm_parse.specs.declared.paste.Opening.TheVariants as opening
use Rattle.crossterm_parse.specs.declared.state.State.TheVariants.{Numbered, Sgr}
use Rattle.crossterm_parse.specs.declared.utf8.Validity.TheVariants.{Sound}
use Rattle.crossterm_parse.proofs.BlockLaws.{AreIdle, after_some, idle_numbers, idle_reports}
use Rattle.crossterm_parse.proofs.numbered.Parameters.read_idle.Goals as goal

pub returns-then-count-gt0-clause-numbered : goal.returns-then-count-gt0-clause-numbered
returns-then-count-gt0-clause-numbered c =
    let old = c.args.self.now in
    let bytes = c.args.bytes.now in
    let run = c.run_between-count in
    let sound : old.validity ≡ Sound = search rules in
    let idle : AreIdle old bytes run.result = λ k to. let is = run.ensures.between k (omega arith) to in
    (is.0, omega (arith, is.1, c.idle_digits-idle.ensures.most, c.if-idle-eq0.false), c.idle_digits-idle.ensures.idle (get_or bytes k 0) is.0 (omega (arith, is.1, c.if-idle-eq0.false))) in
    subst (λ (p : Parameters). Opens (Numbered old opening.Not) (Numbered p opening.Not) (take run.result bytes)) (after_some old bytes run.result (omega (arith, c.if-count-gt0.true)))
    (idle_numbers old bytes run.result run.ensures.within sound idle)

pub returns-then-count-gt0-clause-report : goal.returns-then-count-gt0-clause-report
returns-then-count-gt0-clause-report c =
    let old = c.args.self.now in
    let bytes = c.args.bytes.now in
    let run = c.run_between-count in
    let sound : old.validity ≡ Sound = search rules in
    let idle : AreIdle old bytes run.result = λ k to. let is = run.ensures.between k (omega arith) to in
    (is.0, omega (arith, is.1, c.idle_digits-idle.ensures.most, c.if-idle-eq0.false), c.idle_digits-idle.ensures.idle (get_or bytes k 0) is.0 (omega (arith, is.1, c.if-idle-eq0.false))) in
    subst (λ (p : Parameters). Opens (Sgr old) (Sgr p) (take run.result bytes)) (after_some old bytes run.result (omega (arith, c.if-count-gt0.true)))
    (idle_reports old bytes run.result run.ensures.within sound idle)
