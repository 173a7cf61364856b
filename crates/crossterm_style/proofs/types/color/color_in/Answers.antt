use Rattle.std.proofs.Common.{◌≡◌, ◌+◌, suc, drop, sym, ap, ◌∙◌, arith}
use mathlib.Core.Bool.{true≢false}
use Rattle.crossterm_style.specs.ColorNames.{entries}
use Rattle.crossterm_style.specs.Values.{color_in}
use Rattle.crossterm_style.proofs.NameLaws.{named_here, named_later, named_nowhere, none_yet}
use Rattle.crossterm_style.proofs.types.color.color_in.Goals as goal

pub returns-then-eq_ignore_ascii_case-clause-first :
    goal.returns-then-eq_ignore_ascii_case-clause-first
returns-then-eq_ignore_ascii_case-clause-first c =
    sym (named_here c.args.table.now c.args.text.now c.loop-name.name-index _ (omega arith) (c.eq_ignore_ascii_case.ensures.test.0 c.if-eq_ignore_ascii_case.true)) ∙ c.loop-name.invariant.left

pub returns-clause-named : goal.returns-clause-named
returns-clause-named c = named_nowhere _ _ _ c.loop-name-test.false c.loop-name.invariant.none

pub loop-name-preserved : goal.loop-name-preserved
loop-name-preserved c =
    let next : c.loop-name.name-index + 1 ≡ suc c.loop-name.name-index = omega arith in
    record {
      none = none_yet c.args.table.now c.args.text.now c.loop-name.name-index _ (omega arith) c.loop-name.invariant.none (λ e. true≢false (sym (c.eq_ignore_ascii_case.ensures.test.1 e) ∙ c.if-eq_ignore_ascii_case.false));
      left =
          ap (λ n. color_in (entries (drop n c.args.table.now)) c.args.text.now) next
          ∙ sym (named_later c.args.table.now c.args.text.now c.loop-name.name-index _ (omega arith) (λ e. true≢false (sym (c.eq_ignore_ascii_case.ensures.test.1 e) ∙ c.if-eq_ignore_ascii_case.false)))
          ∙ c.loop-name.invariant.left;
    }
