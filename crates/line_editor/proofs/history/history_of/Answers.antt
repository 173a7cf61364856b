use Rattle.std.proofs.Common.{◌≡◌, ◌∙◌, sym, ap, rules, subst, List, ◌++◌, take}
use Rattle.std.proofs.lemmas.Bool.{eqb-true}
use Rattle.std.proofs.lemmas.List.{nil_from_length}
use Rattle.std.proofs.lemmas.Str.{chars-nil}
use Rattle.std.specs.Str.{chars}
use Rattle.line_editor.specs.Splits.{Split}
use Rattle.line_editor.proofs.Loading.{kept-nothing, loads, loads_step, with_line-short}
use Rattle.line_editor.proofs.history.history_of.Goals as goal

pub loop-rest-preserved : goal.loop-rest-preserved
loop-rest-preserved g c =
    let added = c.in_ok-load_line.ensures in
    let P : List Split → Type 0 = λ h. take c.args.limits.lines h ≡ h in
    record {
      utf8 = search rules;
      same = c.loop-rest.invariant.same
          ∙ loads_step c.args.limits c.loop-rest.history (chars c.loop-rest.rest.now) _ (chars c.first_line.result.1.now) c.first_line.ensures.line
          ∙ ap (λ (h : List Split). loads c.args.limits h (chars c.first_line.result.1.now)) (sym added);
      short = subst P (sym added) (with_line-short c.args.limits _ c.loop-rest.history c.loop-rest.invariant.short);
    }

pub returns : goal.returns
returns g c =
    let none = nil_from_length c.loop-rest.rest.now (eqb-true _ _ (sym c.loop-rest-test.ensures)) in
    sym (c.loop-rest.invariant.same ∙ ap (loads c.args.limits c.loop-rest.history) (ap chars none ∙ chars-nil)
    ∙ ap (λ t. take c.args.limits.lines (t ++ c.loop-rest.history)) (kept-nothing c.args.limits) ∙ c.loop-rest.invariant.short)
