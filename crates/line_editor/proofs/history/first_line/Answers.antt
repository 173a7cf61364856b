use Rattle.std.proofs.Common.{◌≡◌, ◌-◌, ◌∙◌, ap, take, arith}
use Rattle.std.proofs.lemmas.Str.{IsCharBoundary-start}
use Rattle.std.specs.List.{list_all}
use Rattle.line_editor.proofs.Loading.{is_within, line_found, line_whole}
use Rattle.line_editor.proofs.Stepping.{chars_before-start}
use Rattle.line_editor.proofs.history.first_line.Goals as goal

pub loop-end-init : goal.loop-end-init
loop-end-init c = record {
  boundary = IsCharBoundary-start c.args.text.now c.utf8.text;
  within = ap (list_all is_within) (chars_before-start c.args.text.now);
}

pub returns-then-c-eq10-clause-line : goal.returns-then-c-eq10-clause-line
returns-then-c-eq10-clause-line c =
    let end = c.loop-end.end in
    let whole : end - 0 ≡ end = omega arith in
    line_found c.args.text.now end c.utf8.text c.loop-end.invariant.boundary c.loop-end.invariant.within c.range.result.now c.range_from.result.now _ _
    c.char_after-c.ensures.from c.if-c-eq10.true (c.range.ensures.value ∙ ap (λ n. take n c.args.text.now) whole) c.range_from.ensures.value

pub returns-clause-line : goal.returns-clause-line
returns-clause-line c =
    line_whole c.args.text.now c.loop-end.end c.utf8.text c.loop-end.invariant.boundary c.loop-end.invariant.within c.loop-end-test.false
