use Rattle.std.proofs.Common.{◌≡◌, ◌∙◌, sym, ap, arith, drop}
use Rattle.std.proofs.lemmas.Str.{IsUtf8-had, chars_from_encodes}
use Rattle.std.specs.Prelude.{encode_utf8_all}
use Rattle.line_editor.specs.History.{saved}
use Rattle.line_editor.proofs.Loading.{saved_past, saved_step}
use Rattle.line_editor.proofs.history.saved.Goals as goal

pub loop-at-preserved-in-Continue-1 : goal.loop-at-preserved-in-Continue-1
loop-at-preserved-in-Continue-1 g c = record {
  inside = omega (arith, c.loop-at.invariant.inside);
  same = saved_step c.args.multiline c.args.history.now c.loop-at.at c.in-Some.line.now _ _ c.loop-at-test.true c.in-Some.ensures.text c.loop-at.invariant.same c.in_ok-push_line.ensures;
}

pub loop-at-preserved : goal.loop-at-preserved
loop-at-preserved g c = record {
  inside = omega (arith, c.loop-at.invariant.inside);
  same = saved_past c.args.multiline c.args.history.now c.loop-at.at _ c.loop-at-test.true c.in_default.ensures.text c.loop-at.invariant.same;
}

pub returns : goal.returns
returns g c =
    let start : c.loop-at.at ≡ 0 = omega (arith, c.loop-at-test.false) in
    sym (chars_from_encodes (saved c.args.multiline c.args.history.now) _ (IsUtf8-had _ c.loop-at.text.ok)
    (ap (λ n. encode_utf8_all (saved c.args.multiline (drop n c.args.history.now))) (sym start) ∙ sym c.loop-at.invariant.same))
