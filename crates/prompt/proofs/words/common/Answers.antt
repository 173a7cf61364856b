use Rattle.std.proofs.Common.{◌≡◌, ◌∙◌, ◌+◌, ◌++◌, ◌-◌, chars, take, drop, inl, inr, ap, sym, subst, arith}
use Rattle.std.proofs.lemmas.List.{nil_from_length}
use Rattle.std.proofs.lemmas.Str.{chars-nil, IsCharBoundary-start}
use Rattle.std.specs.Str.{IsCharBoundary, IsUtf8}
use Rattle.prompt.specs.Words.{common}
use Rattle.prompt.proofs.Sharing.{agree, differ, next-boundary, next-other, next-rest, other-ends, text-ends}
use Rattle.prompt.proofs.words.common.Goals.{in-None, in-Some+then-c-d}
use Rattle.prompt.proofs.words.common.Goals as goal

pub loop-c-init : goal.loop-c-init
loop-c-init c =
    let text = c.args.text.now in
    let other = c.args.other.now in
    let back = c.into_iter-c-iterator.result.b.rest.now in
    let all : other ≡ back = cc in
    record {
      boundary = IsCharBoundary-start text c.utf8.text;
      rest = cc;
      other = subst IsUtf8 all c.utf8.other;
      same = ap (λ t. common (chars text) (chars t)) all ∙ sym (ap (λ t. t ++ common (chars text) (chars back)) chars-nil);
    }

pub loop-c-preserved : goal.loop-c-preserved
loop-c-preserved c =
    let text = c.args.text.now in
    let other = c.args.other.now in
    let is = c.loop-c.invariant in
    let steps = c.in-Some.ensures.steps in
    let after = c.next.new.self.b.rest.now in
    let len = sym (ap (λ n. c.loop-c.len + n) c.len_utf8-len.ensures.value) in
    let left = is.rest ∙ steps.0.0 in
    record {
      boundary = subst (IsCharBoundary text) len (next-boundary text other _ c.loop-c.len c.utf8.text is.boundary is.other is.same _ _ _ after left steps.1.0);
      rest = ap (λ n. drop n text) (sym len) ∙ next-rest text other _ c.loop-c.len c.utf8.text is.boundary is.other is.same _ _ _ after left steps.1.0;
      other = next-other text other _ c.loop-c.len c.utf8.text is.boundary is.other is.same _ _ _ after left steps.1.0;
      same = agree text other _ c.loop-c.len c.utf8.text is.boundary is.other is.same _ _ _ after left steps.1.0 c.if-c-d.false
          ∙ ap (λ n. chars (take n text) ++ common (chars (drop n text)) (chars after)) len;
    }

pub returns : goal.returns
returns c =
    let text = c.args.text.now in
    let other = c.args.other.now in
    let is = c.loop-c.invariant in
    let end : c.loop-c.len - 0 ≡ c.loop-c.len = omega arith in
    let front : chars c.range.result.now ≡ chars (take c.loop-c.len text) = ap chars c.range.ensures.value ∙ ap (λ n. chars (take n text)) end in
    elim c.match-next.branch [
      | in-None w ↦ elim w.in-None.ensures.steps [
        | inl x ↦ front ∙ sym (text-ends text other _ c.loop-c.len c.utf8.text is.boundary is.other is.same (is.rest ∙ nil_from_length _ x.1.0.0))
        | inr y ↦ front ∙ sym (other-ends text other _ c.loop-c.len c.utf8.text is.boundary is.other is.same (nil_from_length _ y.1.0.0))
      ]
      | in-Some+then-c-d w ↦ front
          ∙ sym (differ text other _ c.loop-c.len c.utf8.text is.boundary is.other is.same _ _ _ _ (is.rest ∙ w.in-Some.ensures.steps.0.0) w.in-Some.ensures.steps.1.0 w.if-c-d.true)
    ]
