use Rattle.std.proofs.Common.{inl, ℕ, ◌+◌, List, take, flat_map, length, subst, arith, sym, ◌∙◌, ◌≤◌, ap}
use Rattle.std.specs.List.{filter}
use Rattle.std.specs.Fmt.{WritesInCalls}
use Rattle.crossterm_command.proofs.Texts.{in_calls, writes_both}
use Rattle.crossterm_style.specs.Attributes.{all_attributes, has_attribute}
use Rattle.crossterm_style.proofs.Members.{all_written, attribute_text, text_more, text_same}
use Rattle.crossterm_style.proofs.commands.attributes.SetAttributesCommand.write_ansi.Goals as goal
use Rattle.crossterm_style.proofs.commands.attributes.SetAttributesCommand.write_ansi.Goals.{then-has+in_ok-write_ansi, else-has}

pub loop-attribute-preserved : goal.loop-attribute-preserved
loop-attribute-preserved g c =
    let took = g.W.Write.write_str_gives in
    let test = has_attribute c.args.self.now.0.0 in
    let items = c.all-attribute-items.result.now in
    let at = c.loop-attribute.attribute-index in
    elim c.if-has.branch [
      | then-has+in_ok-write_ansi w ↦
          let both = writes_both took _ _ _ _ _ c.loop-attribute.invariant (in_calls took _ _ _ w.in_ok-write_ansi.ensures.ok) in
          let grown = subst (λ l. WritesInCalls took c.args.f.now l w.write_ansi.new.f) (text_more attribute_text test items at _ c.loop-attribute-test.true (sym c.has.ensures ∙ w.if-has.true)) both in
          subst (λ f. WritesInCalls took c.args.f.now (flat_map attribute_text (filter test (take (at + 1) items))) f) (sym w.f-is) grown
      | else-has w ↦
          let same = subst (λ l. WritesInCalls took c.args.f.now l c.loop-attribute.f) (text_same attribute_text test items at _ c.loop-attribute-test.true (sym c.has.ensures ∙ w.if-has.false)) c.loop-attribute.invariant in
          subst (λ f. WritesInCalls took c.args.f.now (flat_map attribute_text (filter test (take (at + 1) items))) f) (sym w.f-is) same
    ]

pub returns-clause-ok : goal.returns-clause-ok
returns-clause-ok g c =
    let bits = c.args.self.now.0.0 in
    let at = c.loop-attribute.attribute-index in
    let all = c.all-attribute-items.ensures in
    let text : List ℕ → Type 0 = λ l. WritesInCalls g.W.Write.write_str_gives c.args.f.now l c.loop-attribute.f in
    let end : length all_attributes ≤ at = subst (λ xs. length xs ≤ at) all (omega (arith, c.loop-attribute-test.false)) in
    inl (subst text (ap (λ xs. flat_map attribute_text (filter (has_attribute bits) (take at xs))) all ∙ all_written c.args.colors bits at end) c.loop-attribute.invariant)
