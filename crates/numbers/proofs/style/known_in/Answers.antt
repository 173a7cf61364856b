use Rattle.std.proofs.Common.{[], ◌∷◌, ◌++◌, ap, sym, ◌∙◌, append-nil, append_assoc}
use Rattle.numbers.specs.Style.{includes}
use Rattle.numbers.proofs.AttributeLaws.{gathers_all, gathers_more}
use Rattle.numbers.proofs.style.known_in.Goals as goal

pub loop-attribute-preserved : goal.loop-attribute-preserved
loop-attribute-preserved c =
    let done = c.loop-attribute.yielded in let attribute = c.in-Some.attribute in
    record {
      set = c.include.ensures.set;
      bits = gathers_more (includes c.args.bits) done attribute c.loop-attribute.known _ c.loop-attribute.invariant.bits c.include.ensures.bits;
      joined = append_assoc done (attribute ∷ []) c.next.new.self ∙ ap (λ l. done ++ l) (sym c.in-Some.ensures.steps) ∙ c.loop-attribute.invariant.joined;
    }

pub returns-clause-bits : goal.returns-clause-bits
returns-clause-bits c =
    let done = c.loop-attribute.yielded in
    let whole = sym (append-nil done) ∙ ap (λ l. done ++ l) (sym c.in-None.ensures.steps.0) ∙ c.loop-attribute.invariant.joined in
    gathers_all c.args.bits _ done whole c.loop-attribute.invariant.bits
