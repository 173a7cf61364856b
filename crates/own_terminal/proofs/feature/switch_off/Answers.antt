use Rattle.std.specs.Prelude.{◌∷◌, [], ◌++◌, List, OnOk, Result}
use Rattle.std.specs.Io.KnownBytes.{Appends}
use Rattle.std.specs.declared.io.Error.{Error}
use Rattle.std.proofs.Common.{ap, append_assoc, subst, sym, ◌∙◌}
use Rattle.crossterm_command.specs.Tokens.{text_of}
use Rattle.own_terminal.specs.Features.{all_switched_off, switches_off}
use Rattle.own_terminal.specs.declared.feature.Feature.{Feature}
use Rattle.own_terminal.proofs.Ending.{front_taken, both_taken}
use Rattle.own_terminal.proofs.feature.switch_off.Goals as goal

pub loop-feature-preserved : goal.loop-feature-preserved
loop-feature-preserved g c =
    let taken = c.loop-feature.invariant in
    let feature = c.in-Some.feature in
    let contents = g.W.Write.contents in
    let begun = contents c.args.out.now in
    let before = contents c.loop-feature.out in
    let after = contents c.leave.new.out in
    let end = text_of (switches_off feature) in (
      feature ∷ taken.0,
      taken.1 ∙ (ap (λ (l : List Feature). l ++ taken.0) c.in-Some.ensures.items ∙ append_assoc c.pop.new.self.items (feature ∷ []) taken.0),
      (before, taken.2, front_taken c.leave.result before after end c.leave.ensures.ok c.leave.ensures.err),
      subst (λ (r : Result (Unit {0}) Error). OnOk r (Appends begun after (all_switched_off taken.0 ++ end))) (sym c.and-left.ensures)
          (both_taken c.loop-feature.left c.leave.result begun before after (all_switched_off taken.0) end taken.3 c.leave.ensures.ok),
    )
