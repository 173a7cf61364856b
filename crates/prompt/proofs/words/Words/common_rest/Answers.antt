use Rattle.std.proofs.Common.{Bor, List, ℕ, Option, Some, None, false, ap, sym, chars, ◌∙◌}
use Rattle.std.specs.Option.{option_map}
use Rattle.std.proofs.lemmas.Str.Pattern.{starts_text}
use Rattle.prompt.proofs.Naming.{shared_with, shared_without}
use Rattle.prompt.proofs.words.Words.common_rest.Goals.{in-Some+in-None, in-Some+in-Some-found, in_default}
use Rattle.prompt.proofs.words.Words.common_rest.Goals as goal

pub loop-name-preserved : goal.loop-name-preserved
loop-name-preserved c =
    let text = c.args.text.now in
    let names = c.args.self.now.names.now in
    let i = c.loop-name.name-index in
    let lt = c.loop-name-test.true in
    let view : Option (Bor (List ℕ)) → Option (List ℕ) = option_map (λ rest. chars rest.now) in
    elim c.match-strip_prefix.branch [
      | in-Some+in-None w ↦
          (let found = w.in-Some.ensures.cases in
          ap view w.found-is ∙ shared_with text names i _ lt None _ found.0 (sym (ap view w.in-None.is) ∙ c.loop-name.invariant) found.1.0 found.1.1 found.2)
      | in-Some+in-Some-found w ↦
          (let found = w.in-Some.ensures.cases in
          let front = sym (ap view w.in-Some-found.is) ∙ c.loop-name.invariant in
          ap view w.found-is ∙ ap Some w.common.ensures ∙ shared_with text names i _ lt (Some (chars w.in-Some-found.front.now)) _ found.0 front found.1.0 found.1.1 found.2)
      | in_default w ↦
          (let isnt = starts_text false text _ w.in_default.ensures.cases in
          ap view w.found-is ∙ c.loop-name.invariant ∙ shared_without text names i _ lt isnt)
    ]
