use Rattle.std.proofs.Common.{List, Bor, ℕ, true, false, map, vec_items, ap, ◌∙◌}
use Rattle.std.proofs.lemmas.List.{map-append}
use Rattle.std.proofs.lemmas.Str.Pattern.{starts_text}
use Rattle.prompt.proofs.Naming.{with_name, without_name}
use Rattle.prompt.proofs.words.Words.names_with.Goals.{then-starts_with+in_ok-push, else-starts_with}
use Rattle.prompt.proofs.words.Words.names_with.Goals as goal

pub loop-name-preserved : goal.loop-name-preserved
loop-name-preserved c =
    let text = c.args.text.now in
    let names = c.args.self.now.names.now in
    let i = c.loop-name.name-index in
    let lt = c.loop-name-test.true in
    elim c.if-starts_with.branch [
      | then-starts_with+in_ok-push w ↦
          (let is = starts_text true text _ w.if-starts_with.ensures.cases in
          ap (λ v. map (λ n. n.now) (vec_items v)) w.found-is ∙ ap (map (λ (n : Bor (List ℕ)). n.now)) w.in_ok-push.ensures.items ∙ map-append (λ n. n.now) (vec_items c.loop-name.found) _
          ∙ with_name text names i _ lt _ is c.loop-name.invariant)
      | else-starts_with w ↦
          (let isnt = starts_text false text _ w.if-starts_with.ensures.cases in
          ap (λ v. map (λ n. n.now) (vec_items v)) w.found-is ∙ c.loop-name.invariant ∙ without_name text names i _ lt isnt)
    ]
