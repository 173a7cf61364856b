use Rattle.std.proofs.Common.{ℕ, List, Bor, max, min, map, chars, refl, ap, sym, take, ◌∙◌}
use Rattle.std.proofs.lemmas.List.{take_more}
use Rattle.std.proofs.lemmas.List.Recursion.{max_push}
use Rattle.line_editor.specs.Views.{width_of}
use Rattle.prompt.specs.Shown.{widest}
use Rattle.prompt.proofs.listing.widest.Goals as goal

pub loop-name-preserved : goal.loop-name-preserved
loop-name-preserved c =
    let names = c.args.names.now in
    let i = c.loop-name.name-index in
    let all : List (Bor (List ℕ)) → ℕ = λ ns. widest (map (λ n. n.now) ns) in
    c.max-columns.ensures ∙ ap (λ k. max k c.width_of.result) c.loop-name.invariant ∙ ap (max (all (take i names))) c.width_of.ensures
    ∙ sym (ap all (take_more names i _ c.loop-name-test.true) ∙ max_push all (λ n. min (width_of (chars n.now)) 65535) refl (λ n ns. refl) (take i names) _)
