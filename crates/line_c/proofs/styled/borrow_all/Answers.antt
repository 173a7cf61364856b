use Rattle.std.proofs.Common.{◌≡◌, List, IfOk, map, map-id, vec_items, subst, rules}
use Rattle.std.proofs.lemmas.Iterator.{YieldsList-from_map_by, YieldsList-from_slice}
use Rattle.std.proofs.lemmas.Iterator.Consumers.{map_from_collect}
use Rattle.prompt.specs.Shown.{PromptRun, run_of}
use Rattle.line_c.proofs.styled.borrow_all.Goals as goal

pub returns : goal.returns
returns c =
    let texts = c.args.texts.now in
    subst (λ (ts : List PromptRun). IfOk c.collect.result (λ borrowed. map run_of (vec_items borrowed) ≡ ts)) (map-id texts)
    (map_from_collect _ c.collect.ensures.ran (YieldsList-from_map_by _ run_of (λ t. t) (YieldsList-from_slice texts cc) c.map.ensures.closure (λ x r q k. search rules)))
