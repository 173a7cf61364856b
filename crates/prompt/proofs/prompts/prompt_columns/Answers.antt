use Rattle.std.proofs.Common.{◌+◌, map, min, chars, ap, take, ◌∙◌}
use Rattle.prompt.specs.Pictures.{most_columns, prompt_columns}
use Rattle.prompt.specs.Shown.{run_of}
use Rattle.prompt.proofs.Fitting.{part_more}
use Rattle.prompt.proofs.prompts.prompt_columns.Goals as goal

pub loop-part-preserved : goal.loop-part-preserved
loop-part-preserved c =
    let parts = c.args.parts.now in
    let i = c.loop-part.part-index in
    let text = c.content.ensures ∙ ap (λ r. r.content) c.part-item.is in
    c.saturating_add-columns.ensures ∙ ap (λ k. min (k + c.most_columns.result) 65535) c.loop-part.invariant
    ∙ ap (λ k. min (prompt_columns (map run_of (take i parts)) + k) 65535) (c.most_columns.ensures ∙ ap (λ t. most_columns (chars t.now)) text) ∙ part_more parts i _ c.loop-part-test.true
