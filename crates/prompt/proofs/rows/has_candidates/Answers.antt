use Rattle.std.proofs.Common.{◌==◌, ap, length, not, sym, ◌∙◌}
use Rattle.std.proofs.lemmas.List.{length-map}
use Rattle.prompt.specs.Shown.{Shown}
use Rattle.prompt.proofs.rows.has_candidates.Goals as goal

pub returns : goal.returns
returns g c =
    ap not (c.is_empty.ensures ∙ ap (λ n. n == 0) (sym (length-map c.shown.inside.candidates.now (λ n. n.now)))
    ∙ ap (λ (x : Shown). length x.candidates == 0) c.shown.view_is)
