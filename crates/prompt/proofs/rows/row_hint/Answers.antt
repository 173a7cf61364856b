use Rattle.std.proofs.Common.{ap, sym, ◌∙◌}
use Rattle.prompt.specs.Shown.{Shown}
use Rattle.prompt.proofs.Laid.{no_hint, same_hint}
use Rattle.prompt.proofs.rows.row_hint.Goals as goal

pub returns-then-has_candidates : goal.returns-then-has_candidates
returns-then-has_candidates g c = no_hint c.args.width c.args.shown.now (sym c.has_candidates.ensures ∙ c.if-has_candidates.true)

pub returns : goal.returns
returns g c =
    same_hint c.args.width c.args.shown.now c.hint_behind.result.now c.shown.inside.hint.now c.after.result.now c.saturating_sub.result c.end-end.result.0 c.args.paragraph.now
    (sym c.has_candidates.ensures ∙ c.if-has_candidates.false) c.requires.width c.requires.line c.after.utf8 (c.after.ensures ∙ ap (λ (x : Shown). x.line.after) c.shown.view_is)
    (ap (λ (x : Shown). x.hint) c.shown.view_is) c.end-end.ensures.0 c.saturating_sub.ensures c.hint_behind.ensures
