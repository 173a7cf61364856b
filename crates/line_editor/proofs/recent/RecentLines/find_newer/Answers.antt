use Rattle.std.proofs.Common.{◌-◌, sym, ap, ◌∙◌}
use Rattle.std.specs.Str.{chars}
use Rattle.line_editor.specs.States.{last_with, rest_or}
use Rattle.line_editor.proofs.Searching.{newer_past, newer_step}
use Rattle.line_editor.proofs.recent.RecentLines.find_newer.Goals as goal
use Rattle.line_editor.proofs.recent.RecentLines.find_newer.Goals.{in-Some+in_default-other_rest, in_default}

pub returns-in-Some-other_rest-clause-found : goal.returns-in-Some-other_rest-clause-found
returns-in-Some-other_rest-clause-found g c =
    let front = chars c.args.front.now in
    let shown = chars c.args.shown.now in
    let at = c.loop-number.number in
    let lines = c.args.self.now in
    sym (c.loop-number.invariant ∙ newer_step front shown lines at _ c.loop-number-test.true c.in-Some.ensures.text
    ∙ ap (λ o. rest_or o at (last_with front shown (at - 1) lines)) (sym c.in-Some-other_rest.ensures.rest))

pub loop-number-preserved : goal.loop-number-preserved
loop-number-preserved g c =
    let front = chars c.args.front.now in
    let shown = chars c.args.shown.now in
    let at = c.loop-number.number in
    let lines = c.args.self.now in
    elim c.match-text_at.branch [
      | in-Some+in_default-other_rest w ↦ c.loop-number.invariant ∙ newer_step front shown lines at _ c.loop-number-test.true w.in-Some.ensures.text
          ∙ ap (λ o. rest_or o at (last_with front shown (at - 1) lines)) (sym w.in_default-other_rest.ensures.rest)
      | in_default w ↦ c.loop-number.invariant ∙ newer_past front shown lines at c.loop-number-test.true w.in_default.ensures.text
    ]
