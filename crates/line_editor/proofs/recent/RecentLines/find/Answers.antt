use Rattle.std.proofs.Common.{◌+◌, drop, sym, ap, ◌∙◌}
use Rattle.std.specs.Str.{chars}
use Rattle.line_editor.specs.States.{first_with, rest_or}
use Rattle.line_editor.proofs.Searching.{search_past, search_step}
use Rattle.line_editor.proofs.recent.RecentLines.find.Goals as goal
use Rattle.line_editor.proofs.recent.RecentLines.find.Goals.{in-Some+in_default-other_rest, in_default}

pub returns-in-Some-other_rest-clause-found : goal.returns-in-Some-other_rest-clause-found
returns-in-Some-other_rest-clause-found g c =
    let front = chars c.args.front.now in
    let shown = chars c.args.shown.now in
    let at = c.loop-at.at in
    let lines = c.args.self.now in
    sym (c.loop-at.invariant ∙ search_step front shown lines at _ c.in-Some.ensures.text
    ∙ ap (λ o. rest_or o (at + 1) (first_with front shown (at + 1) (drop (at + 1) lines))) (sym c.in-Some-other_rest.ensures.rest))

pub loop-at-preserved : goal.loop-at-preserved
loop-at-preserved g c =
    let front = chars c.args.front.now in
    let shown = chars c.args.shown.now in
    let at = c.loop-at.at in
    let lines = c.args.self.now in
    elim c.match-text_at.branch [
      | in-Some+in_default-other_rest w ↦ c.loop-at.invariant ∙ search_step front shown lines at _ w.in-Some.ensures.text
          ∙ ap (λ o. rest_or o (at + 1) (first_with front shown (at + 1) (drop (at + 1) lines))) (sym w.in_default-other_rest.ensures.rest)
      | in_default w ↦ c.loop-at.invariant ∙ search_past front shown lines at w.in_default.ensures.text
    ]
