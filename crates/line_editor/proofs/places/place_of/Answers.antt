use Rattle.std.proofs.Common.{◌∙◌, ap}
use Rattle.std.proofs.lemmas.Str.{IsCharBoundary-start}
use Rattle.line_editor.specs.declared.places.Target.TheVariants.{Back, Forward}
use Rattle.line_editor.proofs.Placing.{end-edge, place-start, place-end, start-edge}
use Rattle.line_editor.proofs.places.place_of.Goals as goal

pub returns-in-Back-Edge-clause-boundary : goal.returns-in-Back-Edge-clause-boundary
returns-in-Back-Edge-clause-boundary c = IsCharBoundary-start c.args.text.now c.utf8.text

pub returns-in-Back-Edge-clause-place : goal.returns-in-Back-Edge-clause-place
returns-in-Back-Edge-clause-place c =
    start-edge c.args.target c.args.text.now c.args.at c.utf8.text c.requires (c.in-Back-Edge.is ∙ ap Back (rw c.in-Back-Edge.is at c.in-Back-Edge.field-0-is))

pub returns-in-Forward-Edge-clause-place : goal.returns-in-Forward-Edge-clause-place
returns-in-Forward-Edge-clause-place c =
    end-edge c.args.target c.args.text.now c.args.at c.utf8.text c.requires (c.in-Forward-Edge.is ∙ ap Forward (rw c.in-Forward-Edge.is at c.in-Forward-Edge.field-0-is))

pub returns-then-at-eq0-clause-place : goal.returns-then-at-eq0-clause-place
returns-then-at-eq0-clause-place c = place-start c.args.target c.in-Back.stop c.args.text.now c.args.at c.in-Back.is c.if-at-eq0.true

pub returns-then-at-text-clause-place : goal.returns-then-at-text-clause-place
returns-then-at-text-clause-place c = place-end c.args.target c.in-Forward.stop c.args.text.now c.args.at c.in-Forward.is c.if-at-text.true
