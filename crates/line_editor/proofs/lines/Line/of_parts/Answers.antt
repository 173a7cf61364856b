use Rattle.std.proofs.Common.{◌≡◌, subst}
use Rattle.std.proofs.lemmas.Str.{IsCharBoundary-start}
use Rattle.std.specs.Prelude.{IfOk}
use Rattle.line_editor.specs.Splits.{Split}
use Rattle.line_editor.proofs.Searching.{parts_as}
use Rattle.line_editor.proofs.lines.Line.of_parts.Goals as goal

pub edited-requires-clause-from : goal.edited-requires-clause-from
edited-requires-clause-from g c = IsCharBoundary-start c.args.after.now c.utf8.after

pub edited-requires-clause-to : goal.edited-requires-clause-to
edited-requires-clause-to g c = IsCharBoundary-start c.args.after.now c.utf8.after

pub returns : goal.returns
returns g c =
    let P : Split → Type 0 = λ d. IfOk c.edited.result (λ line. line ≡ d) in
    subst P (parts_as c.args.before.now c.args.after.now) c.edited.ensures
