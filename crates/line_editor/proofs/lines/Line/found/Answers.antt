use Rattle.std.proofs.Common.{◌≡◌, refl, subst, true}
use Rattle.std.specs.Prelude.{IfOk}
use Rattle.std.specs.Str.{chars}
use Rattle.std.proofs.lemmas.Str.{chars-nil}
use Rattle.line_editor.specs.Splits.{Split}
use Rattle.line_editor.proofs.Searching.{found-any}
use Rattle.line_editor.proofs.Showing.{shown-nothing}
use Rattle.line_editor.proofs.lines.Line.found.Goals as goal

pub of_parts-requires-clause-after : goal.of_parts-requires-clause-after
of_parts-requires-clause-after g c = shown-nothing true _ refl

pub returns-then-is_nothing : goal.returns-then-is_nothing
returns-then-is_nothing g c =
    let P : Split → Type 0 = λ d. IfOk c.of_parts.result (λ line. line ≡ d) in
    subst P (found-any (chars c.args.front.now) (chars c.args.rest.now) _ c.if-is_nothing.ensures chars-nil) c.of_parts.ensures
