use Rattle.std.proofs.Common.{◌≡◌, IfOk, sym, subst, ap, ◌∙◌}
use Rattle.line_editor.specs.Masks.{masked}
use Rattle.line_editor.specs.Splits.{Split}
use Rattle.line_editor.proofs.Masking.{stars-line, stars-shown}
use Rattle.line_editor.proofs.lines.Line.masked.Goals as goal

pub of_parts-requires-clause-before : goal.of_parts-requires-clause-before
of_parts-requires-clause-before g c = stars-shown c.as_str.result.now _ (c.as_str.ensures.value ∙ c.in_ok-before-in-Stars.ensures)

pub of_parts-requires-clause-after : goal.of_parts-requires-clause-after
of_parts-requires-clause-after g c = stars-shown c.as_str-in-Stars.result.now _ (c.as_str-in-Stars.ensures.value ∙ c.in_ok-after-in-Stars.ensures)

pub returns-in_ok-after-in-Stars : goal.returns-in_ok-after-in-Stars
returns-in_ok-after-in-Stars g c =
    let P : Split → Type 0 = λ d. IfOk c.of_parts.result (λ line. line ≡ d) in
    let line = stars-line c.args.self.now c.before-in-Stars.result.now c.after.result.now c.as_str.result.now c.as_str-in-Stars.result.now
    c.before-in-Stars.ensures.text c.after.ensures (c.as_str.ensures.value ∙ c.in_ok-before-in-Stars.ensures) (c.as_str-in-Stars.ensures.value ∙ c.in_ok-after-in-Stars.ensures) in
    subst P (line ∙ ap (λ m. masked m c.args.self.now) (sym c.in-Stars.is)) c.of_parts.ensures
