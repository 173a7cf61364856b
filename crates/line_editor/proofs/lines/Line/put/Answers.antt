use Rattle.std.proofs.Common.{◌≡◌, ap, subst}
use Rattle.std.specs.Prelude.{OnOk}
use Rattle.std.specs.Str.{chars}
use Rattle.line_editor.specs.Edits.{line_with}
use Rattle.line_editor.specs.Splits.{Split}
use Rattle.line_editor.proofs.lines.Line.put.Goals as goal

pub returns-clause-ok : goal.returns-clause-ok
returns-clause-ok g c =
    let P : Split → Type 0 = λ d. OnOk c.splice.result (c.splice.new.self ≡ d) in
    subst P (ap (λ (d : Split). line_with d (chars c.args.text.now) d) c.at-at.ensures.place) c.splice.ensures.ok
