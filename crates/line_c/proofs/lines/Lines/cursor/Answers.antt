use Rattle.std.proofs.Common.{◌∙◌, sym, ap, length, reverse}
use Rattle.std.proofs.lemmas.List.{reverse-reverse}
use Rattle.std.proofs.lemmas.Str.{encodes-chars}
use Rattle.std.specs.Str.{chars}
use Rattle.line_editor.specs.Bounds.{size}
use Rattle.line_editor.specs.Splits.{Split}
use Rattle.line_c.specs.Kept.{LineState}
use Rattle.line_c.proofs.lines.Lines.cursor.Goals as goal

pub returns : goal.returns
returns c =
    let line = c.before-2.ensures.text ∙ ap (λ (d : Split). d.before) (c.line.ensures ∙ ap (λ (k : LineState). k.editor.line) c.self.view_is) in
    ap length (sym (encodes-chars c.before-2.result.now c.before-2.utf8)) ∙ ap size (sym (reverse-reverse (chars c.before-2.result.now)) ∙ ap reverse line)
