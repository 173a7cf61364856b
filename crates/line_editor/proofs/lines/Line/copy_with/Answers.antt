use Rattle.std.proofs.Common.{◌∙◌, [], ◌∷◌, ap, subst, true}
use Rattle.std.specs.Str.{chars, IsUtf8}
use Rattle.unicode_segmentation.proofs.TextLemmas.{chars-encode_utf8}
use Rattle.line_editor.specs.Edits.{inserted}
use Rattle.line_editor.specs.Splits.{Split}
use Rattle.line_editor.proofs.Showing.{shown-one}
use Rattle.line_editor.proofs.lines.Line.copy_with.Goals as goal

pub insert-requires : goal.insert-requires
insert-requires g c =
    let one = ap chars c.encode_utf8.ensures.value ∙ chars-encode_utf8 c.args.c (subst IsUtf8 c.encode_utf8.ensures.value c.encode_utf8.utf8) in
    shown-one true c.args.c _ one c.requires

pub returns : goal.returns
returns g c =
    let one = ap chars c.encode_utf8.ensures.value ∙ chars-encode_utf8 c.args.c (subst IsUtf8 c.encode_utf8.ensures.value c.encode_utf8.utf8) in
    c.in_ok-insert.ensures.ok ∙ ap (λ t. inserted t c.in_ok-line.line) one ∙ ap (λ (d : Split). inserted (c.args.c ∷ []) d) c.in_ok-line.ensures
