use Rattle.std.proofs.Common.{◌∙◌, refl, ap, arith}
use Rattle.std.specs.Str.{chars}
use Rattle.line_editor.specs.Bounds.{size}
use Rattle.line_editor.specs.Shown.{pasted_part}
use Rattle.line_editor.proofs.Sizing.{length-size, size-cons, size-pasted}
use Rattle.line_editor.proofs.shown.pasted_len.Goals as goal

pub overflow_add-len : goal.overflow_add-len
overflow_add-len c =
    let text = c.args.text.now in
    let first = ap size (ap (pasted_part c.args.multiline) c.in-Some.ensures.0 ∙ c.in-Some-pasted_char.ensures.0) in
    omega (
      arith,
      first,
      size-cons c.in-Some-pasted_char.shown (pasted_part c.args.multiline (chars c.in-Some.back.now)),
      c.len_utf8-len.ensures.len,
      c.loop-c.invariant.same,
      size-pasted c.args.multiline (chars text),
      length-size text (chars text) c.utf8.text refl,
    )
