use Rattle.std.proofs.Common.{◌-◌, ◌∙◌, refl, sym, ap, length, arith}
use Rattle.std.proofs.lemmas.Slice.{drop-put_mid, take-put_mid}
use Rattle.std.proofs.lemmas.Str.{encodes-chars}
use Rattle.line_c.proofs.lines.copy_text.Goals as goal

pub returns-then-count-slice : goal.returns-then-count-slice
returns-then-count-slice c =
    let count = length c.args.text.now in
    let same = c.copy_from_slice.ensures.after ∙ c.as_bytes.ensures.value in
    let size = ap length same in
    let text = sym (encodes-chars c.args.text.now c.utf8.text) in (
      ap length text,
      λ fits. (
        take-put_mid 0 (count - 0) c.args.slice.now c.copy_from_slice.new.self count (omega (arith, size)) (omega arith) ∙ same ∙ text,
        drop-put_mid 0 (count - 0) c.args.slice.now c.copy_from_slice.new.self count (omega arith) (omega (arith, fits)) (omega (arith, size)),
      ),
      λ long. absurd (omega (arith, long, c.if-count-slice.true)),
    )

pub returns-else-count-slice : goal.returns-else-count-slice
returns-else-count-slice c =
    (ap length (sym (encodes-chars c.args.text.now c.utf8.text)), λ fits. absurd (omega (arith, fits, c.if-count-slice.false)), λ long. refl)
