use Rattle.std.proofs.Common.{◌≡◌, ◌∙◌, ap, length, subst, sym}
use Rattle.screen.specs.Cells.{AreLaidOut}
use Rattle.screen.specs.Paragraphs.{padded}
use Rattle.screen.proofs.Padding.{padded_laid, padded_length}
use Rattle.screen.proofs.buffers.Buffer.take_rows.Goals as goal

pub invariant_of-self-2 : goal.invariant_of-self-2
invariant_of-self-2 g c =
    let n = c.count_of.result in
    let cells = c.args.cells.now in
    let made : c.take_padded.new.cells.items ≡ padded n cells = c.in_ok-take_padded.ensures.ok in (
      ap length made ∙ padded_length n cells ∙ c.count_of.ensures,
      subst (AreLaidOut c.args.columns) (sym made) (padded_laid c.args.columns c.args.rows n cells c.count_of.ensures c.requires),
    )
