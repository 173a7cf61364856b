use Rattle.std.proofs.Common.{refl, arith, rules}
use Rattle.unicode_segmentation.proofs.CursorLemmas.{IsChunkOf-whole}
use Rattle.line_editor.proofs.places.is_between_any.Goals as goal

pub unreachable-requires : goal.unreachable-requires
unreachable-requires c =
    let made = c.new-cursor.ensures in
    let ok = c.is_boundary.ensures.whole _ (made.on _ c.utf8.text refl c.requires) (IsChunkOf-whole _ c.utf8.text) refl refl made.fresh.1 in
    search (rules, arith)

pub returns : goal.returns
returns c =
    let made = c.new-cursor.ensures in
    rw (made.is_extended, made.offset) at (c.in-Ok.ensures.ok _ (made.on _ c.utf8.text refl c.requires) (IsChunkOf-whole _ c.utf8.text))
