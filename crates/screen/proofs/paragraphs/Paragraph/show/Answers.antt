use Rattle.std.proofs.Common.{◌-◌, ◌*◌, ◌^◌, ◌∙◌, ap, arith, refl, subst, sym}
use Rattle.std.specs.Vec.{vec_len}
use Rattle.std.proofs.lemmas.Result.{on_ok_weaker}
use Rattle.screen.specs.Cells.{AreLaidOut}
use Rattle.screen.specs.Paragraphs.{ParagraphView, padded, rows_picture}
use Rattle.screen.proofs.Padding.{laid_split, rest_from}
use Rattle.screen.proofs.paragraphs.Paragraph.show.Goals as goal

pub take_rows-requires : goal.take_rows-requires
take_rows-requires g c =
    let width = c.self.inside.width in
    let items = c.self.inside.cells.items in
    let place = c.args.first * width in
    let rest = rest_from place (2 ^ 64 - 1) c.saturating_mul.result c.min-at.result c.len.result c.len-2.result (vec_len c.self.inside.cells) items c.deref.result.now
    c.saturating_mul.ensures c.min-at.ensures c.len.ensures c.len-2.ensures c.deref.ensures.value c.deref.ensures.len (omega (arith, c.deref.type_inv.0)) in
    subst (AreLaidOut width) (sym rest) (laid_split width c.args.first place items refl c.self.invariant.0).1

pub returns-clause-ok : goal.returns-clause-ok
returns-clause-ok g c =
    let width = c.self.inside.width in
    let items = c.self.inside.cells.items in
    let place = c.args.first * width in
    let height = c.args.height in
    let room = c.take_rows.new.self.room in
    let rest = rest_from place (2 ^ 64 - 1) c.saturating_mul.result c.min-at.result c.len.result c.len-2.result (vec_len c.self.inside.cells) items c.deref.result.now
    c.saturating_mul.ensures c.min-at.ensures c.len.ensures c.len-2.ensures c.deref.ensures.value c.deref.ensures.len (omega (arith, c.deref.type_inv.0)) in
    on_ok_weaker c.take_rows.result (λ made.
    made ∙ ap (λ l. record { width = width; height = height; cells = padded (width * height) l; room = room }) rest
    ∙ ap (λ (s : ParagraphView). rows_picture s.width height c.args.first s.cells room) c.self.view_is) c.take_rows.ensures.ok
