use Rattle.std.proofs.Common.{◌≡◌, inl, inr, ◌-◌, ◌*◌, ◌++◌, ◌<◌, ◌∙◌, ap, arith, length, refl, replicate, subst, sym}
use Rattle.std.specs.Vec.{vec_capacity, vec_len}
use Rattle.screen.specs.Blocks.{PlaceFits}
use Rattle.screen.specs.Cells.{AreLaidOut, blank}
use Rattle.screen.proofs.BlockViews.{block_fits, block_written, fits_block, forgotten_as, held_after, more_cells, same_but_room}
use Rattle.screen.proofs.Behind.{laid_below}
use Rattle.screen.proofs.blocks.Block.draw_next.Goals.{then-width-self-via-then-width-self, then-width-self-via-else-width-self+then-height-self}
use Rattle.screen.proofs.blocks.Block.draw_next.Goals as goal

pub returns-then-width-self-clause-err : goal.returns-then-width-self-clause-err
returns-then-width-self-clause-err g c = (
  λ fits.
      let here = block_fits c.self.inside.width c.self.inside.height c.self.inside.colors c.self.inside.shown.items c.self.inside.row c.self.inside.column (vec_capacity c.self.inside.shown) c.args.self.now c.args.buffer.now c.self.view_is fits in
      elim c.then-width-self.branch [
        | then-width-self-via-then-width-self w ↦ w.if-width-self.true (c.width-width.ensures ∙ here.0)
        | then-width-self-via-else-width-self+then-height-self w ↦ absurd (omega (arith, w.if-height-self.true, c.height-height.ensures, here.1))
      ],
  refl,
  refl,
)

pub returns-then-cursor-width-clause-err : goal.returns-then-cursor-width-clause-err
returns-then-cursor-width-clause-err g c =
    let fits = fits_block c.self.inside.width c.self.inside.height c.self.inside.colors c.self.inside.shown.items c.self.inside.row c.self.inside.column (vec_capacity c.self.inside.shown) c.args.self.now c.args.buffer.now c.self.view_is
    (sym c.width-width.ensures ∙ c.if-width-self.false) (omega (arith, c.if-height-self.false, c.height-height.ensures)) in
    let apart : PlaceFits c.args.buffer.now c.args.cursor.0 c.args.cursor.1 → ⊥ =
    λ place. elim c.then-cursor-width.either [
      | inl far ↦ absurd (omega (arith, far, place.0, c.width-width.ensures))
      | inr low ↦ absurd (omega (arith, low.1, place.1, c.height-height.ensures))
    ] in
    (fits, apart, refl, refl)

pub returns-in-Err-clause-err : goal.returns-in-Err-clause-err
returns-in-Err-clause-err g c =
    let width = c.self.inside.width in
    let height = c.self.inside.height in
    let fits = fits_block width height c.self.inside.colors c.self.inside.shown.items c.self.inside.row c.self.inside.column (vec_capacity c.self.inside.shown) c.args.self.now c.args.buffer.now c.self.view_is
    (sym c.width-width.ensures ∙ c.if-width-self.false) (omega (arith, c.if-height-self.false, c.height-height.ensures)) in
    let count : c.count_of-count.result ≡ c.args.buffer.now.width * c.args.buffer.now.height =
    c.count_of-count.ensures ∙ ap (λ n. n * c.height-height.result) c.width-width.ensures ∙ ap (λ n. c.args.buffer.now.width * n) c.height-height.ensures in
    let room : c.args.self.now.room < c.count_of-count.result = subst (λ s. s.room < c.count_of-count.result) c.self.view_is c.in-Err.ensures.full in (
      fits,
      (omega (arith, c.if-cursor-width.false, c.width-width.ensures), omega (arith, c.if-cursor-height.false, c.height-height.ensures)),
      subst (λ n. c.args.self.now.room < n) count room,
      same_but_room width height c.self.inside.colors c.self.inside.shown.items c.take_cells.new.cells.items c.self.inside.row c.self.inside.column (vec_capacity c.self.inside.shown) (vec_capacity c.take_cells.new.cells) c.args.self.now
          c.in-Err.ensures.err c.self.view_is,
      refl,
    )

pub write_block-written-requires-clause-before : goal.write_block-written-requires-clause-before
write_block-written-requires-clause-before g c =
    let width = c.self.inside.width in
    let height = c.self.inside.height in
    let cells = c.self.inside.shown.items in
    let more : c.take_cells.new.cells.items ≡ cells ++ replicate (width * (c.height-height.result - height)) blank =
    more_cells width height c.width-width.result c.height-height.result c.count_of-count.result cells c.take_cells.new.cells.items c.if-width-self.false c.if-height-self.false c.self.invariant.0 c.count_of-count.ensures c.in-Ok.ensures.ok in
    let held : c.deref_mut.result.now ≡ c.take_cells.new.cells.items = c.deref_mut.ensures.value in (
      ap length held ∙ c.in-Ok.ensures.count ∙ c.count_of-count.ensures,
      subst (λ k. AreLaidOut k c.deref_mut.result.now) (sym c.if-width-self.false)
          (subst (AreLaidOut width) (sym (held ∙ more)) (laid_below width (width * (c.height-height.result - height)) cells c.self.invariant.1)),
    )

pub write_block-written-requires-clause-after : goal.write_block-written-requires-clause-after
write_block-written-requires-clause-after g c =
    let p = c.args.buffer.now in
    let size : length p.cells ≡ c.width-width.result * c.height-height.result =
    c.cells.ensures.count ∙ ap (λ n. n * p.height) (sym c.width-width.ensures) ∙ ap (λ n. c.width-width.result * n) (sym c.height-height.ensures) in
    let laid : AreLaidOut p.width p.cells = record { placed = c.cells.ensures.placed; paired = c.cells.ensures.paired; rows = c.cells.ensures.rows } in (
      ap length c.cells.ensures.cells ∙ size,
      subst (λ k. AreLaidOut k c.cells.result.now) (sym c.width-width.ensures) (subst (AreLaidOut p.width) (sym c.cells.ensures.cells) laid),
    )

pub invariant_of-self-in-Ok-written : goal.invariant_of-self-in-Ok-written
invariant_of-self-in-Ok-written g c =
    held_after c.self.inside.width c.width-width.result c.height-height.result (vec_len c.take_cells.new.cells) c.count_of-count.result c.args.cursor.0 c.args.cursor.1 c.write_block-written.new.before c.take_cells.new.cells.items c.cells.result.now
    c.deref_mut.result.now c.args.buffer.now c.if-width-self.false c.width-width.ensures c.height-height.ensures c.count_of-count.ensures c.in-Ok.ensures.count c.deref_mut.ensures.len c.deref_mut.ensures.value c.write_block-written.ensures.shown
    c.cells.ensures.cells c.cells.ensures.count (record { placed = c.cells.ensures.placed; paired = c.cells.ensures.paired; rows = c.cells.ensures.rows }) (omega (arith, c.if-cursor-width.false)) (omega (arith, c.if-cursor-height.false))

pub invariant_of-self-in-Err-written : goal.invariant_of-self-in-Err-written
invariant_of-self-in-Err-written g c =
    held_after c.self.inside.width c.width-width.result c.height-height.result (vec_len c.take_cells.new.cells) c.count_of-count.result c.args.cursor.0 c.args.cursor.1 c.write_block-written.new.before c.take_cells.new.cells.items c.cells.result.now
    c.deref_mut.result.now c.args.buffer.now c.if-width-self.false c.width-width.ensures c.height-height.ensures c.count_of-count.ensures c.in-Ok.ensures.count c.deref_mut.ensures.len c.deref_mut.ensures.value c.write_block-written.ensures.shown
    c.cells.ensures.cells c.cells.ensures.count (record { placed = c.cells.ensures.placed; paired = c.cells.ensures.paired; rows = c.cells.ensures.rows }) (omega (arith, c.if-cursor-width.false)) (omega (arith, c.if-cursor-height.false))

pub returns-in-Ok-written-clause-frame : goal.returns-in-Ok-written-clause-frame
returns-in-Ok-written-clause-frame g c =
    let (ts, plan, reads) = c.in-Ok-written.ensures.ok in
    let frame = block_written c.self.inside.width c.self.inside.height c.width-width.result c.height-height.result c.count_of-count.result c.self.inside.colors c.self.inside.shown.items c.take_cells.new.cells.items c.deref_mut.result.now c.cells.result.now
    c.self.inside.row c.self.inside.column (vec_capacity c.self.inside.shown) c.args.self.now c.args.buffer.now c.args.cursor.0 c.args.cursor.1 ts c.self.view_is c.if-width-self.false c.if-height-self.false c.width-width.ensures c.height-height.ensures
    c.self.invariant.0 c.count_of-count.ensures c.in-Ok.ensures.ok c.deref_mut.ensures.value c.cells.ensures.cells c.cells.ensures.count (record { placed = c.cells.ensures.placed; paired = c.cells.ensures.paired; rows = c.cells.ensures.rows })
    c.self.invariant.2 (omega (arith, c.if-cursor-width.false)) (omega (arith, c.if-cursor-height.false)) c.width-width.type_inv c.height-height.type_inv plan in
    (ts, reads, frame)

pub returns-in-Ok-written-clause-accepted : goal.returns-in-Ok-written-clause-accepted
returns-in-Ok-written-clause-accepted g c = (
  fits_block c.self.inside.width c.self.inside.height c.self.inside.colors c.self.inside.shown.items c.self.inside.row c.self.inside.column (vec_capacity c.self.inside.shown) c.args.self.now c.args.buffer.now c.self.view_is
      (sym c.width-width.ensures ∙ c.if-width-self.false) (omega (arith, c.if-height-self.false, c.height-height.ensures)),
  (omega (arith, c.if-cursor-width.false, c.width-width.ensures), omega (arith, c.if-cursor-height.false, c.height-height.ensures)),
)

pub returns-in-Err-written-clause-err : goal.returns-in-Err-written-clause-err
returns-in-Err-written-clause-err g c =
    let (ts, plan, front) = c.in-Err-written.ensures.err in
    let frame = block_written c.self.inside.width c.self.inside.height c.width-width.result c.height-height.result c.count_of-count.result c.self.inside.colors c.self.inside.shown.items c.take_cells.new.cells.items c.deref_mut.result.now c.cells.result.now
    c.self.inside.row c.self.inside.column (vec_capacity c.self.inside.shown) c.args.self.now c.args.buffer.now c.args.cursor.0 c.args.cursor.1 ts c.self.view_is c.if-width-self.false c.if-height-self.false c.width-width.ensures c.height-height.ensures
    c.self.invariant.0 c.count_of-count.ensures c.in-Ok.ensures.ok c.deref_mut.ensures.value c.cells.ensures.cells c.cells.ensures.count (record { placed = c.cells.ensures.placed; paired = c.cells.ensures.paired; rows = c.cells.ensures.rows })
    c.self.invariant.2 (omega (arith, c.if-cursor-width.false)) (omega (arith, c.if-cursor-height.false)) c.width-width.type_inv c.height-height.type_inv plan in
    let fits = fits_block c.self.inside.width c.self.inside.height c.self.inside.colors c.self.inside.shown.items c.self.inside.row c.self.inside.column (vec_capacity c.self.inside.shown) c.args.self.now c.args.buffer.now c.self.view_is
    (sym c.width-width.ensures ∙ c.if-width-self.false) (omega (arith, c.if-height-self.false, c.height-height.ensures)) in (
      fits,
      (omega (arith, c.if-cursor-width.false, c.width-width.ensures), omega (arith, c.if-cursor-height.false, c.height-height.ensures)),
      c.forget.ensures.rows ∙ forgotten_as c.self.inside.width c.self.inside.height c.self.inside.colors c.self.inside.shown.items c.self.inside.row c.self.inside.column (vec_capacity c.self.inside.shown) c.forget.new.self.room c.args.self.now c.self.view_is,
      ts,
      frame,
      front,
    )
