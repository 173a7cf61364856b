use Rattle.std.proofs.Common.{◌≡◌, ◌+◌, ◌-◌, ◌++◌, sym, ◌∙◌, arith}
use Rattle.screen.specs.Borders.{across, bottom, corners, down, right, with_stamps}
use Rattle.screen.proofs.Edges.{stamped_both, stamped_size}
use Rattle.screen.proofs.buffers.Buffer.border.Goals as goal

pub across-requires-2-clause-place : goal.across-requires-2-clause-place
across-requires-2-clause-place g c =
    let r = c.args.rect in
    let s = c.args.style in
    let b = c.args.border in
    let one = stamped_size c.args.self.now c.corners.new.self s (corners r b) c.corners.ensures in
    let two = stamped_size c.corners.new.self c.across.new.self s (across (r.x + 1) r.y (r.width - 2) b.horizontal) c.across.ensures in
    let columns = c.border_fault.ensures.columns c.in_default.is in
    let rows = c.border_fault.ensures.rows c.in_default.is in
    (omega (arith, one.0, two.0, columns.0, columns.1), omega (arith, one.1, two.1, rows.0, rows.1))

pub down-requires-clause-place : goal.down-requires-clause-place
down-requires-clause-place g c =
    let r = c.args.rect in
    let s = c.args.style in
    let b = c.args.border in
    let one = stamped_size c.args.self.now c.corners.new.self s (corners r b) c.corners.ensures in
    let two = stamped_size c.corners.new.self c.across.new.self s (across (r.x + 1) r.y (r.width - 2) b.horizontal) c.across.ensures in
    let three = stamped_size c.across.new.self c.across-2.new.self s (across (r.x + 1) (bottom r) (r.width - 2) b.horizontal) c.across-2.ensures in
    let columns = c.border_fault.ensures.columns c.in_default.is in
    let rows = c.border_fault.ensures.rows c.in_default.is in
    (omega (arith, one.0, two.0, three.0, columns.0, columns.1), omega (arith, one.1, two.1, three.1, rows.0, rows.1))

pub down-requires-2-clause-place : goal.down-requires-2-clause-place
down-requires-2-clause-place g c =
    let r = c.args.rect in
    let s = c.args.style in
    let b = c.args.border in
    let one = stamped_size c.args.self.now c.corners.new.self s (corners r b) c.corners.ensures in
    let two = stamped_size c.corners.new.self c.across.new.self s (across (r.x + 1) r.y (r.width - 2) b.horizontal) c.across.ensures in
    let three = stamped_size c.across.new.self c.across-2.new.self s (across (r.x + 1) (bottom r) (r.width - 2) b.horizontal) c.across-2.ensures in
    let four = stamped_size c.across-2.new.self c.down.new.self s (down r.x (r.y + 1) (r.height - 2) b.vertical) c.down.ensures in
    let columns = c.border_fault.ensures.columns c.in_default.is in
    let rows = c.border_fault.ensures.rows c.in_default.is in
    (omega (arith, one.0, two.0, three.0, four.0, columns.0, columns.1), omega (arith, one.1, two.1, three.1, four.1, rows.0, rows.1))

pub returns-clause-ok : goal.returns-clause-ok
returns-clause-ok g c =
    let r = c.args.rect in
    let s = c.args.style in
    let b = c.args.border in
    let first = across (r.x + 1) r.y (r.width - 2) b.horizontal in
    let last = across (r.x + 1) (bottom r) (r.width - 2) b.horizontal in
    let left = down r.x (r.y + 1) (r.height - 2) b.vertical in
    let end = down (right r) (r.y + 1) (r.height - 2) b.vertical in
    let downs : c.down-2.new.self ≡ with_stamps c.across-2.new.self s (left ++ end) = stamped_both c.across-2.new.self c.down.new.self c.down-2.new.self s left end c.down.ensures c.down-2.ensures in
    let from_last : c.down-2.new.self ≡ with_stamps c.across.new.self s (last ++ (left ++ end)) = stamped_both c.across.new.self c.across-2.new.self c.down-2.new.self s last (left ++ end) c.across-2.ensures downs in
    let from_first : c.down-2.new.self ≡ with_stamps c.corners.new.self s (first ++ (last ++ (left ++ end))) = stamped_both c.corners.new.self c.across.new.self c.down-2.new.self s first (last ++ (left ++ end)) c.across.ensures from_last in (
      sym c.border_fault.ensures.value ∙ c.in_default.is,
      stamped_both c.args.self.now c.corners.new.self c.down-2.new.self s (corners r b) (first ++ (last ++ (left ++ end))) c.corners.ensures from_first,
    )
