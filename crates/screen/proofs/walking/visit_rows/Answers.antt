use Rattle.std.proofs.Common.{◌≡◌, ℕ, suc, ◌+◌, ◌-◌, ◌*◌, ◌++◌, ◌<◌, ◌≤◌, ◌∙◌, List, [], ap, append-nil, arith, drop, length, subst, sym, take}
use Rattle.std.proofs.lemmas.List.{drop_all, take_all}
use Rattle.std.proofs.Math.Nat.{mul-add, mul-suc}
use borrow.Rule.Slice.PartMut.{put_mid}
use Rattle.crossterm_command.specs.Tokens.{Token}
use Rattle.crossterm_command.specs.declared.color_output.ColorOutput.{ColorOutput}
use Rattle.screen.specs.Blocks.{cut_rows}
use Rattle.screen.specs.Cells.{AreLaidOut, Cell}
use Rattle.screen.specs.inside.Blocks.{VisitsRow, Walks}
use Rattle.screen.proofs.CellRows.{row_laid, row_length}
use Rattle.screen.proofs.RowSteps.{puts_nothing, puts_then}
use Rattle.screen.proofs.Visiting.{mixed, mixed_more, mixed_row, row_ends, walks_both, walks_mixed, walks_none}
use Rattle.screen.proofs.walking.visit_rows.Goals as goal

pub loop-row-init : goal.loop-row-init
loop-row-init g c =
    let none : c.args.size.0 * 0 ≡ 0 = omega arith in
    let after = c.args.after.now in
    let before = c.args.before.now in (
      sym (ap (λ n. take n after ++ drop n before) none),
      c.requires.place,
      [],
      walks_none c.args.size.0 c.args.pen.now.colors (cut_rows c.args.size.0 c.args.size.1 after) (cut_rows c.args.size.0 c.args.size.1 before) c.args.place,
      puts_nothing (g.W.Write.contents c.args.writer.now) c.args.pen.now,
    )

-- The cells of one of so many rows.
one_row : (width height r at w : ℕ) (cells : List Cell) → r < height → at ≡ width * r → w ≡ width → length cells ≡ width * height → 0 < width → AreLaidOut width cells
    → (length (take (at + w - at) (drop at cells)) ≡ width) × AreLaidOut width (take (at + w - at) (drop at cells))
one_row width height r at w cells lt place whole size some laid =
    let n = height - r - 1 in
    let rows : height ≡ r + suc n = omega (arith, lt) in
    let long : length cells ≡ width * (r + suc n) = size ∙ ap (λ k. width * k) rows in
    let part : at + w - at ≡ width = omega (arith, whole) in
    let same : take width (drop (width * r) cells) ≡ take (at + w - at) (drop at cells) = ap (λ k. take k (drop (width * r) cells)) (sym part) ∙ ap (λ k. take (at + w - at) (drop k cells)) (sym place) in (
      subst (λ l. length l ≡ width) same (row_length width r n cells long).1,
      subst (AreLaidOut width) same (row_laid width r n cells some long laid),
    )

pub visit_row-place-requires-clause-in_row : goal.visit_row-place-requires-clause-in_row
visit_row-place-requires-clause-in_row g c = let (same, lt, ts, walks, puts) = c.loop-row.invariant in puts.1.1 ∙ c.requires.in_row

pub visit_row-place-requires-clause-place : goal.visit_row-place-requires-clause-place
visit_row-place-requires-clause-place g c = c.loop-row.invariant.1

pub visit_row-place-requires-clause-after : goal.visit_row-place-requires-clause-after
visit_row-place-requires-clause-after g c =
    one_row c.args.size.0 c.args.size.1 c.loop-row.row c.count_of-at.result c.from-columns.result c.args.after.now c.loop-row-test.true c.count_of-at.ensures c.from-columns.ensures c.requires.after.0 (omega (arith, c.requires.end)) c.requires.after.1

-- A row of the cells so far is the old one.
old_row : (width height r at w : ℕ) (before after now : List Cell) → r < height → at ≡ width * r → w ≡ width → length after ≡ width * height → now ≡ mixed width r before after
    → take (at + w - at) (drop at now) ≡ take width (drop (width * r) before)
old_row width height r at w before after now lt place whole size is =
    let n = height - r - 1 in
    let rows : height ≡ r + suc n = omega (arith, lt) in
    let part : at + w - at ≡ width = omega (arith, whole) in
    ap (λ k. take k (drop at now)) part ∙ ap (λ k. take width (drop k now)) place ∙ ap (λ l. take width (drop (width * r) l)) is
    ∙ mixed_row width r before after (row_length width r n after (size ∙ ap (λ k. width * k) rows)).0

pub visit_row-place-requires-clause-before : goal.visit_row-place-requires-clause-before
visit_row-place-requires-clause-before g c =
    let width = c.args.size.0 in
    let height = c.args.size.1 in
    let row = c.loop-row.row in
    let before = c.args.before.now in
    let at = c.count_of-at.result in
    let w = c.from-columns.result in
    let n = height - row - 1 in
    let rows : height ≡ row + suc n = omega (arith, c.loop-row-test.true) in
    let long : length before ≡ width * (row + suc n) = c.requires.before.0 ∙ ap (λ k. width * k) rows in
    let same : take (at + w - at) (drop at c.loop-row.before) ≡ take width (drop (width * row) before) =
    old_row width height row at w before c.args.after.now c.loop-row.before c.loop-row-test.true c.count_of-at.ensures c.from-columns.ensures c.requires.after.0 c.loop-row.invariant.0 in (
      ap length same ∙ (row_length width row n before long).1,
      subst (AreLaidOut width) (sym same) (row_laid width row n before (omega (arith, c.requires.end)) long c.requires.before.1),
    )

-- After one more row was visited, the cells so far have that row.
row_walked : (width height r at w : ℕ) (colors : ColorOutput) (before after now row : List Cell) (start place to : ℕ × ℕ) (ts us : List Token) → r < height → at ≡ width * r → w ≡ width → length before ≡ width * height → length after ≡ width * height
    → now ≡ mixed width r before after → row ≡ take (at + w - at) (drop at after) → VisitsRow width colors (take (at + w - at) (drop at now)) (take (at + w - at) (drop at after)) r place to us
    → Walks width colors (cut_rows width height after) (cut_rows width height before) start ts (cut_rows width height now) place
    → (put_mid at (at + w - at) now row ≡ mixed width (r + 1) before after) × Walks width colors (cut_rows width height after) (cut_rows width height before) start (ts ++ us) (cut_rows width height (put_mid at (at + w - at) now row)) to
row_walked width height r at w colors before after now row start place to ts us lt there whole long size is new visit walks =
    let n = height - r - 1 in
    let rows : height ≡ r + suc n = omega (arith, lt) in
    let part : at + w - at ≡ width = omega (arith, whole) in
    let held : length before ≡ width * (r + suc n) = long ∙ ap (λ k. width * k) rows in
    let wanted : length after ≡ width * (r + suc n) = size ∙ ap (λ k. width * k) rows in
    let enough : width * r + width ≤ length before = omega (arith, held, mul-add width r (suc n), mul-suc width n) in
    let others : take (at + w - at) (drop at after) ≡ take width (drop (width * r) after) = ap (λ k. take k (drop at after)) part ∙ ap (λ k. take width (drop k after)) there in
    let here : VisitsRow width colors (take width (drop (width * r) before)) (take width (drop (width * r) after)) r place to us =
    subst (λ l. VisitsRow width colors l (take width (drop (width * r) after)) r place to us) (old_row width height r at w before after now lt there whole size is)
    (subst (λ l. VisitsRow width colors (take (at + w - at) (drop at now)) l r place to us) others visit) in
    let put : put_mid at (at + w - at) now row ≡ mixed width (r + 1) before after =
    ap (λ k. put_mid k (at + w - at) now row) there ∙ ap (λ l. put_mid (width * r) (at + w - at) l row) is ∙ mixed_more width r (at + w - at) before after row enough (size ∙ sym long) part (new ∙ others) in
    let step : Walks width colors (cut_rows width height after) (cut_rows width height (mixed width r before after)) place us (cut_rows width height (mixed width (r + 1) before after)) to =
    subst (λ k. Walks width colors (cut_rows width k after) (cut_rows width k (mixed width r before after)) place us (cut_rows width k (mixed width (r + 1) before after)) to) (sym rows)
    (walks_mixed width r n colors before after place to us held wanted here) in
    let so_far : Walks width colors (cut_rows width height after) (cut_rows width height before) start ts (cut_rows width height (mixed width r before after)) place =
    subst (λ l. Walks width colors (cut_rows width height after) (cut_rows width height before) start ts (cut_rows width height l) place) is walks in (
      put,
      subst (λ l. Walks width colors (cut_rows width height after) (cut_rows width height before) start (ts ++ us) (cut_rows width height l) to) (sym put)
          (walks_both width colors (cut_rows width height after) (cut_rows width height before) (cut_rows width height (mixed width r before after)) (cut_rows width height (mixed width (r + 1) before after)) start place to ts us so_far step),
    )

pub loop-row-preserved : goal.loop-row-preserved
loop-row-preserved g c =
    let held = g.W.Write.contents in
    let old = held c.args.writer.now in
    let width = c.args.size.0 in
    let height = c.args.size.1 in
    let row = c.loop-row.row in
    let at = c.count_of-at.result in
    let w = c.from-columns.result in
    let before = c.args.before.now in
    let after = c.args.after.now in
    let colors = c.args.pen.now.colors in
    let now = c.loop-row.before in
    let (same, lt, ts, walks, puts) = c.loop-row.invariant in
    let (us, visit, more) = c.visit_row-place.ensures.tokens in
    let visit_as : VisitsRow width colors (take (at + w - at) (drop at now)) (take (at + w - at) (drop at after)) row c.loop-row.place c.visit_row-place.result us =
    subst (λ k. VisitsRow width k (take (at + w - at) (drop at now)) (take (at + w - at) (drop at after)) row c.loop-row.place c.visit_row-place.result us) puts.1.0 visit in
    let next = row_walked width height row at w colors before after now c.visit_row-place.new.before c.args.place c.loop-row.place c.visit_row-place.result ts us c.loop-row-test.true c.count_of-at.ensures c.from-columns.ensures
    c.requires.before.0 c.requires.after.0 same c.visit_row-place.ensures.shown visit_as walks in (
      next.0,
      row_ends width colors (take (at + w - at) (drop at now)) (take (at + w - at) (drop at after)) row c.loop-row.place c.visit_row-place.result us lt visit_as,
      ts ++ us,
      next.1,
      puts_then ts us old (held c.loop-row.writer) (held c.visit_row-place.new.writer) c.args.pen.now c.loop-row.pen c.visit_row-place.new.pen puts more,
    )

-- All rows are the new ones.
all_rows : (width height r : ℕ) (before after now : List Cell) → r ≡ height → length before ≡ width * height → length after ≡ width * height → now ≡ mixed width r before after → now ≡ after
all_rows width height r before after now end long size is =
    is ∙ ap (λ k. mixed width k before after) end
    ∙ ap (λ l. l ++ drop (width * height) before) (take_all (width * height) after (omega (arith, size))) ∙ ap (λ l. after ++ l) (drop_all (width * height) before (omega (arith, long))) ∙ append-nil after

pub returns-clause-tokens : goal.returns-clause-tokens
returns-clause-tokens g c =
    let width = c.args.size.0 in
    let height = c.args.size.1 in
    let before = c.args.before.now in
    let after = c.args.after.now in
    let (same, lt, ts, walks, puts) = c.loop-row.invariant in
    let end : c.loop-row.row ≡ height = omega (arith, c.loop-row.auto.row-end, c.loop-row-test.false) in (
      ts,
      subst (λ l. Walks width c.args.pen.now.colors (cut_rows width height after) (cut_rows width height before) c.args.place ts (cut_rows width height l) c.loop-row.place)
          (all_rows width height c.loop-row.row before after c.loop-row.before end c.requires.before.0 c.requires.after.0 same) walks,
      puts,
    )

pub returns-clause-shown : goal.returns-clause-shown
returns-clause-shown g c =
    let end : c.loop-row.row ≡ c.args.size.1 = omega (arith, c.loop-row.auto.row-end, c.loop-row-test.false) in
    all_rows c.args.size.0 c.args.size.1 c.loop-row.row c.args.before.now c.args.after.now c.loop-row.before end c.requires.before.0 c.requires.after.0 c.loop-row.invariant.0
