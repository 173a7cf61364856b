use Rattle.std.proofs.Common.{rules, ◌≡◌, ◌≢◌, ◌++◌, ◌+◌, ◌*◌, ◌/◌, ◌%◌, ◌<◌, ◌≤◌, ◌^◌, List, set, length, get_or, take, arith, true, false, sym, ap, ◌∙◌, subst, Some}
use Rattle.std.proofs.lemmas.List.{get_or_default}
use Rattle.screen.specs.Cells.{FitsCell, IsPlaced, blank, is_covered, is_wide, last_place, shown_text}
use Rattle.screen.specs.Grids.{is_last, right_of}
use Rattle.screen.specs.Updates.{HasToBePrinted}
use Rattle.screen.specs.declared.strokes.Stroke.{Stroke}
use Rattle.screen.specs.inside.Pens.{PutsStrokes}
use Rattle.screen.specs.inside.Scans.{known_cursor, known_style}
use Rattle.screen.specs.inside.Settings.{Sets}
use Rattle.screen.specs.inside.Strokes.{AreFitting, again_strokes, cell_strokes, first_strokes}
use Rattle.screen.proofs.Crossings.{approach_counted, approach_fitting, approach_reaches, comes}
use Rattle.screen.proofs.Places.{column_below, place_there, row_below}
use Rattle.screen.proofs.Putting.{puts_both}
use Rattle.screen.proofs.Scans.{ends, paints, paints_counted, paints_fitting, starts, starts_counted, starts_fitting, placed_held, within_length}
use Rattle.screen.proofs.Skips.{AreCopied, AreSame, Stage, copied_all, copied_more, copied_one, copied_same, copied_second, copied_start, last_from, stage_covered, stage_second, stage_skipped}
use Rattle.screen.proofs.Spares.{spares_all, spares_painted, spares_start}
use Rattle.screen.proofs.planning.scan.Goals.{then-not-is_covered, else-not-is_covered}
use Rattle.screen.proofs.planning.scan.Goals as goal

pub loop-at-init : goal.loop-at-init
loop-at-init g c =
    let w = c.args.size.0 in
    let h = c.args.size.1 in
    let known = c.args.start in
    let before = c.args.before.now in
    let after = c.args.after.now in
    let first = first_strokes known in
    let next = c.next_difference-at in
    let same_length : length before ≡ length after = within_length known w h before c.requires.before ∙ sym c.requires.length in
    let same : AreSame before after 0 next.result = next.ensures.same in
    let cursor = known_cursor known in
    let style = known_style known in
    let begun : Stage known w h before after first cursor style 0 = record {
      reached = starts known w h before after c.requires.before c.requires.before_paired c.requires.after_paired;
      again = 0;
      counted = starts_counted known before after;
      sparing = spares_start known w before after;
    } in
    let stage : Stage known w h before after first cursor style next.result =
    stage_skipped known w h before after first cursor style 0 next.result c.requires.before_paired c.requires.after_paired same_length next.ensures.from next.ensures.bound same begun in (
      first,
      subst (λ o. Stage known w h before after first o c.style-style.result next.result) (sym c.cursor-cursor.ensures)
          (subst (λ o. Stage known w h before after first cursor o next.result) (sym c.style-style.ensures) stage),
      starts_fitting known,
      c.put_first.ensures,
      copied_more before after before 0 next.result (copied_start before after same_length) next.ensures.from same,
      next.ensures.bound,
      next.ensures.differ,
    )

pub loop-at-preserved : goal.loop-at-preserved
loop-at-preserved g c =
    let held = g.W.Write.contents in
    let old = held c.args.writer.now in
    let k = c.loop-at.at in
    let cell = c.index-after-at.result in
    let w = c.args.size.0 in
    let h = c.args.size.1 in
    let known = c.args.start in
    let before = c.args.before.now in
    let after = c.args.after.now in
    let b = get_or before k blank in
    let lb : length before ≡ w * h = within_length known w h before c.requires.before in
    let same_length : length before ≡ length after = lb ∙ sym c.requires.length in
    let la : k < length after = search rules in
    let kb : k < length before = omega (arith, la, same_length) in
    let eb : get_or before k b ≡ b = get_or_default before k b blank kb in
    let ec : get_or after k cell ≡ cell = search rules in
    let wide : w < 2 ^ 32 = omega arith in
    let high : h < 2 ^ 32 = omega arith in
    let pb = c.requires.before_paired in
    let pa = c.requires.after_paired in
    let inv : (strokes : List Stroke) × Stage known w h before after strokes c.loop-at.cursor c.loop-at.style k × AreFitting known strokes × PutsStrokes strokes old c.args.pen.now (held c.loop-at.writer) c.loop-at.pen
    × AreCopied before after c.loop-at.before k × (k ≤ length after) × (k < length after → get_or c.loop-at.before k blank ≢ get_or after k blank) = c.loop-at.invariant in
    let strokes = inv.0 in
    let stage = inv.1 in
    let copied = inv.4 in
    let differ : b ≢ cell = λ e. inv.6 la (copied.rest k (omega arith) ∙ e ∙ sym ec ∙ get_or_default after k cell blank la) in
    let ed : get_or after k blank ≡ cell = sym (get_or_default after k cell blank la) ∙ ec in
    let shown = set c.loop-at.before k cell in
    let one : AreCopied before after shown (k + 1) = copied_one before after c.loop-at.before k cell copied la ec in
    let j = c.if-not-is_covered in
    let visited : (more : List Stroke) × Stage known w h before after more j.cursor j.style (j.at + 1) × AreFitting known more × PutsStrokes more old c.args.pen.now (held j.writer) j.pen × AreCopied before after j.before (j.at + 1) =
    elim c.if-not-is_covered.branch [
      | then-not-is_covered p ↦
          let row = k / w in
          let column = k % w in
          let here : k < w * h = omega (arith, la, c.requires.length) in
          let low : row < h = row_below w h k here in
          let near : column < w = column_below w h k here in
          let there = p.approach-there.result in
          let (cells, way, puts) = p.approach-there.ensures in
          let again = again_strokes cells in
          let front = strokes ++ again in
          let (to, is_there, reached) = approach_reaches known w h row column before after k c.loop-at.cursor c.loop-at.style strokes cells there pa c.requires.fits (omega (arith, la)) (place_there w k) near way stage.reached in
          let how = p.setting_of-setting.result in
          let second = p.copy_second-at in
          let last = second.result in
          let uncovered : is_covered cell ≡ false = search rules in
          let prints : HasToBePrinted b cell = (uncovered, differ) in
          let is_placed : IsPlaced cell = subst IsPlaced ec (c.requires.fits k cell la) in
          let fits : FitsCell (shown_text cell) = placed_held cell uncovered is_placed in
          let room : is_wide cell ≡ true → is_last w k ≡ false = λ y. c.requires.rows k cell la (ap is_wide ec ∙ y) in
          let more = cell_strokes there how column row cell in
          let next = right_of w (last_place k cell) in
          let is_last_place : last ≡ last_place k cell = second.ensures.value ∙ ap (last_place k) ed in
          let cursor : j.cursor ≡ next = ◌∙◌ {b = right_of w last} {c = next} (◌∙◌ {b = p.right_of-cursor.result} {c = right_of w last} p.cursor-is p.right_of-cursor.ensures) (ap (right_of w) is_last_place) in
          let set_now : j.style ≡ Some cell.style = search rules in
          let sets = subst (λ s. Sets c.loop-at.style s how) p.packed_style.ensures p.setting_of-setting.ensures.sets in
          let painted : Stage known w h before after (front ++ more) next (Some cell.style) (k + 1) = record {
            reached = paints known k w h before after to c.loop-at.style front b cell there how row column kb la lb c.requires.length eb ec low near high wide
                (place_there w k) sets p.setting_of-setting.ensures.fits fits uncovered room pb pa is_there reached;
            again = stage.again + length cells;
            counted = paints_counted before after k (stage.again + length cells) front b cell there how row column kb la eb ec prints
                (approach_counted (take k before) (take k after) after stage.again c.loop-at.cursor c.loop-at.style k column cells there strokes way stage.counted);
            sparing = spares_painted known w before after k stage.again c.loop-at.cursor c.loop-at.style strokes cells b cell there how column row kb la eb ec prints
                (comes after c.loop-at.cursor c.loop-at.style k column cells there (omega (arith, la)) way) sets stage.sparing;
          } in
          let all : Stage known w h before after (front ++ more) next (Some cell.style) (last + 1) =
          stage_second known w h before after (front ++ more) next (Some cell.style) k last pb pa same_length la second.ensures.bound second.ensures.value painted in
          let put_front : PutsStrokes front old c.args.pen.now (held p.approach-there.new.writer) p.approach-there.new.pen =
          puts_both strokes again old (held c.loop-at.writer) (held p.approach-there.new.writer) c.args.pen.now c.loop-at.pen p.approach-there.new.pen inv.3 puts in
          let put : PutsStrokes (front ++ more) old c.args.pen.now (held p.paint.new.writer) p.paint.new.pen =
          puts_both front more old (held p.approach-there.new.writer) (held p.paint.new.writer) c.args.pen.now p.approach-there.new.pen p.paint.new.pen put_front p.paint.ensures in
          let copies : AreCopied before after second.new.before (last + 1) =
          copied_second before after shown second.new.before k last one second.ensures.length (subst (λ n. k ≤ n) (sym is_last_place) (last_from k cell)) second.ensures.copied second.ensures.others in (
            front ++ more,
            subst (λ n. Stage known w h before after (front ++ more) j.cursor j.style (n + 1)) (sym p.at-is)
                (subst (λ o. Stage known w h before after (front ++ more) o j.style (last + 1)) (sym cursor) (subst (λ o. Stage known w h before after (front ++ more) next o (last + 1)) (sym set_now) all)),
            paints_fitting known front there how column row cell (omega (arith, near, wide)) (omega (arith, low, high)) fits
                (approach_fitting known after c.loop-at.cursor c.loop-at.style k column cells there strokes c.requires.fits way inv.2),
            subst (λ n. PutsStrokes (front ++ more) old c.args.pen.now (held n) j.pen) (sym p.writer-is) (subst (λ n. PutsStrokes (front ++ more) old c.args.pen.now (held p.paint.new.writer) n) (sym p.pen-is) put),
            subst (λ n. AreCopied before after j.before (n + 1)) (sym p.at-is) (subst (λ l. AreCopied before after l (last + 1)) (sym p.before-is) copies),
          )
      | else-not-is_covered q ↦
          let covered : is_covered cell ≡ true = search rules in
          let kept : Stage known w h before after strokes c.loop-at.cursor c.loop-at.style (k + 1) =
          stage_covered known w h before after strokes c.loop-at.cursor c.loop-at.style k pb pa same_length la (ap is_covered ed ∙ covered) stage in (
            strokes,
            subst (λ n. Stage known w h before after strokes j.cursor j.style (n + 1)) (sym q.at-is)
                (subst (λ o. Stage known w h before after strokes o j.style (k + 1)) (sym q.cursor-is) (subst (λ o. Stage known w h before after strokes c.loop-at.cursor o (k + 1)) (sym q.style-is) kept)),
            inv.2,
            subst (λ n. PutsStrokes strokes old c.args.pen.now (held n) j.pen) (sym q.writer-is) (subst (λ n. PutsStrokes strokes old c.args.pen.now (held c.loop-at.writer) n) (sym q.pen-is) inv.3),
            subst (λ n. AreCopied before after j.before (n + 1)) (sym q.at-is) (subst (λ l. AreCopied before after l (k + 1)) (sym q.before-is) one),
          )
    ] in
    let next = c.next_difference-at-in-loop-at in
    let same : AreSame j.before after (j.at + 1) next.result = next.ensures.same in (
      visited.0,
      stage_skipped known w h before after visited.0 j.cursor j.style (j.at + 1) next.result pb pa same_length next.ensures.from next.ensures.bound (copied_same before after j.before (j.at + 1) next.result visited.4 same) visited.1,
      visited.2,
      visited.3,
      copied_more before after j.before (j.at + 1) next.result visited.4 next.ensures.from same,
      next.ensures.bound,
      next.ensures.differ,
    )

pub returns-clause-strokes : goal.returns-clause-strokes
returns-clause-strokes g c =
    let held = g.W.Write.contents in
    let known = c.args.start in
    let w = c.args.size.0 in
    let h = c.args.size.1 in
    let k = c.loop-at.at in
    let before = c.args.before.now in
    let after = c.args.after.now in
    let lb : length before ≡ w * h = within_length known w h before c.requires.before in
    let la : length after ≡ w * h = c.requires.length in
    let long : w * h ≤ k = omega (arith, la, c.loop-at-test.false) in
    let inv : (strokes : List Stroke) × Stage known w h before after strokes c.loop-at.cursor c.loop-at.style k × AreFitting known strokes × PutsStrokes strokes (held c.args.writer.now) c.args.pen.now (held c.loop-at.writer) c.loop-at.pen
    × AreCopied before after c.loop-at.before k × (k ≤ length after) × (k < length after → get_or c.loop-at.before k blank ≢ get_or after k blank) = c.loop-at.invariant in
    let stage = inv.1 in
    let few = spares_all known w k stage.again before after c.loop-at.cursor c.loop-at.style inv.0 (omega (arith, lb, long)) (omega (arith, la, long)) stage.sparing in
    (inv.0, ends known k w h stage.again before after c.loop-at.cursor c.loop-at.style inv.0 lb la long stage.reached stage.counted few, inv.2, inv.3)

pub returns-clause-shown : goal.returns-clause-shown
returns-clause-shown g c =
    let inv = c.loop-at.invariant in
    copied_all c.args.before.now c.args.after.now c.loop-at.before c.loop-at.at inv.4 (omega (arith, c.loop-at-test.false))
