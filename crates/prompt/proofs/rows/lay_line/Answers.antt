use Rattle.std.proofs.Common.{ap, length, subst, sym, ◌∙◌, ◌≤◌, ◌/◌}
use Rattle.screen.specs.Paragraphs.{ParagraphView}
use Rattle.prompt.specs.Shown.{Shown, runs_of}
use Rattle.prompt.specs.Wrapping.{front_cells, line_cells}
use Rattle.prompt.proofs.Laid.{cursor_inside, lays_line, place_behind}
use Rattle.prompt.proofs.rows.lay_line.Goals as goal

pub returns : goal.returns
returns g c =
    let w = c.args.width in
    let s = c.args.shown.now in
    let p0 : ParagraphView = c.resize.new.self in
    let p2 : ParagraphView = c.push.new.self in
    let line = ap (λ (x : Shown). x.line) c.shown.view_is in
    let lays = lays_line p0 c.lay_runs.new.paragraph p2 c.push-2.new.self w (runs_of c.shown.inside.text.now c.shown.inside.parts.now) c.before-2.result.now c.after.result.now s c.new.result c.new-2.result
    (ap (λ (x : ParagraphView). x.width) c.resize.ensures) (ap (λ (x : ParagraphView). x.cells) c.resize.ensures)
    c.in_ok-lay_runs.ensures.width c.in_ok-lay_runs.ensures.cells (ap (λ (x : Shown). x.prompt) c.shown.view_is)
    (c.before-2.ensures.text ∙ ap (λ l. l.before) line) c.new.ensures c.in_ok-push.ensures.ok (c.after.ensures ∙ ap (λ l. l.after) line) c.new-2.ensures c.in_ok-push-2.ensures.ok in
    let behind = place_behind p2 w (front_cells w s) lays.front_width lays.front in
    let row = c.end-place.ensures.1 ∙ behind.1 in
    record {
      width = lays.width_is;
      cells = lays.line;
      cursor = (c.end-place.ensures.0 ∙ behind.0, row);
      inside = subst (λ n. n ≤ length (line_cells w s) / w) (sym row) (cursor_inside w s);
    }
