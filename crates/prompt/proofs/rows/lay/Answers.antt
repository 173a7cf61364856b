use Rattle.std.proofs.Common.{◌/◌, max, length, ap, ◌∙◌, arith}
use Rattle.prompt.specs.Wrapping.{row_of_last, line_cells}
use Rattle.prompt.proofs.Laid.{place_behind}
use Rattle.prompt.proofs.rows.lay.Goals as goal

pub returns : goal.returns
returns g c =
    let w = c.args.width in
    let cells = line_cells w c.args.shown.now in
    let line = c.in_ok-column.ensures in
    let all = c.in_ok-has_hint.ensures in
    let end = c.end-last.ensures.1 ∙ (place_behind c.lay_line.new.paragraph w cells line.width line.cells).1 in
    let last = c.last_of.ensures ∙ ap (row_of_last w) (c.len.ensures ∙ ap length all.cells) in
    record {
      width = all.width;
      cells = all.cells;
      cursor = line.cursor;
      needed = (c.max.ensures ∙ ap (λ n. max n c.last_of.result) end ∙ ap (max (length cells / w)) last, omega (arith, line.inside, end, c.max.ensures));
      line = c.len-count.ensures ∙ ap length line.cells;
      has = all.has;
    }
