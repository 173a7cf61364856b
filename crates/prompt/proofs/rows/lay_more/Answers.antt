use Rattle.std.proofs.Common.{◌==◌, ap, chars, length, not, ◌∙◌}
use Rattle.crossterm_style.specs.Styles.{no_style}
use Rattle.screen.specs.Paragraphs.{ParagraphView}
use Rattle.prompt.specs.Pictures.{dim_style}
use Rattle.prompt.specs.Shown.{Shown, listing}
use Rattle.prompt.specs.Wrapping.{line_cells, row_hint, with_wrapped}
use Rattle.prompt.proofs.Laid.{one_more, same_width}
use Rattle.prompt.proofs.rows.lay_more.Goals as goal

pub returns : goal.returns
returns g c =
    let w = c.args.width in
    let s = c.args.shown.now in
    let p0 : ParagraphView = c.args.paragraph.now in
    let p1 : ParagraphView = c.push.new.self in
    let p2 : ParagraphView = c.push-2.new.self in
    let hint = c.row_hint-hint.result.now in
    let text = ap chars c.row_hint-hint.ensures in
    let behind = with_wrapped w (line_cells w s) (chars (row_hint w s)) dim_style in
    let w1 = same_width p0 p1 w (line_cells w s) (chars hint) (chars (row_hint w s)) c.dim.result dim_style c.requires.width c.requires.line text c.dim.ensures c.in_ok-push.ensures.ok in
    let h1 = one_more p0 p1 w (line_cells w s) (chars hint) (chars (row_hint w s)) c.dim.result dim_style c.requires.width c.requires.line text c.dim.ensures c.in_ok-push.ensures.ok in
    let names = ap chars (c.as_str.ensures.value ∙ c.in_ok-names.ensures ∙ ap (λ (x : Shown). listing w x.candidates) c.shown.view_is) in
    record {
      width = same_width p1 p2 w behind (chars c.as_str.result.now) (chars (listing w s.candidates)) c.new.result no_style w1 h1 names c.new.ensures c.in_ok-push-2.ensures.ok;
      cells = one_more p1 p2 w behind (chars c.as_str.result.now) (chars (listing w s.candidates)) c.new.result no_style w1 h1 names c.new.ensures c.in_ok-push-2.ensures.ok;
      has = ap not (c.is_empty.ensures ∙ ap (λ t. length t == 0) c.row_hint-hint.ensures);
    }
