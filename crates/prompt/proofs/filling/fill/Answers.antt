use Rattle.std.proofs.Common.{ℕ, ◌-◌, ap, not, refl, ◌∙◌}
use Rattle.crossterm_style.specs.declared.content_style.ContentStyle.{ContentStyle}
use Rattle.line_editor.specs.Views.{seen_text}
use Rattle.screen.specs.Buffers.{Picture, filled_with}
use Rattle.prompt.specs.Drawing.{inside}
use Rattle.prompt.specs.Pictures.{Parts, column_after, hint_behind, printed_from, printed_runs, shown_prompt}
use Rattle.prompt.specs.Shown.{Shown}
use Rattle.prompt.proofs.Pictures.{cursor_is, end_is, made, runs_height}
use Rattle.prompt.proofs.filling.fill.Goals as goal

pub returns-clause-size : goal.returns-clause-size
returns-clause-size g c =
    let b0 : Picture = c.fill.new.self in
    let width : Picture → ℕ = λ p. p.width in
    let height : Picture → ℕ = λ p. p.height in (
      c.in_ok-print.ensures.width ∙ c.in_ok-end.ensures.width ∙ c.in_ok-cursor.ensures.width ∙ c.in_ok-start.ensures.width ∙ ap width c.in_ok-fill.ensures.ok.1,
      ap height c.in_ok-print.ensures.shown ∙ ap height c.in_ok-end.ensures.shown ∙ ap height c.in_ok-cursor.ensures.shown
          ∙ ap height c.in_ok-start.ensures.shown ∙ runs_height b0.width b0 0 (shown_prompt b0.width c.args.what.now.prompt) ∙ ap height c.in_ok-fill.ensures.ok.1,
    )

pub returns-clause-picture : goal.returns-clause-picture
returns-clause-picture g c =
    let was = c.args.buffer.now in
    let what = c.args.what.now in
    let view = c.what.view_is in
    let s : Parts = record { prompt = shown_prompt was.width what.prompt; before = c.parted.result.0.now; after = c.parted.result.1.now; hint = c.hint_behind-hint.result.now } in
    let b0 : Picture = c.fill.new.self in
    let b1 : Picture = c.print_prompt.new.buffer in
    let b2 : Picture = c.print.new.buffer in
    let b3 : Picture = c.print-2.new.buffer in
    let b4 : Picture = c.print-3.new.buffer in
    let start = c.in_ok-start.start in
    let cursor = c.in_ok-cursor.cursor in
    let end = c.in_ok-end.end in
    let e0 = c.in_ok-fill.ensures.ok.1 ∙ ap (λ (x : ContentStyle). filled_with was 32 x) c.new.ensures in
    let w0 = ap (λ (p : Picture). p.width) e0 in
    let e1 = c.in_ok-start.ensures.shown ∙ ap (λ w. printed_runs b0.width b0 0 (shown_prompt w what.prompt)) w0 in
    let c1 = c.in_ok-start.ensures.behind ∙ ap (λ w. column_after b0.width 0 (shown_prompt w what.prompt)) w0 in
    let e2 = c.in_ok-cursor.ensures.shown ∙ ap (λ (x : ContentStyle). printed_from b1 start s.before x) c.new-2.ensures in
    let e3 = c.in_ok-end.ensures.shown ∙ ap (λ (x : ContentStyle). printed_from b2 cursor s.after x) c.new-3.ensures in
    let e4 = c.in_ok-print.ensures.shown ∙ ap (λ (x : ContentStyle). printed_from b3 end s.hint x) c.dim.ensures in
    record {
      shown = s;
      blank = was;
      text = c.seen-count.result.0.now;
      after = c.after-behind.result.now;
      size = refl;
      cells = made was b0 b1 b2 b3 b4 s start cursor end e0 e1 c.in_ok-start.ensures.width c1 e2 c.in_ok-cursor.ensures.behind e3 c.in_ok-end.ensures.behind e4;
      prompts = refl;
      seen = (c.saturating_sub.result, c.seen-count.ensures.text ∙ ap (λ (w : Shown). seen_text c.saturating_sub.result w.line) view);
      behind = c.after-behind.ensures ∙ ap (λ (w : Shown). w.line.after) view;
      parted = c.parted.ensures;
      hints = c.hint_behind-hint.ensures ∙ ap (λ (w : Shown). hint_behind c.after-behind.result.now c.saturating_sub-2.result w.hint) view
          ∙ ap (λ n. hint_behind c.after-behind.result.now n what.hint) (c.saturating_sub-2.ensures ∙ ap (λ n. n - end) c.width-width.ensures
          ∙ ap (λ n. was.width - n) (end_is was b0 b1 b2 b3 b4 s start cursor end e0 e1 c.in_ok-start.ensures.width c1 e2 c.in_ok-cursor.ensures.behind e3 c.in_ok-end.ensures.behind e4));
      has = ap not c.is_empty.ensures;
      cursor = c.inside.ensures ∙ ap (λ n. inside n cursor) c.width-width.ensures
          ∙ ap (λ n. inside was.width n) (cursor_is was b0 b1 b2 b3 b4 s start cursor end e0 e1 c.in_ok-start.ensures.width c1 e2 c.in_ok-cursor.ensures.behind e3 c.in_ok-end.ensures.behind e4);
    }
