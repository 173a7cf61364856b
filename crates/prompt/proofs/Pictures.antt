-- The cells of a row, part by part.
use Rattle.std.proofs.Common.{◌≡◌, ℕ, ◌+◌, ◌<◌, List, [], ◌∷◌, Bor, chars, drop, get_or, length, map, refl, sym, ap, ◌∙◌}
use Rattle.std.proofs.lemmas.List.{at_drop_more}
use Rattle.crossterm_style.specs.Styles.{no_style}
use Rattle.crossterm_style.specs.declared.styled_content.StyledContent.{StyledContent}
use Rattle.screen.specs.Buffers.{Picture, filled_with}
use Rattle.prompt.specs.Drawing.{column_behind}
use Rattle.prompt.specs.Pictures.{Parts, column_after, cursor_column, dim_style, end_column, line_column, picture, printed_from, printed_runs}
use Rattle.prompt.specs.Shown.{PromptRun, run_of}

-- The parts of a prompt change no height.
pub runs_height : (width : ℕ) (p : Picture) (column : ℕ) (runs : List PromptRun) → (printed_runs width p column runs).height ≡ p.height
runs_height width p column [] = refl
runs_height width p column (r ∷ runs) = runs_height width (printed_from p column r.text r.style) (column_behind width column (chars r.text)) runs

-- A part of a prompt is printed, and the others behind it.
module _ (width : ℕ) (parts : List (StyledContent (Bor (List ℕ)))) (i : ℕ) (d : StyledContent (Bor (List ℕ))) (lt : i < length parts) (p : Picture) (column : ℕ) where
  abbrev part : PromptRun
  part = run_of (get_or parts i d)

  pub parts_printed : (q : Picture) (next : ℕ) → q ≡ printed_from p column part.text part.style → next ≡ column_behind width column (chars part.text)
      → printed_runs width p column (map run_of (drop i parts)) ≡ printed_runs width q next (map run_of (drop (i + 1) parts))
  parts_printed q next made behind =
      at_drop_more (λ rs. printed_runs width p column (map run_of rs)) parts i d lt
      ∙ ap (λ n. printed_runs width (printed_from p column part.text part.style) n (map run_of (drop (i + 1) parts))) (sym behind)
      ∙ ap (λ (x : Picture). printed_runs width x next (map run_of (drop (i + 1) parts))) (sym made)

  pub parts_behind : (next : ℕ) → next ≡ column_behind width column (chars part.text)
      → column_after width column (map run_of (drop i parts)) ≡ column_after width next (map run_of (drop (i + 1) parts))
  parts_behind next behind =
      at_drop_more (λ rs. column_after width column (map run_of rs)) parts i d lt ∙ ap (λ n. column_after width n (map run_of (drop (i + 1) parts))) (sym behind)

-- A picture that was made part by part, and the columns behind its parts.
module _ (was b0 b1 b2 b3 b4 : Picture) (s : Parts) (start cursor end : ℕ) (e0 : b0 ≡ filled_with was 32 no_style) (e1 : b1 ≡ printed_runs b0.width b0 0 s.prompt) (w1 : b1.width ≡ b0.width)
    (c1 : start ≡ column_after b0.width 0 s.prompt) (e2 : b2 ≡ printed_from b1 start s.before no_style) (c2 : cursor ≡ column_behind b1.width start (chars s.before))
    (e3 : b3 ≡ printed_from b2 cursor s.after no_style) (c3 : end ≡ column_behind b2.width cursor (chars s.after)) (e4 : b4 ≡ printed_from b3 end s.hint dim_style) where
  abbrev blank : Picture
  blank = filled_with was 32 no_style

  line_is : start ≡ line_column was.width s
  line_is = c1 ∙ ap (λ (p : Picture). column_after p.width 0 s.prompt) e0

  first : b1 ≡ printed_runs was.width blank 0 s.prompt
  first = e1 ∙ ap (λ (p : Picture). printed_runs p.width p 0 s.prompt) e0

  same : b1.width ≡ was.width
  same = w1 ∙ ap (λ (p : Picture). p.width) e0

  pub cursor_is : cursor ≡ cursor_column was.width s
  cursor_is = c2 ∙ ap (λ w. column_behind w start (chars s.before)) same ∙ ap (λ n. column_behind was.width n (chars s.before)) line_is

  second : b2 ≡ printed_from (printed_runs was.width blank 0 s.prompt) (line_column was.width s) s.before no_style
  second = e2 ∙ ap (λ (p : Picture). printed_from p start s.before no_style) first ∙ ap (λ n. printed_from (printed_runs was.width blank 0 s.prompt) n s.before no_style) line_is

  pub end_is : end ≡ end_column was.width s
  end_is = c3 ∙ ap (λ (p : Picture). column_behind p.width cursor (chars s.after)) e2 ∙ ap (λ w. column_behind w cursor (chars s.after)) same
      ∙ ap (λ n. column_behind was.width n (chars s.after)) cursor_is

  third : b3 ≡ printed_from (printed_from (printed_runs was.width blank 0 s.prompt) (line_column was.width s) s.before no_style) (cursor_column was.width s) s.after no_style
  third = e3 ∙ ap (λ (p : Picture). printed_from p cursor s.after no_style) second
      ∙ ap (λ n. printed_from (printed_from (printed_runs was.width blank 0 s.prompt) (line_column was.width s) s.before no_style) n s.after no_style) cursor_is

  pub made : b4 ≡ picture was.width blank s
  made = e4 ∙ ap (λ (p : Picture). printed_from p end s.hint dim_style) third
      ∙ ap (λ n. printed_from (printed_from (printed_from (printed_runs was.width blank 0 s.prompt) (line_column was.width s) s.before no_style) (cursor_column was.width s) s.after no_style) n s.hint dim_style) end_is
