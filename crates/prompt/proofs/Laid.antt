-- Texts in a paragraph, one behind another.
use Rattle.std.proofs.Common.{◌≡◌, ℕ, ◌-◌, ◌/◌, ◌%◌, ◌≤◌, ◌==◌, ◌++◌, Bool, List, [], IsUtf8, arith, ap, chars, encode_utf8_all, false, if◌then◌else◌, length, length-append, not, refl, reverse, suc, sym, true, zero, ◌∙◌}
use Rattle.std.proofs.Math.Nat.{div-mul-le_self, div-zero}
use Rattle.std.proofs.lemmas.List.{reverse-reverse}
use Rattle.std.proofs.lemmas.Nat.{le-div}
use Rattle.std.proofs.lemmas.Str.{encodes-chars}
use Rattle.crossterm_style.specs.Styles.{no_style}
use Rattle.crossterm_style.specs.declared.content_style.ContentStyle.{ContentStyle}
use Rattle.screen.specs.Cells.{Cell}
use Rattle.screen.specs.Paragraphs.{ParagraphView, columns_left, wrapped}
use Rattle.screen.specs.Parts.{text_parts}
use Rattle.prompt.specs.Pictures.{hint_behind}
use Rattle.prompt.specs.Shown.{PromptRun, Shown}
use Rattle.prompt.specs.Wrapping.{front_cells, line_cells, row_hint, with_runs, with_wrapped}

module _ (p q : ParagraphView) (width : ℕ) (cells : List Cell) (text shown : List ℕ) (s t : ContentStyle) (wide : p.width ≡ width) (held : p.cells ≡ cells) (is : text ≡ shown) (style : s ≡ t)
    (pushed : q ≡ record p { cells = p.cells ++ wrapped s p.width (length p.cells) (text_parts text); room = q.room }) where
  pub same_width : q.width ≡ width
  same_width = ap (λ (x : ParagraphView). x.width) pushed ∙ wide

  -- The cells of one text more.
  pub one_more : q.cells ≡ with_wrapped width cells shown t
  one_more =
      ap (λ (x : ParagraphView). x.cells) pushed
      ∙ ap (λ n. p.cells ++ wrapped s n (length p.cells) (text_parts text)) wide
      ∙ ap (λ l. l ++ wrapped s width (length l) (text_parts text)) held
      ∙ ap (λ l. cells ++ wrapped s width (length cells) (text_parts l)) is
      ∙ ap (λ x. cells ++ wrapped x width (length cells) (text_parts shown)) style

-- The row behind more cells isn't above the one behind fewer.
div_mono : (m n width : ℕ) → m ≤ n → m / width ≤ n / width
div_mono m n zero few = omega (arith, div-zero m)
div_mono m n (suc w) few = le-div (m / suc w) n (suc w) (omega arith) (omega (arith, div-mul-le_self m (suc w)))

-- The column and the row behind some cells.
pub place_behind : (p : ParagraphView) (width : ℕ) (cells : List Cell) → p.width ≡ width → p.cells ≡ cells
    → (length p.cells % p.width ≡ length cells % width) × (length p.cells / p.width ≡ length cells / width)
place_behind p width cells wide held =
    let count : length p.cells ≡ length cells = ap length held in (
      ap (λ n. n % p.width) count ∙ ap (λ n. length cells % n) wide,
      ap (λ n. n / p.width) count ∙ ap (λ n. length cells / n) wide,
    )

-- The first paragraph has what is before the cursor, the second one the whole line.
pub record LaysLine (width : ℕ) (s : Shown) (p q : ParagraphView) : Type 0 where
  pub front_width : p.width ≡ width
  pub front : p.cells ≡ front_cells width s
  pub width_is : q.width ≡ width
  pub line : q.cells ≡ line_cells width s

-- The prompt in an empty paragraph, and the line before and behind its cursor.
pub lays_line : (p0 p1 p2 p3 : ParagraphView) (width : ℕ) (runs : List PromptRun) (before after : List ℕ) (s : Shown) (s2 s3 : ContentStyle) → p0.width ≡ width → p0.cells ≡ []
    → p1.width ≡ p0.width → p1.cells ≡ with_runs p0.width p0.cells runs → runs ≡ s.prompt → reverse (chars before) ≡ s.line.before → s2 ≡ no_style
    → p2 ≡ record p1 { cells = p1.cells ++ wrapped s2 p1.width (length p1.cells) (text_parts (chars before)); room = p2.room } → chars after ≡ s.line.after → s3 ≡ no_style
    → p3 ≡ record p2 { cells = p2.cells ++ wrapped s3 p2.width (length p2.cells) (text_parts (chars after)); room = p3.room } → LaysLine width s p2 p3
lays_line p0 p1 p2 p3 width runs before after s s2 s3 wide empty same first is b e2 second a e3 third =
    let text : chars before ≡ reverse s.line.before = sym (reverse-reverse (chars before)) ∙ ap reverse b in
    let w1 : p1.width ≡ width = same ∙ wide in
    let h1 : p1.cells ≡ with_runs width [] s.prompt = first ∙ ap (λ n. with_runs n p0.cells runs) wide ∙ ap (λ l. with_runs width l runs) empty ∙ ap (with_runs width []) is in
    let w2 = same_width p1 p2 width (with_runs width [] s.prompt) (chars before) (reverse s.line.before) s2 no_style w1 h1 text e2 second in
    let h2 = one_more p1 p2 width (with_runs width [] s.prompt) (chars before) (reverse s.line.before) s2 no_style w1 h1 text e2 second in
    record {
      front_width = w2;
      front = h2;
      width_is = same_width p2 p3 width (front_cells width s) (chars after) s.line.after s3 no_style w2 h2 a e3 third;
      line = one_more p2 p3 width (front_cells width s) (chars after) s.line.after s3 no_style w2 h2 a e3 third;
    }

-- The cursor's row is one of those that the line takes, or the one behind it.
pub cursor_inside : (width : ℕ) (s : Shown) → length (front_cells width s) / width ≤ length (line_cells width s) / width
cursor_inside width s =
    div_mono (length (front_cells width s)) (length (line_cells width s)) width
    (omega (arith, length-append (front_cells width s) (wrapped no_style width (length (front_cells width s)) (text_parts s.line.after))))

twice : (b : Bool) → b ≡ not (not b)
twice false = refl
twice true = refl

-- No hint is shown if candidates are listed.
pub no_hint : (width : ℕ) (s : Shown) → not (length s.candidates == 0) ≡ true → [] ≡ row_hint width s
no_hint width s some =
    let is : (length s.candidates == 0) ≡ false = twice (length s.candidates == 0) ∙ ap not some in
    sym (ap (λ b. if b then hint_behind (encode_utf8_all s.line.after) (columns_left width (length (line_cells width s))) s.hint else []) is)

-- The hint that is shown in the columns that are left behind a line.
pub same_hint : (width : ℕ) (s : Shown) (shown hint after : List ℕ) (room column : ℕ) (p : ParagraphView) → not (length s.candidates == 0) ≡ false → p.width ≡ width
    → p.cells ≡ line_cells width s → IsUtf8 after → chars after ≡ s.line.after → hint ≡ s.hint → column ≡ length p.cells % p.width → room ≡ width - column
    → shown ≡ hint_behind after room hint → shown ≡ row_hint width s
same_hint width s shown hint after room column p none wide held u is same at left shows =
    let empty : (length s.candidates == 0) ≡ true = twice (length s.candidates == 0) ∙ ap not none in
    let text : after ≡ encode_utf8_all s.line.after = sym (encodes-chars after u) ∙ ap encode_utf8_all is in
    let behind : column ≡ length (line_cells width s) % width = at ∙ (place_behind p width (line_cells width s) wide held).0 in
    shows ∙ ap (λ t. hint_behind t room hint) text ∙ ap (λ n. hint_behind (encode_utf8_all s.line.after) n hint) (left ∙ ap (λ n. width - n) behind)
    ∙ ap (hint_behind (encode_utf8_all s.line.after) (columns_left width (length (line_cells width s)))) same
    ∙ sym (ap (λ b. if b then hint_behind (encode_utf8_all s.line.after) (columns_left width (length (line_cells width s))) s.hint else []) empty)
