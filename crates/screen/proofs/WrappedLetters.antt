-- Printable characters of ASCII in texts that are wrapped. Each row has a column left, so they take the next places.
use Rattle.std.proofs.Common.{◌≡◌, ℕ, ◌+◌, ◌%◌, ◌<◌, ◌==◌, nat_le, true, false, cond, List, [], ◌∷◌, ◌++◌, Option, Some, None, sym, ap, ◌∙◌, append_assoc, arith, drop, length, length-append, map, replicate, subst, take}
use Rattle.std.proofs.Math.Nat.{mod-lt}
use Rattle.std.specs.List.{All, AllByRecursion}
use Rattle.std.specs.Str.{IsUtf8, chars}
use Rattle.std.proofs.lemmas.Bool.Decides.{nat_tests}
use Rattle.std.proofs.lemmas.List.{length-map}
use Rattle.std.proofs.lemmas.List.Elements.{All-append}
use Rattle.crossterm_style.specs.declared.content_style.ContentStyle.{ContentStyle}
use Rattle.screen.specs.declared.faults.CellFault.{CellFault}
use Rattle.screen.specs.Cells.{AreLaidOut, ArePaired, Cell, IsPlaced, blank}
use Rattle.screen.specs.Overwriting.{covered}
use Rattle.screen.specs.Paragraphs.{columns_left, part_cells, placed_part, wrapped}
use Rattle.screen.specs.Parts.{text_parts}
use Rattle.screen.specs.Texts.{fitting}
use Rattle.screen.specs.inside.Ascii.{BeginsBare, IsPrintableAscii, bare_cell}
use Rattle.screen.proofs.Ascii.{letter_fault, letters_all, letters_cells, letters_held, letters_parts, single}
use Rattle.screen.proofs.Laying.{StayFrom, from_rows, paired_joined, rows_from, stay_joined}
use Rattle.screen.proofs.Narrow.{low_takes_no_two}
use Rattle.screen.proofs.Taking.{text_paired, text_placed}

-- ---- their cells

column_left : (width n : ℕ) → 0 < width → nat_le 1 (columns_left width n) ≡ true
column_left width n some = let lt : n % width < width = mod-lt n some in grind (arith, nat_tests)

letter_placed : (s : ContentStyle) (width n c : ℕ) → 0 < width → IsPrintableAscii c → placed_part s width n (single c) ≡ bare_cell s c ∷ []
letter_placed s width n c some h =
    let left = columns_left width n in
    let one : nat_le 1 width ≡ true = grind (arith, nat_tests) in
    ap (λ two. cond (nat_le (cond {A = ℕ} two 2 1) width)
    (cond (nat_le (cond {A = ℕ} two 2 1) left) [] (replicate left blank) ++ cond two (bare_cell s c ∷ covered s ∷ []) (bare_cell s c ∷ [])) []) (low_takes_no_two c (omega (arith, h.1)))
    ∙ ap (λ b. cond b (cond (nat_le 1 left) [] (replicate left blank) ++ bare_cell s c ∷ []) []) one
    ∙ ap (λ b. cond b [] (replicate left blank) ++ bare_cell s c ∷ []) (column_left width n some)

-- The fault of a character without marks, and what is shown of it.
abbrev fault_by : Option CellFault → Option CellFault
fault_by o = elim o [ Some fault ↦ Some fault | None ↦ None ]

abbrev shown_by : ℕ → Option CellFault → List ℕ
shown_by c o = elim (fault_by o) [ Some fault ↦ 0xFFFD ∷ [] | None ↦ single c ]

letter_fits : (c : ℕ) → IsPrintableAscii c → fitting 0xFFFD (single c) ≡ single c
letter_fits c h = ap (shown_by c) (letter_fault c h)

letter_wrapped : (s : ContentStyle) (width n c : ℕ) → 0 < width → IsPrintableAscii c → part_cells s width n (single c) ≡ bare_cell s c ∷ []
letter_wrapped s width n c some h =
    let no_feed : (c == 10) ≡ false = grind (arith, nat_tests, h.0) in
    ap (λ b. cond b (replicate (columns_left width n) blank) (placed_part s width n (fitting 0xFFFD (single c)))) no_feed
    ∙ ap (placed_part s width n) (letter_fits c h)
    ∙ letter_placed s width n c some h

letters_wrapped : (s : ContentStyle) (width n : ℕ) (cs : List ℕ) (back : List (List ℕ)) → 0 < width → AllByRecursion IsPrintableAscii cs
    → wrapped s width n (map single cs ++ back) ≡ map (bare_cell s) cs ++ wrapped s width (n + length cs) back
letters_wrapped s width n [] back some all = ap (λ k. wrapped s width k back) (omega arith)
letters_wrapped s width n (c ∷ cs) back some all =
    ap (λ l. l ++ wrapped s width (n + length l) (map single cs ++ back)) (letter_wrapped s width n c some all.0)
    ∙ ap (λ l. bare_cell s c ∷ l) (letters_wrapped s width (n + 1) cs back some all.1)
    ∙ ap (λ k. bare_cell s c ∷ (map (bare_cell s) cs ++ wrapped s width k back)) (omega arith)

-- The cells of a text: those of the letters that it begins with, and those of the text behind them.
pub wrapped_letters : (s t : ContentStyle) (width n : ℕ) (cells more : List Cell) (text rest : List ℕ) → t ≡ s → 0 < width → IsUtf8 text → BeginsBare text n
    → rest ≡ drop n text → more ≡ cells ++ map (bare_cell t) (take n text)
    → cells ++ wrapped s width (length cells) (text_parts (chars text)) ≡ more ++ wrapped s width (length more) (text_parts (chars rest))
wrapped_letters s t width n cells more text rest same some u b is grown =
    let cs = take n text in
    let letters = map (bare_cell s) cs in
    let back = text_parts (chars (drop n text)) in
    let count : length cells + length cs ≡ length (cells ++ letters) = sym (length-append cells letters ∙ ap (λ k. length cells + k) (length-map cs (bare_cell s))) in
    let added : cells ++ letters ≡ more = sym (grown ∙ ap (λ k. cells ++ map (bare_cell k) cs) same) in
    ap (λ l. cells ++ wrapped s width (length cells) l) (letters_parts n text u b)
    ∙ ap (λ l. cells ++ l) (letters_wrapped s width (length cells) cs back some (letters_all n text b.inside b.printable))
    ∙ sym (append_assoc cells letters (wrapped s width (length cells + length cs) back))
    ∙ ap (λ k. (cells ++ letters) ++ wrapped s width k back) count
    ∙ ap (λ l. l ++ wrapped s width (length l) back) added
    ∙ ap (λ l. more ++ wrapped s width (length more) (text_parts (chars l))) (sym is)

-- ---- they are laid out

letters_stay : (s : ContentStyle) (width at : ℕ) (cs : List ℕ) → AllByRecursion IsPrintableAscii cs → StayFrom width at (map (bare_cell s) cs)
letters_stay s width at [] all = tt
letters_stay s width at (c ∷ cs) all =
    (λ wide. let no : true ≡ false = sym wide ∙ low_takes_no_two c (omega (arith, all.0.1)) in cc, letters_stay s width (at + 1) cs all.1)

-- The cells of the letters behind others.
pub letters_laid : (s : ContentStyle) (width n : ℕ) (cells more : List Cell) (text : List ℕ) → BeginsBare text n
    → more ≡ cells ++ map (bare_cell s) (take n text) → AreLaidOut width cells → AreLaidOut width more
letters_laid s width n cells more text b grown laid =
    let cs = take n text in
    let letters = map (bare_cell s) cs in
    let all = letters_all n text b.inside b.printable in
    let held = letters_held cs all in
    let same = letters_cells s cs all in
    subst (AreLaidOut width) (sym grown) (record {
      placed = All-append IsPlaced cells letters laid.placed (subst (All IsPlaced) same (text_placed s (map single cs) held));
      paired = paired_joined false cells letters laid.paired (subst (ArePaired false) same (text_paired s (map single cs) held));
      rows = from_rows width (cells ++ letters) (stay_joined width 0 cells letters (rows_from width cells laid.rows) (letters_stay s width (0 + length cells) cs all));
    })
