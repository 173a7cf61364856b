-- Characters of ASCII in cells.
use Rattle.std.proofs.Common.{◌≡◌, ℕ, zero, suc, ◌+◌, ◌-◌, ◌<◌, ◌≤◌, nat_le, true, false, cond, List, [], ◌∷◌, ◌++◌, Some, None, inl, refl, sym, ap, ◌∙◌, subst, arith, append_assoc, get_or, length, map, set, take, drop, slice_range}
use Rattle.std.specs.List.{AllByRecursion}
use Rattle.std.specs.Char.{IsScalar}
use Rattle.std.specs.Str.{IsCharBoundary, IsUtf8, chars}
use Rattle.std.proofs.lemmas.Bool.Decides.{nat_tests}
use Rattle.std.proofs.lemmas.List.{drop-drop, drop_at, drop_more, length-append, length-drop, length-map, length-take-le, map-append, set_at, take-append-drop, take_all, take_at, take_more}
use Rattle.std.proofs.lemmas.Str.{IsCharBoundary-after_ascii, IsCharBoundary-start, IsUtf8-drop, chars-nil, chars_past_char, encode_ascii}
use Rattle.crossterm_style.specs.declared.content_style.ContentStyle.{ContentStyle}
use Rattle.unicode_width.specs.Width.{char_width}
use Rattle.screen.specs.declared.texts.Editing.{Editing}
use Rattle.screen.specs.declared.texts.Editing.TheVariants.{Replacing, WithoutMarks, Whole}
use Rattle.screen.specs.Cells.{Cell, FitsCell, IsPrinted, symbol_fault}
use Rattle.screen.specs.Grids.{takes_one}
use Rattle.screen.specs.Marks.{is_joined, is_mark_of}
use Rattle.screen.specs.Overwriting.{begun, ended, overwritten}
use Rattle.screen.specs.Parts.{text_parts}
use Rattle.screen.specs.Texts.{cells_of, columns, text_columns, within}
use Rattle.screen.specs.inside.Edits.{edit, edited, listed, replaced_by, unless}
use Rattle.screen.specs.inside.FirstParts.{behind_marks, first_marks}
use Rattle.screen.specs.inside.Ascii.{BeginsBare, IsPrintableAscii, bare_cell}
use Rattle.screen.proofs.Halves.{ended_length}
use Rattle.screen.proofs.Marking.{low_isnt_mark}
use Rattle.screen.proofs.Narrow.{low_takes_no_two}
use Rattle.screen.proofs.Parting.{behind_without, marks_without, parts_first}
use Rattle.screen.proofs.Prints.{IsWritten, room_by}

-- ---- one letter

letter_takes_one : (c : ℕ) → IsPrintableAscii c → takes_one c ≡ true
unfolding char_width
letter_takes_one c (from, to) = grind (arith, nat_tests)

letter_isnt_joined : (c : ℕ) → IsPrintableAscii c → is_joined c ≡ false
letter_isnt_joined c (from, to) = grind (arith, nat_tests)

letter_is_scalar : (c : ℕ) → IsPrintableAscii c → IsScalar c
letter_is_scalar c (from, to) = grind (arith, nat_tests)

-- Cells can hold a letter.
pub letter_printed : (c : ℕ) → IsPrintableAscii c → IsPrinted c
letter_printed c h = (letter_is_scalar c h, letter_isnt_joined c h, inl (letter_takes_one c h))

pub letter_fault : (c : ℕ) → IsPrintableAscii c → symbol_fault c ≡ None
unfolding char_width
letter_fault c (from, to) = grind (arith, nat_tests)

letter_columns : (c : ℕ) → IsPrintableAscii c → columns c ≡ 1
letter_columns c h = ap (λ b. cond b 2 1) (low_takes_no_two c (omega (arith, h.1)))

-- ---- letters without marks

-- A character by itself.
abbrev pub single : ℕ → List ℕ
single c = c ∷ []

letter_edited : (how : Editing) (c : ℕ) → IsPrintableAscii c → edit how (single c) ≡ Some (single c)
letter_edited Whole c h = ap (λ o. unless (elim o [ Some fault ↦ Some fault | None ↦ None ]) (single c)) (letter_fault c h)
letter_edited (Replacing r) c h = ap (λ o. replaced_by r (elim o [ Some fault ↦ Some fault | None ↦ None ]) (single c)) (letter_fault c h)
letter_edited WithoutMarks c h = ap (λ o. unless o (single c)) (letter_fault c h)

pub letters_held : (cs : List ℕ) → AllByRecursion IsPrintableAscii cs → AllByRecursion FitsCell (map single cs)
letters_held [] all = tt
letters_held (c ∷ cs) all = ((letter_printed c all.0, tt), letters_held cs all.1)

letters_columns : (cs : List ℕ) → AllByRecursion IsPrintableAscii cs → text_columns (map single cs) ≡ length cs
letters_columns [] all = refl
letters_columns (c ∷ cs) all = ap (λ n. n + text_columns (map single cs)) (letter_columns c all.0) ∙ ap (λ n. 1 + n) (letters_columns cs all.1) ∙ omega arith

pub letters_cells : (s : ContentStyle) (cs : List ℕ) → AllByRecursion IsPrintableAscii cs → cells_of s (map single cs) ≡ map (bare_cell s) cs
letters_cells s [] all = refl
letters_cells s (c ∷ cs) all =
    ap (λ b. cond b (bare_cell s c ∷ record { symbol = 0; marks = []; style = s } ∷ []) (bare_cell s c ∷ []) ++ cells_of s (map single cs)) (low_takes_no_two c (omega (arith, all.0.1)))
    ∙ ap (λ l. bare_cell s c ∷ l) (letters_cells s cs all.1)

-- Letters that have room are shown before what is behind them.
letters_within : (how : Editing) (cs : List ℕ) (back : List (List ℕ)) (room : ℕ) → AllByRecursion IsPrintableAscii cs → length cs ≤ room
    → within room (edited how (map single cs ++ back)) ≡ map single cs ++ within (room - length cs) (edited how back)
letters_within how [] back room all le = ap (λ k. within k (edited how back)) (omega arith)
letters_within how (c ∷ cs) back room all le =
    let text = edited how (map single cs ++ back) in
    let one : columns c ≡ 1 = letter_columns c all.0 in
    let rest : length cs ≤ room - columns c = omega (arith, one, le) in
    ap (λ o. within room (listed o ++ text)) (letter_edited how c all.0)
    ∙ room_by (nat_le (columns c) room) room (single c) text refl (omega (arith, one, le))
    ∙ ap (λ l. single c ∷ l) (letters_within how cs back (room - columns c) all.1 rest ∙ ap (λ k. map single cs ++ within k (edited how back)) (omega (arith, one)))

-- ---- letters that a text begins with

pub letters_all : (n : ℕ) (text : List ℕ) → n ≤ length text → ((k : ℕ) → k < n → IsPrintableAscii (get_or text k 0)) → AllByRecursion IsPrintableAscii (take n text)
letters_all zero text le h = tt
letters_all (suc n) [] le h = absurd (omega (arith, le))
letters_all (suc n) (c ∷ text) le h = (h 0 (omega arith), letters_all n text (omega (arith, le)) (λ k lt. h (suc k) (omega (arith, lt))))

-- Behind the first letter there is a byte of ASCII, or the end.
next_low : (n c : ℕ) (text : List ℕ) → BeginsBare (c ∷ text) (suc n) → 0 < length text → get_or text 0 0 < 128
next_low zero c text b lt = b.bare (omega arith) (omega (arith, lt))
next_low (suc n) c text b lt = omega (arith, (b.printable 1 (omega arith)).1)

bare_behind : (n c : ℕ) (text : List ℕ) → BeginsBare (c ∷ text) (suc n) → BeginsBare text n
bare_behind n c text b = record {
  inside = omega (arith, b.inside);
  printable = λ k lt. b.printable (suc k) (omega (arith, lt));
  bare = λ some lt. b.bare (omega arith) (omega (arith, lt));
}

alone_by : (c : ℕ) (text : List ℕ) → IsUtf8 text → (0 < length text → get_or text 0 0 < 128) → text_parts (c ∷ chars text) ≡ single c ∷ text_parts (chars text)
alone_by c [] u low = ap (λ t. text_parts (c ∷ t)) chars-nil ∙ ap (λ t. single c ∷ text_parts t) (sym chars-nil)
alone_by c (d ∷ text) u low =
    let small : d < 128 = low (omega arith) in
    let two : chars (d ∷ text) ≡ d ∷ chars text = chars_past_char (d ∷ text) text d u (ap (λ t. t ++ text) (sym (encode_ascii d small))) in
    let none : is_mark_of c d ≡ false = low_isnt_mark c d (omega (arith, small)) in
    let marks : first_marks c (chars (d ∷ text)) ≡ [] = ap (first_marks c) two ∙ marks_without c d (chars text) none in
    let behind : behind_marks c (chars (d ∷ text)) ≡ chars (d ∷ text) = ap (behind_marks c) two ∙ behind_without c d (chars text) none ∙ sym two in
    parts_first c (chars (d ∷ text)) ∙ ap (λ m. (c ∷ m) ∷ text_parts (behind_marks c (chars (d ∷ text)))) marks ∙ ap (λ t. single c ∷ text_parts t) behind

-- Each of them is a part of its own.
pub letters_parts : (n : ℕ) (text : List ℕ) → IsUtf8 text → BeginsBare text n → text_parts (chars text) ≡ map single (take n text) ++ text_parts (chars (drop n text))
letters_parts zero text u b = refl
letters_parts (suc n) [] u b = absurd (omega (arith, b.inside))
letters_parts (suc n) (c ∷ text) u b =
    let small : c < 128 = omega (arith, (b.printable 0 (omega arith)).1) in
    let back : IsUtf8 text = IsUtf8-drop (c ∷ text) 1 u (IsCharBoundary-after_ascii (c ∷ text) 0 u (omega arith) small) in
    let first : chars (c ∷ text) ≡ c ∷ chars text = chars_past_char (c ∷ text) text c u (ap (λ t. t ++ text) (sym (encode_ascii c small))) in
    ap text_parts first ∙ alone_by c text back (next_low n c text b) ∙ ap (λ l. single c ∷ l) (letters_parts n text back (bare_behind n c text b))

-- The text may be cut behind them.
pub bare_boundary : (n : ℕ) (text : List ℕ) → IsUtf8 text → BeginsBare text n → IsCharBoundary text n
bare_boundary zero text u b = IsCharBoundary-start text u
bare_boundary (suc n) text u b =
    let on : n + 1 ≡ suc n = omega arith in
    subst (IsCharBoundary text) on (IsCharBoundary-after_ascii text n u (omega (arith, b.inside)) (omega (arith, (b.printable n (omega arith)).1)))

-- ---- the cells of letters

-- Letters are set one by one.
pub set_more : (s : ContentStyle) (old cells : List Cell) (letters : List ℕ) (at k : ℕ) → k < length letters → at + length letters ≤ length old
    → cells ≡ take at old ++ (map (bare_cell s) (take k letters) ++ drop (at + k) old)
    → set cells (at + k) (bare_cell s (get_or letters k 0)) ≡ take at old ++ (map (bare_cell s) (take (k + 1) letters) ++ drop (at + (k + 1)) old)
set_more s old cells letters at k lt le e =
    let x = bare_cell s (get_or letters k 0) in
    let xs = map (bare_cell s) (take k letters) in
    let front = take at old in
    let back = drop (at + k + 1) old in
    let size : length xs ≡ k = length-map (take k letters) (bare_cell s) ∙ length-take-le k letters (omega (arith, lt)) in
    let long : length (front ++ xs) ≡ at + k = length-append front xs ∙ omega (arith, size, length-take-le at old (omega (arith, le))) in
    let opened : cells ≡ (front ++ xs) ++ get_or old (at + k) x ∷ back =
    e ∙ ap (λ l. front ++ (xs ++ l)) (drop_more old (at + k) x (omega (arith, lt, le))) ∙ sym (append_assoc front xs (get_or old (at + k) x ∷ back)) in
    let more : xs ++ x ∷ [] ≡ map (bare_cell s) (take (k + 1) letters) =
    sym (map-append (bare_cell s) (take k letters) (get_or letters k 0 ∷ [])) ∙ ap (map (bare_cell s)) (sym (take_more letters k 0 lt)) in
    ap (λ l. set l (at + k) x) opened ∙ set_at (front ++ xs) (get_or old (at + k) x) back x (at + k) long
    ∙ append_assoc front xs (x ∷ back)
    ∙ ap (λ l. front ++ l) (sym (append_assoc xs (x ∷ []) back) ∙ ap (λ l. l ++ back) more)
    ∙ ap (λ m. front ++ (map (bare_cell s) (take (k + 1) letters) ++ drop m old)) (omega arith)

-- Cells that were ended and begun at their two places, and then set.
many_set : (cells first second others : List Cell) (at n : ℕ) → length others ≡ n → at + n ≤ length cells → first ≡ ended (take at cells) ++ drop at cells
    → second ≡ take (at + n) first ++ begun (drop (at + n) first) → take at second ++ (others ++ drop (at + n) second) ≡ ended (take at cells) ++ (others ++ begun (drop (at + n) cells))
many_set cells first second others at n size le a b =
    let front = ended (take at cells) in
    let old = take n (drop at cells) in
    let back = drop (at + n) cells in
    let long : length front ≡ at = ended_length (take at cells) ∙ length-take-le at cells (omega (arith, le)) in
    let short : length old ≡ n = length-take-le n (drop at cells) (omega (arith, le, length-drop at cells)) in
    let far : length (front ++ old) ≡ at + n = length-append front old ∙ omega (arith, long, short) in
    let opened : first ≡ (front ++ old) ++ back =
    a ∙ ap (λ l. front ++ l) (sym (take-append-drop n (drop at cells)) ∙ ap (λ l. old ++ l) (drop-drop n at cells)) ∙ sym (append_assoc front old back) in
    let front_is : take (at + n) first ≡ front ++ old = ap (take (at + n)) opened ∙ take_at (front ++ old) back (at + n) far in
    let back_is : drop (at + n) first ≡ back = ap (drop (at + n)) opened ∙ drop_at (front ++ old) back (at + n) far in
    let joined : second ≡ (front ++ old) ++ begun back = b ∙ ap (λ l. l ++ begun (drop (at + n) first)) front_is ∙ ap (λ l. (front ++ old) ++ begun l) back_is in
    let kept : take at second ≡ front = ap (take at) (joined ∙ append_assoc front old (begun back)) ∙ take_at front (old ++ begun back) at long in
    let left : drop (at + n) second ≡ begun back = ap (drop (at + n)) joined ∙ drop_at (front ++ old) (begun back) (at + n) far in
    ap (λ l. l ++ (others ++ drop (at + n) second)) kept ∙ ap (λ l. front ++ (others ++ l)) left

over_by : (cells others : List Cell) (at n : ℕ) → length others ≡ n → 0 < n → ended (take at cells) ++ (others ++ begun (drop (at + n) cells)) ≡ overwritten cells at others
over_by cells [] at n size some = absurd (omega (arith, size, some))
over_by cells (c ∷ others) at n size some = ap (λ k. ended (take at cells) ++ ((c ∷ others) ++ begun (drop (at + k) cells))) (sym size)

-- So they are overwritten.
pub many_over : (cells first second others : List Cell) (at n : ℕ) → length others ≡ n → 0 < n → at + n ≤ length cells → first ≡ ended (take at cells) ++ drop at cells
    → second ≡ take (at + n) first ++ begun (drop (at + n) first) → take at second ++ (others ++ drop (at + n) second) ≡ overwritten cells at others
many_over cells first second others at n size some le a b = many_set cells first second others at n size le a b ∙ over_by cells others at n size some

-- ---- a text whose letters were written

pub letters_written : (how : Editing) (text rest : List ℕ) (room at n : ℕ) (s : ContentStyle) (old cells : List Cell) → IsUtf8 text → BeginsBare text n → n ≤ room → rest ≡ slice_range text n (length text)
    → cells ≡ overwritten old at (map (bare_cell s) (take n text))
    → IsWritten how (text_parts (chars text)) (map single (take n text)) (text_parts (chars rest)) room at s old n cells
letters_written how text rest room at n s old cells u b le is e =
    let cs = take n text in
    let all = letters_all n text b.inside b.printable in
    let size : length cs ≡ n = length-take-le n text b.inside in
    let back : rest ≡ drop n text = is ∙ take_all (length text - n) (drop n text) (omega (arith, length-drop n text)) in
    record {
      fits = le;
      taken = sym (letters_columns cs all ∙ size);
      held = letters_held cs all;
      left = ap (λ l. within room (edited how l)) (letters_parts n text u b ∙ ap (λ t. map single cs ++ text_parts (chars t)) (sym back))
          ∙ letters_within how cs (text_parts (chars rest)) room all (omega (arith, size, le))
          ∙ ap (λ k. map single cs ++ within (room - k) (edited how (text_parts (chars rest)))) size;
      written = e ∙ ap (overwritten old at) (sym (letters_cells s cs all));
    }
