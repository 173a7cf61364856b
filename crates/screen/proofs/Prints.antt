-- Texts in cells.
use Rattle.std.proofs.Common.{◌≡◌, ℕ, ◌+◌, ◌-◌, ◌<◌, ◌≤◌, nat_le, not, Bool, true, false, cond, List, [], ◌∷◌, ◌++◌, Option, Some, None, refl, sym, ap, ◌∙◌, arith, append-nil, append_assoc, length, map, drop, get_or}
use Rattle.std.specs.List.{AllByRecursion, filter}
use Rattle.std.specs.Option.{option_map}
use Rattle.std.proofs.lemmas.Bool.Decides.{nat_tests}
use Rattle.std.proofs.lemmas.List.{at_drop_more}
use Rattle.std.proofs.lemmas.List.Concat.{flat_map-append}
use Rattle.crossterm_command.proofs.Readings.{all_joined}
use Rattle.crossterm_style.specs.declared.content_style.ContentStyle.{ContentStyle}
use Rattle.unicode_width.specs.Width.{char_width}
use Rattle.screen.specs.declared.faults.CellFault.{CellFault}
use Rattle.screen.specs.declared.faults.CellFault.TheVariants.{Joined, NoWidth, Wide}
use Rattle.screen.specs.declared.texts.Editing.{Editing}
use Rattle.screen.specs.declared.texts.Editing.TheVariants.{Replacing, WithoutMarks, Whole}
use Rattle.screen.specs.Cells.{Cell, FitsCell, fault_of, symbol_fault}
use Rattle.screen.specs.Marks.{is_joined, is_mark_of, is_width, takes_none}
use Rattle.screen.specs.Overwriting.{cells_with, overwritten}
use Rattle.screen.specs.Parts.{before_parts, text_parts}
use Rattle.screen.specs.Texts.{cells_of, columns, fitting, part_columns, part_fault, replaced, text_columns, text_fault, within, without_marks}
use Rattle.screen.specs.declared.parts.Part.{Part}
use Rattle.screen.specs.inside.FirstParts.{IsPart}
use Rattle.screen.specs.inside.Edits.{edit, edited, fault_unless_mark, listed, replaced_by, unless}
use Rattle.screen.proofs.Halves.{overwritten_more}
use Rattle.screen.proofs.Marking.{mark_takes_none}
use Rattle.screen.proofs.Taking.{HasCharacter, text_length, text_paired, with_length}

-- ---- faults

-- The fault of a text from its first part on.
pub fault_first : (text back : List ℕ) (front : List ℕ) → text_parts text ≡ front ∷ text_parts back
    → text_fault (text_parts text) ≡ elim (part_fault front) [ Some fault ↦ Some fault | None ↦ text_fault (text_parts back) ]
fault_first text back front e = ap text_fault e

-- A character without marks has its own fault.
alone_fault : (o : Option CellFault) → ◌≡◌ {A = Option CellFault} (elim o [ Some fault ↦ Some fault | None ↦ None ]) o
alone_fault None = refl
alone_fault (Some fault) = refl

-- A character by itself.
abbrev single : ℕ → List ℕ
single c = c ∷ []

without_by : (none : Bool) (c : ℕ) (text : List ℕ) → map single (cond (not none) (c ∷ text) text) ≡ cond (not none) (single c ∷ map single text) (map single text)
without_by true c text = refl
without_by false c text = refl

without_first : (c : ℕ) (text : List ℕ) → without_marks (c ∷ text) ≡ cond (not (takes_none c)) (single c ∷ without_marks text) (without_marks text)
without_first c text = without_by (takes_none c) c (filter (λ d. not (takes_none d)) text)

unmarked_fault : (none : Bool) (c : ℕ) (text : List ℕ) → ◌≡◌ {A = Option CellFault} (text_fault (cond (not none) (single c ∷ without_marks text) (without_marks text)))
    (elim (cond none None (symbol_fault c)) [ Some fault ↦ Some fault | None ↦ text_fault (without_marks text) ])
unmarked_fault true c text = refl
unmarked_fault false c text = ap (λ o. elim o [ Some fault ↦ Some fault | None ↦ text_fault (without_marks text) ]) (alone_fault (symbol_fault c))

-- The fault of a text without marks from a character on.
pub marks_fault_from : (text : List ℕ) (n c : ℕ) → n < length text → c ≡ get_or text n c
    → text_fault (without_marks (drop n text)) ≡ elim (fault_unless_mark c) [ Some fault ↦ Some fault | None ↦ text_fault (without_marks (drop (n + 1) text)) ]
marks_fault_from text n c lt e =
    at_drop_more (λ t. text_fault (without_marks t)) text n c lt ∙ ap (λ d. text_fault (without_marks (d ∷ drop (n + 1) text))) (sym e)
    ∙ ap text_fault (without_first c (drop (n + 1) text)) ∙ unmarked_fault (takes_none c) c (drop (n + 1) text)

-- ---- what is written of a text

whole_from : (o : Option CellFault) (p : List ℕ) (text : List (List ℕ)) → ◌≡◌ {A = Option CellFault} (elim o [ Some fault ↦ Some fault | None ↦ text_fault text ]) None
    → (text_fault text ≡ None → edited Whole text ≡ text) → listed (unless o p) ++ edited Whole text ≡ p ∷ text
whole_from (Some fault) p text bad more = cc
whole_from None p text rest more = ap (λ l. p ∷ l) (more rest)

-- A text that cells can hold is written as it is.
pub edits_whole : (text : List (List ℕ)) → text_fault text ≡ None → edited Whole text ≡ text
edits_whole [] e = refl
edits_whole (p ∷ text) e = whole_from (part_fault p) p text e (edits_whole text)

replaced_from : (replacement : ℕ) (p : List ℕ) (o : Option CellFault) → listed (replaced_by replacement o p) ≡ elim o [ Some fault ↦ replacement ∷ [] | None ↦ p ] ∷ []
replaced_from r p (Some fault) = refl
replaced_from r p None = refl

-- With another character for what cells can't hold it is replaced.
pub edits_replacing : (replacement : ℕ) (text : List (List ℕ)) → edited (Replacing replacement) text ≡ replaced replacement text
edits_replacing r [] = refl
edits_replacing r (p ∷ text) = ap (λ l. l ++ edited (Replacing r) text) (replaced_from r p (part_fault p)) ∙ ap (λ l. fitting r p ∷ l) (edits_replacing r text)

width_fault : (o : Option ℕ) → is_width 0 o ≡ true → fault_of o ≡ Some NoWidth
width_fault None e = cc
width_fault (Some width) e = ap (λ b. cond b (Some NoWidth) (cond (nat_le width 2) None (Some Wide))) e

left_by : (joined : Bool) (c : ℕ) → takes_none c ≡ true → is_joined c ≡ joined → unless (symbol_fault c) (single c) ≡ None
left_by true c e j = ap (λ b. unless (cond b (Some Joined) (fault_of (char_width false c))) (single c)) j
left_by false c e j =
    ap (λ b. unless (cond b (Some Joined) (fault_of (char_width false c))) (single c)) j ∙ ap (λ o. unless o (single c)) (width_fault (char_width false c) e)

-- A character of no column is left out.
left_out : (c : ℕ) → takes_none c ≡ true → unless (symbol_fault c) (single c) ≡ None
left_out c e = left_by (is_joined c) c e refl

first_by : (mark : Bool) (c d : ℕ) (ds : List ℕ) (ps : List (List ℕ)) → is_mark_of c d ≡ mark
    → edited WithoutMarks (cond mark ((c ∷ d ∷ ds) ∷ ps) (single c ∷ (d ∷ ds) ∷ ps)) ≡ listed (unless (symbol_fault c) (single c)) ++ edited WithoutMarks ((d ∷ ds) ∷ ps)
first_by true c d ds ps e =
    ap (λ l. listed (unless (symbol_fault c) (single c)) ++ l) (sym (ap (λ o. listed o ++ edited WithoutMarks ps) (left_out d (mark_takes_none c d e))))
first_by false c d ds ps e = refl

-- What is written without marks of a text is written of its characters one by one.
first_written : (c : ℕ) (ps : List (List ℕ)) → edited WithoutMarks (before_parts c ps) ≡ listed (unless (symbol_fault c) (single c)) ++ edited WithoutMarks ps
first_written c [] = refl
first_written c ([] ∷ ps) = refl
first_written c ((d ∷ ds) ∷ ps) = first_by (is_mark_of c d) c d ds ps refl

-- The fault of a part and the text behind it.
abbrev fault_then : Option CellFault → List (List ℕ) → Option CellFault
fault_then o text = elim o [ Some fault ↦ Some fault | None ↦ text_fault text ]

then_single : (c : ℕ) (text : List (List ℕ)) → text_fault (single c ∷ text) ≡ fault_then (symbol_fault c) text
then_single c text = ap (λ f. fault_then f text) (alone_fault (symbol_fault c))

marks_by : (none : Bool) (c : ℕ) (text : List ℕ) (o : Option CellFault) → symbol_fault c ≡ o → takes_none c ≡ none
    → text_fault (cond (not none) (single c ∷ without_marks text) (without_marks text)) ≡ None
    → (text_fault (without_marks text) ≡ None → edited WithoutMarks (text_parts text) ≡ without_marks text)
    → listed (unless o (single c)) ++ edited WithoutMarks (text_parts text) ≡ cond (not none) (single c ∷ without_marks text) (without_marks text)
marks_by true c text o is e rest more =
    ap (λ f. listed (unless f (single c)) ++ edited WithoutMarks (text_parts text)) (sym is) ∙ ap (λ q. listed q ++ edited WithoutMarks (text_parts text)) (left_out c e) ∙ more rest
marks_by false c text None is e rest more =
    ap (λ l. single c ∷ l) (more (sym (ap (λ f. fault_then f (without_marks text)) is) ∙ sym (then_single c (without_marks text)) ∙ rest))
marks_by false c text (Some fault) is e rest more =
    let bad : ◌≡◌ {A = Option CellFault} (Some fault) None =
    sym (ap (λ f. fault_then f (without_marks text)) is) ∙ sym (then_single c (without_marks text)) ∙ rest in cc

-- A text that cells can hold without its marks is written without them.
pub edits_marks : (text : List ℕ) → text_fault (without_marks text) ≡ None → edited WithoutMarks (text_parts text) ≡ without_marks text
edits_marks [] e = refl
edits_marks (c ∷ text) e =
    first_written c (text_parts text)
    ∙ marks_by (takes_none c) c text (symbol_fault c) refl refl (ap text_fault (sym (without_first c text)) ∙ e) (edits_marks text)
    ∙ sym (without_first c text)

-- ---- what is written of a part, as the code has it

-- The columns of a part are those of its character.
pub part_width : (part : Part) (p : List ℕ) → IsPart part p → columns part.symbol ≡ part_columns p
part_width part [] h = absurd h
part_width part (c ∷ marks) h = ap columns h.0

-- Nothing is written.
pub left_unwritten : (o : Option (List ℕ)) (result : Option (ℕ × List ℕ)) → result ≡ None → o ≡ option_map (λ shown. shown.0 ∷ shown.1) result → o ≡ None
left_unwritten o result e is = is ∙ ap (option_map (λ shown. shown.0 ∷ shown.1)) e

-- A character and marks are written.
pub some_written : (o : Option (List ℕ)) (result : Option (ℕ × List ℕ)) (shown : ℕ × List ℕ) → result ≡ Some shown → o ≡ option_map (λ s. s.0 ∷ s.1) result → o ≡ Some (shown.0 ∷ shown.1)
some_written o result shown e is = is ∙ ap (option_map (λ s. s.0 ∷ s.1)) e

-- ---- each part has a character

before_have : (mark : Bool) (c d : ℕ) (ds : List ℕ) (ps : List (List ℕ)) → AllByRecursion HasCharacter ps → AllByRecursion HasCharacter (cond mark ((c ∷ d ∷ ds) ∷ ps) (single c ∷ (d ∷ ds) ∷ ps))
before_have true c d ds ps a = (tt, a)
before_have false c d ds ps a = (tt, (tt, a))

have_before : (c : ℕ) (ps : List (List ℕ)) → AllByRecursion HasCharacter ps → AllByRecursion HasCharacter (before_parts c ps)
have_before c [] a = (tt, tt)
have_before c ([] ∷ ps) a = absurd a.0
have_before c ((d ∷ ds) ∷ ps) a = before_have (is_mark_of c d) c d ds ps a.1

parts_have : (text : List ℕ) → AllByRecursion HasCharacter (text_parts text)
parts_have [] = tt
parts_have (c ∷ text) = have_before c (text_parts text) (parts_have text)

unless_has : (o : Option CellFault) (p : List ℕ) → HasCharacter p → AllByRecursion HasCharacter (listed (unless o p))
unless_has None p h = (h, tt)
unless_has (Some fault) p h = tt

replaced_has : (r : ℕ) (o : Option CellFault) (p : List ℕ) → HasCharacter p → AllByRecursion HasCharacter (listed (replaced_by r o p))
replaced_has r None p h = (h, tt)
replaced_has r (Some fault) p h = (tt, tt)

edit_has : (how : Editing) (p : List ℕ) → HasCharacter p → AllByRecursion HasCharacter (listed (edit how p))
edit_has Whole p h = unless_has (part_fault p) p h
edit_has (Replacing r) p h = replaced_has r (part_fault p) p h
edit_has WithoutMarks [] h = absurd h
edit_has WithoutMarks (c ∷ marks) h = unless_has (symbol_fault c) (single c) tt

edited_have : (how : Editing) (ps : List (List ℕ)) → AllByRecursion HasCharacter ps → AllByRecursion HasCharacter (edited how ps)
edited_have how [] a = tt
edited_have how (p ∷ ps) a = all_joined HasCharacter (listed (edit how p)) (edited how ps) (edit_has how p a.0) (edited_have how ps a.1)

-- So has each that is written of a text.
pub written_have : (how : Editing) (text : List ℕ) → AllByRecursion HasCharacter (edited how (text_parts text))
written_have how text = edited_have how (text_parts text) (parts_have text)

columns_joined : (xs ys : List (List ℕ)) → text_columns (xs ++ ys) ≡ text_columns xs + text_columns ys
columns_joined [] ys = omega arith
columns_joined (x ∷ xs) ys = ap (λ n. part_columns x + n) (columns_joined xs ys) ∙ omega arith

-- ---- a text on its way into cells

-- Of the text_parts `all` those before `rest` were read. What was written of them is `done`, which took `count` columns.
pub record IsWritten (how : Editing) (all done rest : List (List ℕ)) (room at : ℕ) (s : ContentStyle) (old : List Cell) (count : ℕ) (cells : List Cell) : Type 0 where
  pub fits : count ≤ room
  pub taken : count ≡ text_columns done
  pub held : AllByRecursion FitsCell done
  pub left : within room (edited how all) ≡ done ++ within (room - count) (edited how rest)
  pub written : cells ≡ overwritten old at (cells_of s done)

-- A part that is left out.
pub written_without : (how : Editing) (all done rest back : List (List ℕ)) (p : List ℕ) (room at : ℕ) (s : ContentStyle) (old : List Cell) (count : ℕ) (cells : List Cell) → rest ≡ p ∷ back → edit how p ≡ None
    → IsWritten how all done rest room at s old count cells → IsWritten how all done back room at s old count cells
written_without how all done rest back p room at s old count cells next none w = record {
  fits = w.fits;
  taken = w.taken;
  held = w.held;
  left = w.left ∙ ap (λ l. done ++ within (room - count) (edited how l)) next ∙ ap (λ o. done ++ within (room - count) (listed o ++ edited how back)) none;
  written = w.written;
}

pub room_by : (fits : Bool) (room : ℕ) (p : List ℕ) (text : List (List ℕ)) → nat_le (part_columns p) room ≡ fits → part_columns p ≤ room → cond fits (p ∷ within (room - part_columns p) text) [] ≡ p ∷ within (room - part_columns p) text
room_by true room p text e le = refl
room_by false room p text e le = let no : ⊥ = grind (arith, nat_tests) in absurd no

pub no_room_by : (fits : Bool) (room : ℕ) (p : List ℕ) (text : List (List ℕ)) → nat_le (part_columns p) room ≡ fits → room < part_columns p → cond fits (p ∷ within (room - part_columns p) text) [] ≡ []
no_room_by true room p text e lt = let no : ⊥ = grind (arith, nat_tests) in absurd no
no_room_by false room p text e lt = refl

-- A part that is written.
pub written_with : (how : Editing) (all done rest back : List (List ℕ)) (p q : List ℕ) (room at : ℕ) (s : ContentStyle) (old : List Cell) (count more : ℕ) (cells : List Cell) → rest ≡ p ∷ back → edit how p ≡ Some q → FitsCell q
    → more ≡ count + part_columns q → part_columns q ≤ room - count → at + room ≤ length old
    → IsWritten how all done rest room at s old count cells → IsWritten how all (done ++ q ∷ []) back room at s old more (overwritten cells (at + count) (cells_with s q))
written_with how all done rest back p q room at s old count more cells next some h sum le long w =
    let shown : within (room - count) (edited how rest) ≡ q ∷ within (room - more) (edited how back) =
    ap (λ l. within (room - count) (edited how l)) next ∙ ap (λ o. within (room - count) (listed o ++ edited how back)) some
    ∙ room_by (nat_le (part_columns q) (room - count)) (room - count) q (edited how back) refl le
    ∙ ap (λ k. q ∷ within k (edited how back)) (omega (arith, sum)) in
    let size : length (cells_of s done) ≡ count = text_length s done ∙ sym w.taken in
    let two : cells_of s (done ++ q ∷ []) ≡ cells_of s done ++ cells_with s q =
    flat_map-append (cells_with s) done (q ∷ []) ∙ ap (λ l. cells_of s done ++ l) (append-nil (cells_with s q)) in
    record {
      fits = omega (arith, le, sum, w.fits);
      taken = sym (columns_joined done (q ∷ []) ∙ omega (arith, w.taken, sum));
      held = all_joined FitsCell done (q ∷ []) w.held (h, tt);
      left = w.left ∙ ap (λ l. done ++ l) shown ∙ sym (append_assoc done (q ∷ []) (within (room - more) (edited how back)));
      written = ap (λ l. overwritten l (at + count) (cells_with s q)) w.written
          ∙ overwritten_more old (cells_of s done) (cells_with s q) at count size (omega (arith, le, long, w.fits, with_length s q)) (text_paired s done w.held)
          ∙ ap (overwritten old at) (sym two);
    }

-- What was read is all that is shown: there is no more, or the next part has no room.
pub shown_all : (how : Editing) (all done rest : List (List ℕ)) (room at : ℕ) (s : ContentStyle) (old : List Cell) (count : ℕ) (cells : List Cell) → rest ≡ []
    → IsWritten how all done rest room at s old count cells → within room (edited how all) ≡ done
shown_all how all done rest room at s old count cells none w = w.left ∙ ap (λ l. done ++ within (room - count) (edited how l)) none ∙ append-nil done

pub shown_front : (how : Editing) (all done rest back : List (List ℕ)) (p q : List ℕ) (room at : ℕ) (s : ContentStyle) (old : List Cell) (count : ℕ) (cells : List Cell) → rest ≡ p ∷ back → edit how p ≡ Some q → room - count < part_columns q
    → IsWritten how all done rest room at s old count cells → within room (edited how all) ≡ done
shown_front how all done rest back p q room at s old count cells next some full w =
    let nothing : within (room - count) (edited how rest) ≡ [] =
    ap (λ l. within (room - count) (edited how l)) next ∙ ap (λ o. within (room - count) (listed o ++ edited how back)) some
    ∙ no_room_by (nat_le (part_columns q) (room - count)) (room - count) q (edited how back) refl full in
    w.left ∙ ap (λ l. done ++ l) nothing ∙ append-nil done
