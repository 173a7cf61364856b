use Rattle.std.proofs.Common.{◌≡◌, ◌+◌, ◌-◌, ◌<◌, ◌≤◌, ◌++◌, ◌∷◌, [], Some, None, map, take, subst, ap, sym, ◌∙◌, arith, rules}
use Rattle.std.specs.List.{AllByRecursion}
use Rattle.std.specs.Str.{chars}
use Rattle.screen.specs.Cells.{Cell, FitsCell}
use Rattle.screen.specs.Overwriting.{cells_with, overwritten}
use Rattle.screen.specs.Parts.{text_parts}
use Rattle.screen.specs.Texts.{cells_of, columns, text_columns, within}
use Rattle.screen.specs.inside.Edits.{edit, edited}
use Rattle.screen.specs.inside.Ascii.{bare_cell}
use Rattle.screen.proofs.Ascii.{letters_written}
use Rattle.screen.proofs.Prints.{IsWritten, left_unwritten, shown_all, shown_front, some_written, written_with, written_without}
use Rattle.screen.proofs.texts.write_text.Goals as goal

pub loop-part-init : goal.loop-part-init
loop-part-init c =
    let text = c.args.text.now in
    let n = c.write_ascii-count.result in
    let letters = c.write_ascii-count.ensures in
    record {
      utf8 = search rules;
      done = map (λ c. c ∷ []) (take n text);
      written = letters_written c.args.how text c.range-rest.result.now c.args.room c.args.at n c.args.style.now c.args.cells.now c.write_ascii-count.new.cells c.utf8.text letters.bare letters.few c.range-rest.ensures.value
          (letters.cells ∙ ap (λ s. overwritten c.args.cells.now c.args.at (map (bare_cell s) (take n text))) c.new-style.ensures);
    }

pub loop-part-preserved-in-None : goal.loop-part-preserved-in-None
loop-part-preserved-in-None c =
    let first = c.in-Some.ensures.0 in
    let inv = c.loop-part.invariant in
    let none : edit c.args.how first.front ≡ None = left_unwritten (edit c.args.how first.front) c.edit.result c.in-None.is (c.edit.ensures.value first.front first.held) in
    record {
      utf8 = search rules;
      done = inv.done;
      written = written_without c.args.how (text_parts (chars c.args.text.now)) inv.done (text_parts (chars c.loop-part.rest.now)) (text_parts (chars c.in-Some.back.now)) first.front c.args.room c.args.at c.args.style.now c.args.cells.now c.loop-part.count c.loop-part.cells
          first.first none inv.written;
    }

pub loop-part-preserved : goal.loop-part-preserved
loop-part-preserved c =
    let first = c.in-Some.ensures.0 in
    let inv = c.loop-part.invariant in
    let shown = c.in-Some-edit.shown in
    let text = shown.0 ∷ shown.1 in
    let cell : ◌≡◌ {A = Cell} c.of-cell.result (record { symbol = shown.0; marks = shown.1; style = c.args.style.now }) =
    c.of-cell.ensures ∙ ap (λ s. record { symbol = shown.0; marks = shown.1; style = s }) c.new-style.ensures in
    let taken : c.columns-taken.result ≡ columns shown.0 = c.columns-taken.ensures.value ∙ ap (λ d. columns d.symbol) cell in
    let some : edit c.args.how first.front ≡ Some text = some_written (edit c.args.how first.front) c.edit.result shown c.in-Some-edit.is (c.edit.ensures.value first.front first.held) in
    let held : FitsCell text = c.in-Some-edit.ensures.held first.front first.held in
    let more : c.loop-part.count + c.columns-taken.result ≡ c.loop-part.count + columns shown.0 = ap (λ k. c.loop-part.count + k) taken in
    let fits : columns shown.0 ≤ c.args.room - c.loop-part.count = omega (arith, taken, c.if-taken-room.false) in
    record {
      utf8 = search rules;
      done = inv.done ++ text ∷ [];
      written = subst (λ l. IsWritten c.args.how (text_parts (chars c.args.text.now)) (inv.done ++ text ∷ []) (text_parts (chars c.in-Some.back.now)) c.args.room c.args.at c.args.style.now c.args.cells.now (c.loop-part.count + c.columns-taken.result) l)
          (sym (c.overwrite.ensures ∙ ap (λ d. overwritten c.loop-part.cells (c.args.at + c.loop-part.count) (cells_with d.style (d.symbol ∷ d.marks))) cell))
          (written_with c.args.how (text_parts (chars c.args.text.now)) inv.done (text_parts (chars c.loop-part.rest.now)) (text_parts (chars c.in-Some.back.now)) first.front text c.args.room c.args.at c.args.style.now c.args.cells.now c.loop-part.count _ c.loop-part.cells
          first.first some held more fits c.requires.room inv.written);
    }

pub returns-then-taken-room : goal.returns-then-taken-room
returns-then-taken-room c =
    let first = c.in-Some.ensures.0 in
    let inv = c.loop-part.invariant in
    let shown = c.in-Some-edit.shown in
    let text = shown.0 ∷ shown.1 in
    let cell : ◌≡◌ {A = Cell} c.of-cell.result (record { symbol = shown.0; marks = shown.1; style = c.args.style.now }) =
    c.of-cell.ensures ∙ ap (λ s. record { symbol = shown.0; marks = shown.1; style = s }) c.new-style.ensures in
    let taken : c.columns-taken.result ≡ columns shown.0 = c.columns-taken.ensures.value ∙ ap (λ d. columns d.symbol) cell in
    let some : edit c.args.how first.front ≡ Some text = some_written (edit c.args.how first.front) c.edit.result shown c.in-Some-edit.is (c.edit.ensures.value first.front first.held) in
    let full : c.args.room - c.loop-part.count < columns shown.0 = omega (arith, taken, c.if-taken-room.true) in
    let all : within c.args.room (edited c.args.how (text_parts (chars c.args.text.now))) ≡ inv.done =
    shown_front c.args.how (text_parts (chars c.args.text.now)) inv.done (text_parts (chars c.loop-part.rest.now)) (text_parts (chars c.in-Some.back.now)) first.front text c.args.room c.args.at c.args.style.now c.args.cells.now c.loop-part.count c.loop-part.cells
    first.first some full inv.written in
    record {
      count = inv.written.taken ∙ ap text_columns (sym all);
      few = inv.written.fits;
      cells = inv.written.written ∙ ap (λ l. overwritten c.args.cells.now c.args.at (cells_of c.args.style.now l)) (sym all);
      held = subst (AllByRecursion FitsCell) (sym all) inv.written.held;
    }

pub returns : goal.returns
returns c =
    let end : chars c.loop-part.rest.now ≡ [] = search rules in
    let inv = c.loop-part.invariant in
    let all : within c.args.room (edited c.args.how (text_parts (chars c.args.text.now))) ≡ inv.done =
    shown_all c.args.how (text_parts (chars c.args.text.now)) inv.done (text_parts (chars c.loop-part.rest.now)) c.args.room c.args.at c.args.style.now c.args.cells.now c.loop-part.count c.loop-part.cells
    (ap text_parts end) inv.written in
    record {
      count = inv.written.taken ∙ ap text_columns (sym all);
      few = inv.written.fits;
      cells = inv.written.written ∙ ap (λ l. overwritten c.args.cells.now c.args.at (cells_of c.args.style.now l)) (sym all);
      held = subst (AllByRecursion FitsCell) (sym all) inv.written.held;
    }
