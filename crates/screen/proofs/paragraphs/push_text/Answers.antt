use Rattle.std.proofs.Common.{◌≡◌, ◌++◌, List, [], Result, Ok, Err, OnErr, ap, append-nil, append_assoc, ◌∙◌, length, map, refl, rules, sym, take}
use Rattle.std.specs.Str.{chars}
use Rattle.screen.specs.Cells.{Cell}
use Rattle.screen.specs.Paragraphs.{part_cells, wrapped}
use Rattle.screen.specs.Parts.{text_parts}
use Rattle.screen.specs.inside.Ascii.{bare_cell}
use Rattle.screen.proofs.Wrapping.{wrapped_behind}
use Rattle.screen.proofs.WrappedLetters.{letters_laid, wrapped_letters}
use Rattle.screen.proofs.paragraphs.push_text.Goals as goal

pub loop-part-init : goal.loop-part-init
loop-part-init g c = record {
  utf8 = search rules;
  front = [];
  added = sym (append-nil c.args.cells.now.items);
  left = refl;
  laid = λ laid. laid;
  room = search rules;
}

-- Cells that were added to others with added ones.
further : (old front cells more new : List Cell) → cells ≡ old ++ front → new ≡ cells ++ more → new ≡ old ++ (front ++ more)
further old front cells more new before behind = behind ∙ ap (λ l. l ++ more) before ∙ append_assoc old front more

pub loop-part-preserved : goal.loop-part-preserved
loop-part-preserved g c =
    let first = c.in-Some.ensures.0 in
    let inv = c.loop-part.invariant in
    let style = c.args.style.now in
    let width = c.args.width in
    let old = c.args.cells.now.items in
    let before = c.loop-part.cells.items in
    let text = c.loop-part.rest.now in
    let cells = c.push_ascii.new.cells.items in
    let (n, bare, behind, added) = c.in_ok-push_ascii.ensures.ok in
    let letters = map (bare_cell c.new-style.result) (take n text) in
    let part = part_cells style width (length cells) first.front in
    let grown : c.push_part.new.cells.items ≡ cells ++ part =
    c.in_ok-push_part.ensures.ok first.front first.held ∙ ap (λ s. cells ++ part_cells s width (length cells) first.front) c.new-style.ensures in
    record {
      utf8 = search rules;
      front = (inv.front ++ letters) ++ part;
      added = further old (inv.front ++ letters) cells part c.push_part.new.cells.items (further old inv.front before letters cells inv.added added) grown;
      left = inv.left ∙ wrapped_letters style c.new-style.result width n before cells text c.in_ok-push_ascii.field-0.now c.new-style.ensures c.requires inv.utf8 bare behind added
          ∙ wrapped_behind style width cells first.front (text_parts (chars c.in_ok-push_ascii.field-0.now)) (text_parts (chars c.in-Some.back.now)) first.first
          ∙ ap (λ l. l ++ wrapped style width (length l) (text_parts (chars c.in-Some.back.now))) (sym grown);
      laid = λ laid. c.in_ok-push_part.ensures.laid (letters_laid c.new-style.result width n before cells text bare added (inv.laid laid));
      room = search rules;
    }

on_err : {T E P : Type 0} (r : Result T E) → P → OnErr r P
on_err (Ok x) p = tt
on_err (Err e) p = p

pub returns-in_err-push_part-clause-err : goal.returns-in_err-push_part-clause-err
returns-in_err-push_part-clause-err g c =
    let inv = c.loop-part.invariant in
    let old = c.args.cells.now.items in
    let cells = c.push_ascii.new.cells.items in
    let (n, bare, behind, added) = c.in_ok-push_ascii.ensures.ok in
    let front = inv.front ++ map (bare_cell c.new-style.result) (take n c.loop-part.rest.now) in
    let (more, grown) = c.in_err-push_part.ensures.err in
    on_err c.from_residual-in_err-push_part.result (front ++ more, further old front cells more c.push_part.new.cells.items (further old inv.front c.loop-part.cells.items _ cells inv.added added) grown)

pub returns-clause-ok : goal.returns-clause-ok
returns-clause-ok g c =
    let inv = c.loop-part.invariant in
    let style = c.args.style.now in
    let width = c.args.width in
    let cells = c.push_ascii.new.cells.items in
    let (n, bare, behind, added) = c.in_ok-push_ascii.ensures.ok in
    let end : chars c.in_ok-push_ascii.field-0.now ≡ [] = search rules in
    sym (inv.left ∙ wrapped_letters style c.new-style.result width n c.loop-part.cells.items cells c.loop-part.rest.now c.in_ok-push_ascii.field-0.now c.new-style.ensures c.requires inv.utf8 bare behind added
    ∙ ap (λ t. cells ++ wrapped style width (length cells) (text_parts t)) end ∙ append-nil cells)

pub returns-clause-laid : goal.returns-clause-laid
returns-clause-laid g c = λ laid.
    let (n, bare, behind, added) = c.in_ok-push_ascii.ensures.ok in
    letters_laid c.new-style.result c.args.width n c.loop-part.cells.items c.push_ascii.new.cells.items c.loop-part.rest.now bare added (c.loop-part.invariant.laid laid)
