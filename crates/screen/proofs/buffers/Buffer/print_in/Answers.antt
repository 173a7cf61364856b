use Rattle.std.proofs.Common.{◌≡◌, ◌+◌, ◌-◌, ◌<◌, ◌≤◌, List, ℕ, None, chars, sym, ap, ◌∙◌, arith}
use Rattle.screen.specs.Alignments.{indent, refusal_in}
use Rattle.screen.specs.Buffers.{Picture, with_shown, with_text}
use Rattle.screen.specs.Texts.{text_columns, text_fault, within}
use Rattle.screen.specs.declared.texts.Editing.TheVariants.{Whole}
use Rattle.screen.specs.Parts.{text_parts}
use Rattle.screen.specs.inside.Edits.{edited}
use Rattle.screen.proofs.Alignments.{shown_whole, within_less}
use Rattle.screen.proofs.Prints.{edits_whole}
use Rattle.screen.proofs.buffers.Buffer.print_in.Goals as goal

-- What is printed is what has room in the rectangle.
shown : (text : List (List ℕ)) (room before used : ℕ) → text_fault text ≡ None → used ≡ text_columns (within room text) → before + used ≤ room
    → within (room - before) (edited Whole text) ≡ within room text
shown text room before used none is few =
    ap (within (room - before)) (edits_whole text none) ∙ within_less text room (room - before) (omega arith) (omega (arith, is, few))

pub returns-clause-used : goal.returns-clause-used
returns-clause-used g c =
    let text = text_parts (chars c.args.text.now) in
    let none : text_fault text ≡ None = sym c.text_fault.ensures ∙ c.fault_in.ensures.other c.in_default.is in
    c.print_at.ensures.used ∙ ap text_columns (shown text c.room_in-room.result c.indent-before.result c.columns_within.result none c.columns_within.ensures.value c.indent-before.ensures.few)
    ∙ ap (λ k. text_columns (within k text)) c.room_in-room.ensures.value

pub returns-clause-ok : goal.returns-clause-ok
returns-clause-ok g c =
    let text = text_parts (chars c.args.text.now) in
    let p : Picture = c.args.self.now in
    let r = c.args.rect in
    let row = r.y + c.args.row in
    let room = c.room_in-room.result in
    let before = c.indent-before.result in
    let used = c.columns_within.result in
    let s = c.args.style in
    let none : text_fault text ≡ None = sym c.text_fault.ensures ∙ c.fault_in.ensures.other c.in_default.is in
    let few : before + text_columns (within room text) ≤ room = omega (arith, c.indent-before.ensures.few, c.columns_within.ensures.value) in
    let fits : 0 < room → r.x + room ≤ p.width = c.room_in-room.ensures.fits in (
      ap (refusal_in p r c.args.row) (sym c.text_fault.ensures) ∙ sym c.fault_in.ensures.value ∙ c.in_default.is,
      c.print_at.ensures.picture
          ∙ ap (λ l. with_shown p (r.x + before) row l s) (shown text room before used none c.columns_within.ensures.value c.indent-before.ensures.few ∙ sym (shown_whole text room before p.width r.x few fits))
          ∙ ap (λ k. with_text p (r.x + k) row (within room text) s) (c.indent-before.ensures.value ∙ ap (indent c.args.alignment room) c.columns_within.ensures.value)
          ∙ ap (λ k. with_text p (r.x + indent c.args.alignment k (text_columns (within k text))) row (within k text) s) c.room_in-room.ensures.value,
    )
