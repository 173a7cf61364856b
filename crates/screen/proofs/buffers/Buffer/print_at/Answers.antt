use Rattle.std.proofs.Common.{rules, ◌≡◌, ◌+◌, ◌<◌, ◌≤◌, [], chars, length, sym, ap}
use Rattle.screen.specs.Buffers.{Picture, with_shown}
use Rattle.screen.specs.Texts.{text_columns, within}
use Rattle.screen.specs.Parts.{text_parts}
use Rattle.screen.specs.inside.Edits.{edited}
use Rattle.screen.proofs.Prints.{written_have}
use Rattle.screen.proofs.Taking.{text_kept, within_none}
use Rattle.screen.proofs.buffers.Buffer.print_at.Goals as goal

pub returns-then-room-eq0 : goal.returns-then-room-eq0
returns-then-room-eq0 g c =
    let text = edited c.args.how (text_parts (chars c.args.text.now)) in
    let p : Picture = c.args.self.now in
    let nothing : within c.args.room text ≡ [] = within_none c.args.room text (written_have c.args.how (chars c.args.text.now)) c.if-room-eq0.true in
    record {
      used = ap text_columns (sym nothing);
      picture = ap (λ l. with_shown p c.args.place.0 c.args.place.1 l c.args.style.now) (sym nothing);
    }

pub invariant_of-self : goal.invariant_of-self
invariant_of-self g c =
    let w = c.self.inside.width in
    let h = c.self.inside.height in
    let items = c.self.inside.cells.items in
    let old = c.deref_mut.result.now in
    let text = edited c.args.how (text_parts (chars c.args.text.now)) in
    let count : length items ≡ c.self.inside.cells.len = search rules in
    let same : old ≡ items = search rules in
    let below : c.args.place.1 < h = search rules in
    let inside : c.args.place.0 + c.args.room ≤ w = search rules in
    text_kept c.args.style.now text w h c.self.inside.cells.len c.args.place.1 c.args.place.0 c.args.room c.place_at-at.result items old c.write_text-used.new.cells count c.self.invariant.0 c.self.invariant.1 same below inside
    c.write_text-used.ensures.held c.place_at-at.ensures c.write_text-used.ensures.cells
