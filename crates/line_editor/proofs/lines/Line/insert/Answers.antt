use Rattle.std.proofs.Common.{◌∙◌, ap, arith, length, length-append, length-drop, length-take-le, take, drop, ◌++◌}
use Rattle.std.proofs.lemmas.Str.{IsUtf8-string_bytes}
use Rattle.std.specs.String.{string_bytes}
use Rattle.std.specs.Str.{chars}
use Rattle.line_editor.specs.Edits.{inserted}
use Rattle.line_editor.proofs.Changing.{before-line, before-split, line_bytes-split, inserted-there}
use Rattle.line_editor.proofs.Inserting.{inserted-Placed, inserted-shown, split_at-inserted}
use Rattle.line_editor.proofs.lines.Line.insert.Goals as goal

pub invariant_of-self-2 : goal.invariant_of-self-2
invariant_of-self-2 g c =
    let moved = c.ahead-self-inside.ensures in
    let placed = inserted-Placed _ _ _ _ _ _ _ c.as_str-whole.ensures.value c.as_str-whole-2.ensures.value c.as_str-whole.utf8 c.utf8.text c.self.invariant.0
    c.in_ok-insert_str.ensures.bytes moved.first moved.boundary in (
      placed.0,
      placed.1,
      inserted-shown _ _ _ _ _ _ _ c.as_str-whole.ensures.value c.as_str-whole-2.ensures.value c.as_str-whole.utf8 c.utf8.text
          c.self.invariant.0 c.in_ok-insert_str.ensures.bytes moved.first c.self.invariant.2 c.requires,
    )

pub returns-clause-ok : goal.returns-clause-ok
returns-clause-ok g c =
    split_at-inserted _ _ _ _ _ _ _ c.as_str-whole.ensures.value c.as_str-whole-2.ensures.value c.as_str-whole.utf8 c.utf8.text c.self.invariant.0
    c.in_ok-insert_str.ensures.bytes c.ahead-self-inside.ensures.first ∙ ap (inserted (chars c.args.text.now)) c.self.view_is

pub returns-clause-bytes : goal.returns-clause-bytes
returns-clause-bytes g c =
    line_bytes-split (string_bytes c.insert_str.new.self) _ (IsUtf8-string_bytes c.insert_str.new.self) (invariant_of-self-2 g c).0 ∙ c.in_ok-insert_str.ensures.bytes
    ∙ inserted-there (string_bytes c.self.inside.text) c.self.inside.at c.args.self.now (IsUtf8-string_bytes c.self.inside.text) c.self.invariant.0 c.self.view_is c.args.text.now

pub returns-clause-end : goal.returns-clause-end
returns-clause-end g c =
    let old = string_bytes c.self.inside.text in
    let at = c.self.inside.at in
    let place = before-line old at (IsUtf8-string_bytes c.self.inside.text) c.self.invariant.0 c.args.self.now c.self.view_is in
    let within = c.self.invariant.0.0 in
    omega (
      arith,
      place,
      within,
      ap length c.as_str-whole.ensures.value,
      ap length c.as_str-whole-2.ensures.value,
      ap length c.in_ok-insert_str.ensures.bytes,
      length-append (take at old ++ c.args.text.now) (drop at old),
      length-append (take at old) c.args.text.now,
      length-take-le at old within,
      length-drop at old,
    )

pub returns-clause-on : goal.returns-clause-on
returns-clause-on g c =
    let same = before-split (string_bytes c.insert_str.new.self) _ (IsUtf8-string_bytes c.insert_str.new.self) (invariant_of-self-2 g c).0 in
    let on = c.ahead-self-inside.ensures.on in
    omega (arith, same, on)
