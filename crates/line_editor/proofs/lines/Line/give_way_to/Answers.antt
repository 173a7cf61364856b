use Rattle.std.proofs.Common.{◌∙◌, ap, length, refl}
use Rattle.std.proofs.lemmas.Str.{IsUtf8-string_bytes}
use Rattle.std.specs.String.{string_bytes}
use Rattle.line_editor.proofs.Changing.{line_bytes-line, whole_back}
use Rattle.line_editor.proofs.lines.Line.give_way_to.Goals as goal

pub returns-clause-back : goal.returns-clause-back
returns-clause-back g c =
    let new = string_bytes c.self.inside.text in
    whole_back (string_bytes c.text.inside.text) new _ _ c.text.inside.at c.args.self.now c.replace.new.dest (IsUtf8-string_bytes c.text.inside.text)
    (IsUtf8-string_bytes c.self.inside.text) refl (ap length c.as_str.ensures.value) (c.text.view_is ∙ c.replace.ensures.value) c.text.invariant.0 c.text.invariant.1 c.text.invariant.2
    (line_bytes-line new c.self.inside.at (IsUtf8-string_bytes c.self.inside.text) c.self.invariant.0 c.replace.new.dest c.self.view_is)
