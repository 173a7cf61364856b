use Rattle.std.proofs.Common.{◌≡◌, ◌++◌, [], ◌∷◌, rules, sym}
use Rattle.std.proofs.lemmas.Str.{IsUtf8-had, chars_from_encodes}
use Rattle.std.specs.Prelude.{encode_utf8_all}
use Rattle.std.specs.Str.{chars}
use Rattle.std.specs.String.{string_bytes}
use Rattle.line_editor.specs.History.{line_saved}
use Rattle.line_editor.proofs.history.saved_line.Goals as goal

pub returns-clause-text : goal.returns-clause-text
returns-clause-text g c =
    let text = line_saved c.args.multiline (chars c.args.line.now) ++ 10 ∷ [] in
    let bytes : string_bytes c.push_line.new.text ≡ encode_utf8_all text = search rules in
    sym (chars_from_encodes text _ (IsUtf8-had _ c.push_line.new.text.ok) (sym bytes))
