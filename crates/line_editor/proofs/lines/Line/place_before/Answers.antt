use Rattle.std.proofs.Common.{rules}
use Rattle.std.proofs.lemmas.Str.{IsUtf8-string_bytes}
use Rattle.std.specs.String.{string_bytes}
use Rattle.line_editor.proofs.Ringing.{place_found, place_missed}
use Rattle.line_editor.proofs.lines.Line.place_before.Goals as goal

pub returns-in-None : goal.returns-in-None
returns-in-None g c =
    let text = string_bytes c.self.inside.text in
    place_missed text c.range.result.now c.args.end.now c.self.inside.at c.args.self.now (IsUtf8-string_bytes c.self.inside.text) c.self.invariant.0 c.self.view_is
    (search rules) c.in-None.ensures

pub returns-in-Some : goal.returns-in-Some
returns-in-Some g c =
    let text = string_bytes c.self.inside.text in
    place_found text c.range.result.now c.args.end.now c.self.inside.at c.args.self.now (IsUtf8-string_bytes c.self.inside.text) c.self.invariant.0 c.self.view_is
    (search rules) c.utf8.end c.in-Some.front.now c.utf8_len.ensures.utf8 c.in-Some.ensures c.utf8_len.result c.utf8_len.ensures.len
