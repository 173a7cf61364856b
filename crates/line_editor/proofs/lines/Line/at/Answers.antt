use Rattle.std.proofs.Common.{sym}
use Rattle.std.proofs.lemmas.Str.{IsUtf8-string_bytes}
use Rattle.std.specs.String.{string_bytes}
use Rattle.line_editor.proofs.Changing.{before-line, boundary-there, place-there}
use Rattle.line_editor.proofs.lines.Line.at.Goals as goal

pub returns-clause-value : goal.returns-clause-value
returns-clause-value g c =
    sym (before-line (string_bytes c.self.inside.text) c.self.inside.at (IsUtf8-string_bytes c.self.inside.text) c.self.invariant.0 c.args.self.now c.self.view_is)

pub returns-clause-boundary : goal.returns-clause-boundary
returns-clause-boundary g c =
    boundary-there (string_bytes c.self.inside.text) c.self.inside.at c.args.self.now (IsUtf8-string_bytes c.self.inside.text) c.self.invariant.0 c.self.view_is _ c.self.invariant.0

pub returns-clause-place : goal.returns-clause-place
returns-clause-place g c =
    place-there (string_bytes c.self.inside.text) c.self.inside.at c.args.self.now (IsUtf8-string_bytes c.self.inside.text) c.self.invariant.0 c.self.view_is
