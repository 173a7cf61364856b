use Rattle.std.proofs.Common.{true}
use Rattle.line_editor.proofs.Settling.{text_at}
use Rattle.line_editor.proofs.Showing.{shown-same}
use Rattle.line_editor.proofs.Sizing.{length-size}
use Rattle.line_editor.proofs.lines.Line.text.Goals as goal

pub returns-clause-text : goal.returns-clause-text
returns-clause-text g c = text_at c.as_str.result.now _ _ _ c.as_str.ensures.value c.as_str.utf8 c.self.invariant.0 c.self.view_is

pub returns-clause-shown : goal.returns-clause-shown
returns-clause-shown g c = shown-same true c.as_str.result.now _ c.as_str.ensures.value c.self.invariant.2

pub returns-clause-len : goal.returns-clause-len
returns-clause-len g c = length-size c.as_str.result.now _ c.as_str.utf8 (returns-clause-text g c)
