use Rattle.std.proofs.Common.{arith, true}
use Rattle.std.proofs.lemmas.Str.{IsCharBoundary-start}
use Rattle.line_editor.proofs.Showing.{shown-part}
use Rattle.line_editor.proofs.recent.last_word.Goals as goal

pub returns-clause-shown : goal.returns-clause-shown
returns-clause-shown g c =
    let text = c.cut-text.result.now in
    shown-part true text c.cut-text.utf8 c.cut-text.ensures.shown 0 _ (IsCharBoundary-start text c.cut-text.utf8) c.unblanked_before-end.ensures.boundary (omega arith) _ c.range.ensures.value
