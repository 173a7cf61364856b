use Rattle.std.proofs.Common.{length, refl, sym, ap, ◌∙◌, true}
use Rattle.std.proofs.lemmas.Bool.{ltb-false}
use Rattle.std.proofs.lemmas.Str.{chars-nil}
use Rattle.std.specs.Prelude.{slice_get}
use Rattle.line_editor.specs.States.{last_word_of}
use Rattle.line_editor.proofs.Showing.{shown-nothing}
use Rattle.line_editor.proofs.Wording.{word_found, word_missed}
use Rattle.line_editor.proofs.recent.RecentLines.last_word.Goals as goal

pub returns-in-None-clause-text : goal.returns-in-None-clause-text
returns-in-None-clause-text g c =
    let lines = c.self.inside.lines.items in
    chars-nil ∙ word_missed lines c.args.at (ltb-false c.args.at (length lines) (sym c.in-None.ensures.item.0)) ∙ ap (λ l. last_word_of (slice_get l c.args.at)) c.self.view_is

pub returns-in-None-clause-shown : goal.returns-in-None-clause-shown
returns-in-None-clause-shown g c = shown-nothing true _ refl

pub returns-in-Some-clause-text : goal.returns-in-Some-clause-text
returns-in-Some-clause-text g c =
    let lines = c.self.inside.lines.items in
    c.last_word.ensures.text ∙ word_found lines c.args.at c.in-Some.line.now c.in-Some.ensures.item.3.0 c.in-Some.ensures.item.1
    ∙ ap (λ l. last_word_of (slice_get l c.args.at)) c.self.view_is
