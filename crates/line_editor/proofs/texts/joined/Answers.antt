use Rattle.std.proofs.Common.{◌++◌, ◌∙◌, ap, true}
use Rattle.std.proofs.lemmas.Str.{chars-append}
use Rattle.std.specs.Str.{chars}
use Rattle.line_editor.proofs.Showing.{shown-both}
use Rattle.line_editor.proofs.texts.joined.Goals as goal

pub returns-clause-text : goal.returns-clause-text
returns-clause-text g c =
    ap chars (c.in_ok-push_str.ensures.bytes ∙ ap (λ t. t ++ c.args.rest.now) c.in_ok-new.ensures.ok) ∙ chars-append c.args.front.now c.args.rest.now c.utf8.front

pub returns-clause-shown : goal.returns-clause-shown
returns-clause-shown g c =
    shown-both true c.args.front.now c.args.rest.now _ c.utf8.front c.requires.front c.requires.rest
    (c.in_ok-push_str.ensures.bytes ∙ ap (λ t. t ++ c.args.rest.now) c.in_ok-new.ensures.ok)
