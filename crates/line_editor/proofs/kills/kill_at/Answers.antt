use Rattle.std.proofs.Common.{◌∙◌, length, ap, refl, sym, true}
use Rattle.std.proofs.lemmas.Bool.{ltb-false}
use Rattle.std.proofs.lemmas.Str.{chars-nil}
use Rattle.std.specs.Str.{chars}
use Rattle.line_editor.proofs.Ringing.{kill_found, kill_found-shown, kill_missed}
use Rattle.line_editor.proofs.Showing.{shown-nothing}
use Rattle.line_editor.proofs.kills.kill_at.Goals as goal

pub returns-in-None-clause-text : goal.returns-in-None-clause-text
returns-in-None-clause-text g c = chars-nil ∙ kill_missed c.args.kills.now.items c.args.at (ltb-false c.args.at (length c.args.kills.now.items) (sym c.in-None.ensures.item.0))

pub returns-in-None-clause-shown : goal.returns-in-None-clause-shown
returns-in-None-clause-shown g c = shown-nothing true _ refl

pub returns-in-Some-clause-text : goal.returns-in-Some-clause-text
returns-in-Some-clause-text g c =
    ap chars c.as_str.ensures.value ∙ kill_found c.args.kills.now.items c.args.at c.in-Some.text.now c.in-Some.ensures.item.3.0 c.in-Some.ensures.item.1

pub returns-in-Some-clause-shown : goal.returns-in-Some-clause-shown
returns-in-Some-clause-shown g c =
    kill_found-shown c.args.kills.now.items c.args.at _
    (ap chars c.as_str.ensures.value ∙ kill_found c.args.kills.now.items c.args.at c.in-Some.text.now c.in-Some.ensures.item.3.0 c.in-Some.ensures.item.1) c.requires
