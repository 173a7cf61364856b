use Rattle.std.proofs.Common.{◌∙◌, ap, sym, arith}
use Rattle.std.proofs.lemmas.Bool.{false≢true}
use Rattle.line_editor.specs.States.{LeftLine}
use Rattle.line_editor.proofs.Leaving.{missed_draft, missed_rest, position_within, taken_draft, taken_rest}
use Rattle.line_editor.proofs.left.take_or_begin.Goals as goal

pub show-requires : goal.show-requires
show-requires g c = position_within c.args.place c.args.left.now.items c.in-Some.at c.in-Some.ensures

pub unreachable-requires : goal.unreachable-requires
unreachable-requires g c =
    let within = position_within c.args.place c.args.left.now.items c.in-Some.at c.in-Some.ensures in
    false≢true (c.in-None-remove.ensures.variant.1 (omega (arith, within, c.in_ok-show-in-Some.ensures.len)))

pub returns-in_ok-clone-in-None-2-clause-draft : goal.returns-in_ok-clone-in-None-2-clause-draft
returns-in_ok-clone-in-None-2-clause-draft g c =
    c.new.ensures ∙ sym (missed_draft c.args.steps c.args.place c.args.line c.args.left.now.items c.in-None.ensures)

pub returns-in_ok-clone-in-None-2-clause-ok : goal.returns-in_ok-clone-in-None-2-clause-ok
returns-in_ok-clone-in-None-2-clause-ok g c = sym (missed_rest c.args.steps c.args.place c.args.line c.args.left.now.items c.in-None.ensures)

pub returns-in-Some-remove-clause-draft : goal.returns-in-Some-remove-clause-draft
returns-in-Some-remove-clause-draft g c =
    ap (λ (y : LeftLine). y.draft) c.found.view_is
    ∙ taken_draft c.args.steps c.args.place c.in-Some.at c.args.line c.args.left.now.items c.show.new.left.items c.remove.new.self.items c.in-Some.ensures
    c.in_ok-show-in-Some.ensures.ok c.in-Some-remove.found c.in-Some-remove.ensures.value

pub returns-in-Some-remove-clause-ok : goal.returns-in-Some-remove-clause-ok
returns-in-Some-remove-clause-ok g c =
    taken_rest c.args.steps c.args.place c.in-Some.at c.args.line c.args.left.now.items c.show.new.left.items c.remove.new.self.items c.in-Some.ensures
    c.in_ok-show-in-Some.ensures.ok c.in-Some-remove.ensures.items
