use Rattle.std.proofs.Common.{◌∙◌, ap, refl}
use Rattle.line_editor.specs.States.{DraftState}
use Rattle.line_editor.specs.inside.Changes.{first_ended}
use Rattle.line_editor.proofs.Drafting.{grown-AreChanges, reached-AreChanges, reached-boundary, reached-ends, reached-fit, on_err, seen_grown, seen_reached}
use Rattle.line_editor.proofs.draft.Draft.type_more.Goals as goal

pub reach_first-requires-clause-fit : goal.reach_first-requires-clause-fit
reach_first-requires-clause-fit g c = reached-fit c.self.inside.line c.self.inside.line c.text.result.now c.text.result.now c.at.result c.at.result c.text.utf8 c.text.utf8 c.text.ensures.text c.at.ensures.value c.at.ensures.boundary c.self.inside.past.items c.self.invariant.back

pub reach_first-requires-clause-at : goal.reach_first-requires-clause-at
reach_first-requires-clause-at g c = reached-boundary c.self.inside.line c.self.inside.line c.text.result.now c.text.result.now c.at.result c.at.result c.text.utf8 c.text.utf8 c.text.ensures.text c.at.ensures.value c.at.ensures.boundary

pub reach_first-requires-clause-ends : goal.reach_first-requires-clause-ends
reach_first-requires-clause-ends g c =
    reached-ends c.self.inside.line c.self.inside.line c.text.result.now c.text.result.now c.at.result c.at.result c.text.utf8 c.text.utf8 c.text.ensures.text c.at.ensures.value c.at.ensures.boundary c.self.inside.past.items (c.self.invariant.typed (ap (λ (x : DraftState). x.typing) c.self.view_is ∙ c.requires.typing))

pub invariant_of-self-2 : goal.invariant_of-self-2
invariant_of-self-2 g c =
    grown-AreChanges c.self.inside.line c.insert.new.self c.text.result.now c.args.text.now c.at.result c.in_ok-end.end c.text.utf8 c.utf8.text c.text.ensures.text c.at.ensures.value c.at.ensures.boundary
    c.self.inside.past.items c.self.inside.undone.items c.self.inside.typing (ap (λ (x : DraftState). x.typing) c.self.view_is ∙ c.requires.typing) c.self.invariant c.in_ok-end.ensures.bytes c.in_ok-end.ensures.end
    _ _ (c.end_first.ensures ∙ ap (first_ended c.in_ok-end.end) c.in_ok-reach_first.ensures.ok) c.clear.ensures.items c.in_ok-end.ensures.on

pub returns-clause-ok : goal.returns-clause-ok
returns-clause-ok g c =
    seen_grown c.self.inside.line c.insert.new.self c.text.result.now c.args.text.now c.at.result c.in_ok-end.end c.text.utf8 c.utf8.text c.text.ensures.text c.at.ensures.value c.at.ensures.boundary
    c.self.inside.past.items c.self.inside.undone.items c.self.inside.typing (ap (λ (x : DraftState). x.typing) c.self.view_is ∙ c.requires.typing) c.self.invariant c.in_ok-end.ensures.bytes c.in_ok-end.ensures.end
    _ _ (c.end_first.ensures ∙ ap (first_ended c.in_ok-end.end) c.in_ok-reach_first.ensures.ok) c.clear.ensures.items c.args.self.now c.self.view_is c.in_ok-end.ensures.ok

pub invariant_of-self-in_err-end : goal.invariant_of-self-in_err-end
invariant_of-self-in_err-end g c =
    reached-AreChanges c.self.inside.line c.insert.new.self c.text.result.now c.args.text.now c.at.result 0 c.text.utf8 c.utf8.text c.text.ensures.text c.at.ensures.value c.at.ensures.boundary
    c.self.inside.past.items c.self.inside.undone.items c.self.inside.typing (ap (λ (x : DraftState). x.typing) c.self.view_is ∙ c.requires.typing) c.self.invariant
    c.insert.new.self c.reach_first.new.changes.items c.self.inside.undone.items c.in_err-end.ensures.err c.in_ok-reach_first.ensures.ok refl

pub returns-in_err-end-clause-err : goal.returns-in_err-end-clause-err
returns-in_err-end-clause-err g c =
    on_err c.from_residual-in_err-end.result (seen_reached c.self.inside.line c.insert.new.self c.text.result.now c.args.text.now c.at.result 0 c.text.utf8 c.utf8.text c.text.ensures.text c.at.ensures.value c.at.ensures.boundary
    c.self.inside.past.items c.self.inside.undone.items c.self.inside.typing (ap (λ (x : DraftState). x.typing) c.self.view_is ∙ c.requires.typing) c.self.invariant
    c.insert.new.self c.reach_first.new.changes.items c.self.inside.undone.items c.in_err-end.ensures.err c.in_ok-reach_first.ensures.ok refl c.args.self.now c.self.view_is)
