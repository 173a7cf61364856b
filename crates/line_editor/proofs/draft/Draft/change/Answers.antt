use Rattle.std.proofs.Common.{◌∙◌, ◌∷◌, ap, refl, take}
use Rattle.std.proofs.lemmas.Bool.{false≢true}
use Rattle.std.specs.Prelude.{false}
use Rattle.line_editor.proofs.Drafting.{noted-AreChanges, seen_changed}
use Rattle.line_editor.proofs.draft.Draft.change.Goals as goal

pub invariant_of-self-2 : goal.invariant_of-self-2
invariant_of-self-2 g c =
    noted-AreChanges c.args.steps c.give_way_to-change.result c.self.inside.line c.give_way_to-change.new.self c.give_way_to-change.ensures.back c.self.inside.past.items c.self.inside.undone.items
    c.note.new.changes.items c.clear.new.self.items c.self.inside.typing false c.self.invariant
    (c.note.ensures ∙ ap (λ l. take c.args.steps (c.give_way_to-change.result ∷ l)) c.in_ok-reserve.ensures.items) c.clear.ensures.items (λ off. absurd (false≢true off))

pub returns-clause-ok : goal.returns-clause-ok
returns-clause-ok g c =
    seen_changed c.args.steps c.give_way_to-change.result c.self.inside.line c.give_way_to-change.new.self c.give_way_to-change.ensures.back c.self.inside.past.items c.self.inside.undone.items
    c.note.new.changes.items c.clear.new.self.items c.self.inside.typing false c.self.invariant
    (c.note.ensures ∙ ap (λ l. take c.args.steps (c.give_way_to-change.result ∷ l)) c.in_ok-reserve.ensures.items) c.clear.ensures.items
    c.args.self.now c.self.view_is (λ _. c.args.line) c.give_way_to-change.ensures.line refl
