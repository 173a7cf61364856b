use Rattle.std.proofs.Common.{◌∙◌, ◌∷◌, ap, refl, take}
use Rattle.std.proofs.lemmas.Bool.{false≢true}
use Rattle.std.specs.Prelude.{false}
use Rattle.std.specs.Str.{chars}
use Rattle.line_editor.specs.Edits.{line_with}
use Rattle.line_editor.specs.Splits.{Split, split_at}
use Rattle.line_editor.specs.inside.Changes.{line_bytes}
use Rattle.line_editor.proofs.Drafting.{noted-AreChanges, seen_changed}
use Rattle.line_editor.proofs.draft.Draft.replace.Goals as goal

pub invariant_of-self-2 : goal.invariant_of-self-2
invariant_of-self-2 g c =
    noted-AreChanges c.args.steps c.in_ok-change.change c.self.inside.line c.splice.new.self c.in_ok-change.ensures.back c.self.inside.past.items c.self.inside.undone.items
    c.note.new.changes.items c.clear.new.self.items c.self.inside.typing false c.self.invariant
    (c.note.ensures ∙ ap (λ l. take c.args.steps (c.in_ok-change.change ∷ l)) c.in_ok-reserve.ensures.items) c.clear.ensures.items (λ off. absurd (false≢true off))

pub returns-clause-ok : goal.returns-clause-ok
returns-clause-ok g c =
    seen_changed c.args.steps c.in_ok-change.change c.self.inside.line c.splice.new.self c.in_ok-change.ensures.back c.self.inside.past.items c.self.inside.undone.items
    c.note.new.changes.items c.clear.new.self.items c.self.inside.typing false c.self.invariant
    (c.note.ensures ∙ ap (λ l. take c.args.steps (c.in_ok-change.change ∷ l)) c.in_ok-reserve.ensures.items) c.clear.ensures.items
    c.args.self.now c.self.view_is (λ (d : Split). line_with (split_at (line_bytes d) c.args.from) (chars c.args.with.now) (split_at (line_bytes d) c.args.to)) c.in_ok-change.ensures.ok refl
