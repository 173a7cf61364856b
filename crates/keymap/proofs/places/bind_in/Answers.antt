use Rattle.std.proofs.Common.{sym, ◌∙◌, subst}
use Rattle.keymap.specs.inside.Places.{BindsAt}
use Rattle.keymap.proofs.Placing.{right_more, right_some}
use Rattle.keymap.proofs.places.bind_in.Goals as goal

pub returns-in-Some : goal.returns-in-Some
returns-in-Some g c = λ bound number free right_places.
    right_more bound c.args.chords.now c.in-Some.table c.bind_at.new.places (right_some bound c.args.places.now c.in-Some.table (sym c.take.ensures.value ∙ c.in-Some.is) right_places) free
    (subst (λ n. BindsAt c.args.chords.now n c.in-Some.table c.bind_at.new.places) number c.bind_at.ensures)
