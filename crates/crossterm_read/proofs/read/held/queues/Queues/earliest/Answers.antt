use Rattle.std.proofs.Common.{[], ◌∷◌, subst, sym}
use Rattle.crossterm_read.specs.inside.Kinds.{has_class}
use Rattle.crossterm_read.specs.inside.Queues.{IsEarliest, all_kinds, behind, queue_of}
use Rattle.crossterm_read.specs.declared.read.held.kind.Kind.TheVariants.{Event, Cursor, Flags, Attributes}
use Rattle.crossterm_read.proofs.Joining.{earliest_of_both}
use Rattle.crossterm_read.proofs.read.held.queues.Queues.earliest.Goals as goal

pub returns : goal.returns
returns g c =
    let q = behind (queue_of c.args.self.now) c.args.at in
    let w = has_class c.args.wanted in
    let flags = subst (λ r. IsEarliest q w (Flags ∷ Attributes ∷ []) r) (sym c.earlier.ensures)
    (earliest_of_both q w (Flags ∷ []) (Attributes ∷ []) c.front-flags.result c.front-attributes.result c.front-flags.ensures c.front-attributes.ensures) in
    let replies = subst (λ r. IsEarliest q w (Cursor ∷ Flags ∷ Attributes ∷ []) r) (sym c.earlier-2.ensures)
    (earliest_of_both q w (Cursor ∷ []) (Flags ∷ Attributes ∷ []) c.front-cursors.result c.earlier.result c.front-cursors.ensures flags) in
    subst (λ r. IsEarliest q w all_kinds r) (sym c.earlier-3.ensures) (earliest_of_both q w (Event ∷ []) (Cursor ∷ Flags ∷ Attributes ∷ []) c.front-events.result c.earlier-2.result c.front-events.ensures replies)
