use Rattle.std.proofs.Common.{arith, ap, List, length, map, length-append, refl}
use Rattle.std.proofs.lemmas.List.{length-map}
use Rattle.crossterm_types.specs.Seen.{Seen, seen}
use Rattle.crossterm_parse.specs.inside.Queue.{QueueView, typed_seen}
use Rattle.crossterm_parse.proofs.parse.queue.Queue.is_empty.Goals as goal

pub returns-else-is_empty-clause-no : goal.returns-else-is_empty-clause-no
returns-else-is_empty-clause-no g c more none =
    let typed = c.self.inside.typed.waiting in
    let events = c.self.inside.events.items in
    let some = c.if-is_empty.ensures.no refl in
    let view = ap (λ (q : QueueView). length q.waiting) c.self.view_is in
    absurd (omega (arith, some, view, ap (λ (es : List Seen). length es) none, length-append (map typed_seen typed) (map (seen {A = g.row.A.Denot}) events), length-map typed typed_seen))
