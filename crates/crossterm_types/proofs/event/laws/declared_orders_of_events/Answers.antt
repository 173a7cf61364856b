use Rattle.crossterm_flags.proofs.Ranks.{compares}
use Rattle.crossterm_types.specs.contracts.event.EventOrd.TheImpl.Laws as event
use Rattle.crossterm_types.specs.contracts.event.InternalEventOrd.TheImpl.Laws as internal
use Rattle.crossterm_types.proofs.Orders as orders
use Rattle.crossterm_types.proofs.event.laws.declared_orders_of_events.Goals as goal

pub returns-clause-events : goal.returns-clause-events
returns-clause-events g c =
    compares (event.matches_partial_cmp-law g.row.A g.A.Allocator g.A.Allocator-dict g.A.Destruct-dict)
    (orders.events_ordered g.row.A g.A.Allocator g.A.Allocator-dict g.A.Destruct-dict)

pub returns-clause-replies : goal.returns-clause-replies
returns-clause-replies g c =
    compares (internal.matches_partial_cmp-law g.row.A g.A.Allocator g.A.Allocator-dict g.A.Destruct-dict)
    (orders.replies_ordered g.row.A g.A.Allocator g.A.Allocator-dict g.A.Destruct-dict)
