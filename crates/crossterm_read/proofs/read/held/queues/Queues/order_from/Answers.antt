use Rattle.std.proofs.Common.{◌<◌, ◌∙◌, ap, map, subst, sym, arith}
use Rattle.std.specs.List.{AllByRecursion}
use Rattle.crossterm_read.specs.inside.Queues.{joined, member_kept, numbered_anew, queue_of}
use Rattle.crossterm_read.proofs.Joining.{are_joined, below_anew, joined_is, same_kept}
use Rattle.crossterm_read.proofs.read.held.queues.Queues.order_from.Goals as goal

pub returns-clause-joins : goal.returns-clause-joins
returns-clause-joins g c = are_joined (numbered_anew 0 (joined (queue_of c.args.self.now))) (queue_of c.renumber.new.self) c.renumber.ensures.order

pub returns-clause-same : goal.returns-clause-same
returns-clause-same g c =
    let all = joined (queue_of c.args.self.now) in
    ap (λ l. map member_kept l) (joined_is (numbered_anew 0 all) (queue_of c.renumber.new.self) c.renumber.ensures.order) ∙ same_kept 0 all

pub returns-clause-below : goal.returns-clause-below
returns-clause-below g c =
    let all = joined (queue_of c.args.self.now) in
    subst (λ l. AllByRecursion (λ m. m.order < c.renumber.result) l) (sym (joined_is (numbered_anew 0 all) (queue_of c.renumber.new.self) c.renumber.ensures.order))
    (let next = c.renumber.ensures.next in below_anew 0 c.renumber.result all (omega arith))
