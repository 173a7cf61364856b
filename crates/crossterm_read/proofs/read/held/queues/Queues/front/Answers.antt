use Rattle.std.proofs.Common.{rules, ◌≡◌, ◌∷◌, ◌∙◌, refl, true, suc, drop, subst, sym, arith}
use Rattle.crossterm_read.specs.inside.Queues.{NotBefore, behind, queue_of}
use Rattle.crossterm_read.proofs.Joining.{drop_at}
use Rattle.crossterm_read.proofs.read.held.queues.Queues.front.Goals as goal

pub returns : goal.returns
returns g c =
    let m = c.in_ok-member.member.now in
    let items = c.queue.result.now.items in
    let length_is = c.queue.result.now.ok.0 in
    let here = drop_at items c.of.result m (let low = c.in_ok-member.ensures.variant.0 (refl {a = true}) in omega arith) c.in_ok-member.ensures.lookup in
    let at : behind (queue_of c.args.self.now) c.args.at c.args.kind ≡ m ∷ drop (suc c.of.result) items = (λ i. drop (sym c.of.ensures i) (sym c.queue.ensures i)) ∙ here in
    (search rules, (drop (suc c.of.result) items, at), (λ w. subst (λ l. NotBefore m.order l) (sym at) (omega arith), tt))
