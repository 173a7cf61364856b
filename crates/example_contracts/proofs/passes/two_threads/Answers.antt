use Rattle.crossterm_read.specs.PassViews.{knows}
use Rattle.example_contracts.proofs.Apart.{apart}
use Rattle.example_contracts.proofs.passes.two_threads.Goals as goal

pub returns : goal.returns
returns g c =
    let a = c.join-x.ensures.first.1 in
    let b = c.join-x.ensures.second.1 in
    apart g.S.EventSource.drawn _ _ a.0 b.0 _ _ (λ o e t m. m.reply) (λ o e t m. m.reply) a.1 b.1
    (knows c.args.one) (knows c.join-x.result.0.0) (knows c.args.other) (knows c.join-x.result.1.0) (knows c.meet.new.one) c.args.one.sits.number c.args.other.sits.number c.requires.alike c.meet.new.one.sits a.2 b.2 c.meet.ensures.meets
