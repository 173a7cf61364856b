use Rattle.crossterm_read.specs.PassViews.{knows}
use Rattle.example_contracts.proofs.Apart.{apart}
use Rattle.example_contracts.proofs.passes.two_reads.Goals as goal

pub returns : goal.returns
returns g c =
    let a = c.read_by-a.ensures.call in
    let b = c.read_by-b.ensures.call in
    apart g.S.EventSource.drawn _ _ a.0 b.0 _ _ (λ o e t m. m.reply) (λ o e t m. m.reply) a.1 b.1
    (knows c.args.one.now) (knows c.read_by-a.new.pass) (knows c.args.other) (knows c.read_by-b.new.pass) (knows c.meet.new.one) c.args.one.now.sits.number c.args.other.sits.number c.requires.alike c.meet.new.one.sits a.2 b.2 c.meet.ensures.meets
