use Rattle.std.proofs.Common.{refl}
use Rattle.crossterm_read.specs.Shared.{IsPassOf, IsShareOf}
use Rattle.own_terminal.proofs.Shares.{made_on}
use Rattle.own_terminal.proofs.events.share_out.Goals as goal

-- src/events.rt:99:5
pub loop-pass-preserved : goal.loop-pass-preserved
loop-pass-preserved g c =
    let i = c.loop-pass.invariant in
    let m = made_on (λ e. e.pass) (λ p. IsPassOf c.args.reader.now p) (λ e. IsShareOf e.reader c.args.reader.now)
    c.loop-pass.made.items c.push.new.self.items c.loop-pass.pass-iterator.rest.items c.next.new.self.rest.items c.args.passes.items
    c.in-Some.pass _
    i.0 i.1 i.2 c.in-Some.ensures.steps.0 c.in_ok-push.ensures.items refl c.in_ok-reader.ensures.ok in
    (m.0, m.1, m.2, tt, tt)
