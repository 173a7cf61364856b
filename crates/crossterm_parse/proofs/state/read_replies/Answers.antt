use Rattle.std.proofs.Common.{sym, subst, take, refl}
use Rattle.std.proofs.lemmas.List.{take_more}
use Rattle.crossterm_parse.specs.Transitions.{Opens}
use Rattle.crossterm_parse.specs.declared.state.State.TheVariants.{Reply}
use Rattle.crossterm_parse.proofs.RunLaws.{opens_more}
use Rattle.crossterm_parse.proofs.state.read_replies.Goals as goal

pub loop-i-preserved : goal.loop-i-preserved
loop-i-preserved c = subst (Opens (Reply c.args.number.now) (Reply c.read_reply.new.number)) (sym (take_more c.args.bytes.now c.loop-i.i 0 c.loop-i-test.true))
    (opens_more (Reply c.args.number.now) (Reply c.loop-i.number) (Reply c.read_reply.new.number) (take c.loop-i.i c.args.bytes.now) _ c.loop-i.invariant (c.read_reply.ensures.yes c.if-not-read_reply.false) refl)
