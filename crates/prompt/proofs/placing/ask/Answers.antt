use Rattle.crossterm_types.specs.Timing.{IsFirst}
use Rattle.crossterm_read.specs.PassViews.{knows}
use Rattle.crossterm.specs.Asking.{position_query}
use Rattle.std.proofs.Common.{inl}
use Rattle.prompt.proofs.Querying as querying
use Rattle.prompt.proofs.Turning.{asks}
use Rattle.prompt.proofs.placing.ask.Goals as goal

pub returns-in-Ok-clause-asked : goal.returns-in-Ok-clause-asked
returns-in-Ok-clause-asked g c =
    asks g.S.EventSource.drawn g.S.EventSource.asked _ _ _ _ _ (g.W.Write.contents c.args.tty.now.out) (g.W.Write.contents c.position.new.self.out) position_query
    (IsFirst g.C.Clock.latest g.C.Clock.began c.args.tty.now.clock c.position.new.self.clock) (g.C.Clock.latest c.position.new.self.clock)
    (knows c.args.tty.now.pass) (knows c.position.new.self.pass) c.position.result c.position.ensures.query

pub returns-then-eq-clause-asked : goal.returns-then-eq-clause-asked
returns-then-eq-clause-asked g c =
    asks g.S.EventSource.drawn g.S.EventSource.asked _ _ _ _ _ (g.W.Write.contents c.args.tty.now.out) (g.W.Write.contents c.position.new.self.out) position_query
    (IsFirst g.C.Clock.latest g.C.Clock.began c.args.tty.now.clock c.position.new.self.clock) (g.C.Clock.latest c.position.new.self.clock)
    (knows c.args.tty.now.pass) (knows c.position.new.self.pass) c.position.result c.position.ensures.query

pub returns-else-eq-clause-asked : goal.returns-else-eq-clause-asked
returns-else-eq-clause-asked g c =
    asks g.S.EventSource.drawn g.S.EventSource.asked _ _ _ _ _ (g.W.Write.contents c.args.tty.now.out) (g.W.Write.contents c.position.new.self.out) position_query
    (IsFirst g.C.Clock.latest g.C.Clock.began c.args.tty.now.clock c.position.new.self.clock) (g.C.Clock.latest c.position.new.self.clock)
    (knows c.args.tty.now.pass) (knows c.position.new.self.pass) c.position.result c.position.ensures.query

pub returns-in-Ok-clause-query : goal.returns-in-Ok-clause-query
returns-in-Ok-clause-query g c =
    inl (
      c.if-not-rows.false,
      querying.asks _ _ _ _ _ (g.W.Write.contents c.args.tty.now.out) (g.W.Write.contents c.position.new.self.out) position_query
          _ _ _ c.position.result c.position.ensures.query,
    )

pub returns-then-eq-clause-query : goal.returns-then-eq-clause-query
returns-then-eq-clause-query g c =
    inl (
      c.if-not-rows.false,
      querying.asks _ _ _ _ _ (g.W.Write.contents c.args.tty.now.out) (g.W.Write.contents c.position.new.self.out) position_query
          _ _ _ c.position.result c.position.ensures.query,
    )

pub returns-else-eq-clause-query : goal.returns-else-eq-clause-query
returns-else-eq-clause-query g c =
    inl (
      c.if-not-rows.false,
      querying.asks _ _ _ _ _ (g.W.Write.contents c.args.tty.now.out) (g.W.Write.contents c.position.new.self.out) position_query
          _ _ _ c.position.result c.position.ensures.query,
    )
