use Rattle.std.proofs.Common.{◌≡◌, arith, refl, sym, ap, subst, ◌∙◌}
use Rattle.crossterm_read.specs.Device.{IsAtOnce}
use Rattle.crossterm_read.specs.Steps.{UpTo}
use Rattle.crossterm_read.specs.Store.{ReaderState}
use Rattle.crossterm_read.proofs.Asking.{Asking, asking_none, asking_nothing, asked_broke, asked_refused, asked_tried, asks_none, asks_more}
use Rattle.crossterm_read.proofs.Newest.{asked_came}
use Rattle.crossterm_read.proofs.read.patience.TriesPatience.ask.Goals as goal

pub returns-in-Came-clause-asked : goal.returns-in-Came-clause-asked
returns-in-Came-clause-asked g c =
    asked_came g.row.A.Denot g.S.EventSource.drawn g.S.EventSource.failed g.met.S.EventSource.drawn_on _ _ _ c.loop-i.reader c.draw.new.self c.loop-i._i (UpTo c.args.self.now.most) _ c.loop-i.invariant.so_far (omega (arith, c.loop-i-test.true)) c.in-Came.ensures.one

pub returns-in-Came-clause-place : goal.returns-in-Came-clause-place
returns-in-Came-clause-place g c = c.in-Came.ensures.one.5

pub returns-in-Broke-clause-asked : goal.returns-in-Broke-clause-asked
returns-in-Broke-clause-asked g c =
    asked_broke g.row.A.Denot g.S.EventSource.drawn g.S.EventSource.failed g.met.S.EventSource.drawn_on _ _ _ c.loop-i.reader c.draw.new.self c.loop-i._i (UpTo c.args.self.now.most) c.in-Broke.error c.loop-i.invariant.so_far (omega (arith, c.loop-i-test.true)) c.in-Broke.ensures.one

pub loop-i-preserved : goal.loop-i-preserved
loop-i-preserved g c = record {
  limits = asks_more IsAtOnce _ _ _ _ c.loop-i.invariant.limits refl c.draw.ensures.asked;
  room = omega (arith, c.draw.ensures.room);
  rise = omega (arith, c.draw.ensures.rise);
  so_far = asking_nothing g.row.A.Denot g.S.EventSource.drawn g.S.EventSource.failed g.met.S.EventSource.drawn_on _ _ _ c.loop-i.reader c.draw.new.self c.loop-i._i c.loop-i.invariant.so_far c.in-Nothing.ensures.one;
}

pub loop-i-init : goal.loop-i-init
loop-i-init g c = record {
  so_far = asking_none g.row.A.Denot g.S.EventSource.drawn g.S.EventSource.failed g.met.S.EventSource.drawn_on _ _ g.met.S.EventSource.none_drawn c.args.reader.now c.args.reader.now refl c.requires.none;
  limits = asks_none IsAtOnce _;
  room = omega arith;
  rise = omega arith;
}

pub returns-in-Refused-clause-asked : goal.returns-in-Refused-clause-asked
returns-in-Refused-clause-asked g c =
    let so_far = subst (λ (t : ReaderState g.row.S.Denot). Asking g.row.A.Denot g.S.EventSource.drawn g.S.EventSource.failed g.met.S.EventSource.drawn_on c.args.at_wake (g.F.Filter.admits c.args.filter.now) c.args.reader.now t c.loop-i._i)
    (sym c.in-Refused.ensures.one) c.loop-i.invariant.so_far in
    let room = ap (λ (t : ReaderState g.row.S.Denot). t.room) c.in-Refused.ensures.one ∙ c.in-Refused.ensures.full tt in
    asked_refused g.row.A.Denot g.S.EventSource.drawn g.S.EventSource.failed g.met.S.EventSource.drawn_on _ _ c.args.reader.now c.draw.new.self c.loop-i._i (UpTo c.args.self.now.most) c.from.result so_far (omega (arith, c.loop-i-test.true)) c.from.ensures
    (omega (arith, c.in-Refused.ensures.room)) room

pub returns-clause-asked : goal.returns-clause-asked
returns-clause-asked g c =
    let all : c.loop-i._i ≡ c.args.self.now.most = omega arith in
    asked_tried g.row.A.Denot g.S.EventSource.drawn g.S.EventSource.failed g.met.S.EventSource.drawn_on _ _ c.args.reader.now c.loop-i.reader c.loop-i._i (UpTo c.args.self.now.most) c.loop-i.invariant.so_far all
