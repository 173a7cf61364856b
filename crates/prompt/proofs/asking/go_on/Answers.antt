use Rattle.std.proofs.Common.{refl}
use Rattle.crossterm_read.specs.PassViews.{knows}
use Rattle.prompt.specs.Asking.{unread}
use Rattle.prompt.proofs.asking.go_on.Goals as goal

pub loop-init : goal.loop-init
loop-init g c = record { goes = unread; shown = λ out may h. record { goes = unread; tabs = refl; listed = refl; written = h }; fewer = λ is. is; features = refl; mode = λ _. refl; can = tt; ends = tt }

pub returns-in-Failed-clause-err : goal.returns-in-Failed-clause-err
returns-in-Failed-clause-err g c = c.in-Failed.ensures.leads (knows c.args.tty.now.pass) c.args.editor.now c.loop.invariant.goes

pub returns-in-Failed-clause-cut : goal.returns-in-Failed-clause-cut
returns-in-Failed-clause-cut g c out may h =
    c.in-Failed.ensures.written (knows c.args.tty.now.pass) c.args.editor.now out (λ is. may (c.loop.invariant.fewer is)) (c.loop.invariant.shown out may h)

pub returns-in-Ended-clause-written : goal.returns-in-Ended-clause-written
returns-in-Ended-clause-written g c out may h =
    c.in-Ended.ensures.written (knows c.args.tty.now.pass) c.args.editor.now out (λ is. may (c.loop.invariant.fewer is)) (c.loop.invariant.shown out may h)
