use Rattle.crossterm_read.specs.PassViews.{knows}
use Rattle.own_terminal.proofs.Beginning.{begins_over}
use Rattle.own_terminal.proofs.session.Session+DeviceSource+I+D+W+C.over.Goals as goal

pub returns-clause-begins : goal.returns-clause-begins
returns-clause-begins g c =
    let new = c.new-source.ensures in
    begins_over (λ s. knows s.pass) c.args.device c.new-source.result (record { waiting = new.waiting; represents = new.represents; untaken = new.untaken }) new.device c.over_source.result c.over_source.ensures.begins
