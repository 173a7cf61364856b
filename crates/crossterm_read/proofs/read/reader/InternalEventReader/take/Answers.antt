use Rattle.crossterm_read.proofs.read.reader.InternalEventReader.take.Goals as goal

pub returns-clause-step : goal.returns-clause-step
returns-clause-step g c = (_, c.take_numbered.ensures.step, c.unnumbered.ensures)
