use Rattle.std.proofs.Common.{refl, inl, inr}
use Rattle.crossterm_read.specs.Replies.{read_said}
use Rattle.crossterm_read.specs.PassViews.{knows}
use Rattle.example_contracts.proofs.passes.Client.next_within.Goals as goal

pub returns-in-Ok : goal.returns-in-Ok
returns-in-Ok g c = record { calls = (knows c.poll_by.new.pass, c.poll_by.result, c.poll_by.ensures.call, inr (read_said c.read_by.result, c.read_by.ensures.call)) }

pub returns-in-Err-read_by : goal.returns-in-Err-read_by
returns-in-Err-read_by g c = record { calls = (knows c.poll_by.new.pass, c.poll_by.result, c.poll_by.ensures.call, inr (read_said c.read_by.result, c.read_by.ensures.call)) }

pub returns-in-Ok-false : goal.returns-in-Ok-false
returns-in-Ok-false g c = record { calls = (knows c.poll_by.new.pass, c.poll_by.result, c.poll_by.ensures.call, inl refl) }

pub returns-in-Err : goal.returns-in-Err
returns-in-Err g c = record { calls = (knows c.poll_by.new.pass, c.poll_by.result, c.poll_by.ensures.call, inl refl) }
