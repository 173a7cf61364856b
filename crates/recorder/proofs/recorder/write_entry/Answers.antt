use Rattle.std.proofs.Common.{rules}
use Rattle.recorder.proofs.Entering.{cut_before, nothing_written, part_written}
use Rattle.recorder.proofs.recorder.write_entry.Goals as goal

pub returns-then-is_err : goal.returns-then-is_err
returns-then-is_err g c = nothing_written _ _ _

pub returns-then-not-take_room : goal.returns-then-not-take_room
returns-then-not-take_room g c = cut_before _ _ _ _ (search rules) (c.if-not-take_room.ensures.full (search rules))

pub returns-in-Err : goal.returns-in-Err
returns-in-Err g c = part_written _ _ _ _ _ _ (search rules) (c.take_room.ensures.uses (search rules)) (search rules)
