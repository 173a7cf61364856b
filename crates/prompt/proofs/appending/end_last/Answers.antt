use Rattle.std.proofs.Common.{[], ◌∷◌, inl, inr, refl}
use Rattle.std.proofs.KnownBytes.{Appends-nil}
use Rattle.prompt.proofs.Appended.{ended_partly}
use Rattle.prompt.proofs.appending.end_last.Goals as goal

pub returns-then-not-may_end_within : goal.returns-then-not-may_end_within
returns-then-not-may_end_within g c = ([], inl refl, Appends-nil (g.F.Write.contents c.args.file.now))

pub returns-in-Ok : goal.returns-in-Ok
returns-in-Ok g c = (10 ∷ [], inr refl, c.in-Ok.ensures.ok)

pub returns-in-Err : goal.returns-in-Err
returns-in-Err g c = ended_partly _ _ c.in-Err.ensures.err
