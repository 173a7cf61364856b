use Rattle.std.proofs.Common.{◌≡◌, inl, inr, refl, arith, rules}
use Rattle.prompt.specs.Histories.{line_start}
use Rattle.prompt.proofs.Appended.{none_taken}
use Rattle.prompt.proofs.appending.write_pending.Goals as goal
use Rattle.prompt.proofs.appending.write_pending.Goals.{then-not-cut, else-not-cut}

pub returns-in-Err-clause-err : goal.returns-in-Err-clause-err
returns-in-Err-clause-err g c = none_taken _ _ c.args.pending.now.items c.in-Err.ensures.bytes

pub returns-clause-err : goal.returns-clause-err
returns-clause-err g c =
    elim c.if-not-cut.branch [
      | then-not-cut w ↦
          let start : w.line_start-gone.result ≡ line_start c.args.pending.now.items c.in-Ok.taken = search rules in
          record {
            taken = c.in-Ok.taken;
            gone = w.line_start-gone.result;
            grown = search rules;
            few = w.line_start-gone.ensures.few;
            starts = inr start;
            rest = search rules;
          }
      | else-not-cut w ↦ record { taken = c.in-Ok.taken; gone = 0; grown = search rules; few = omega arith; starts = inl refl; rest = search rules }
    ]
