use Rattle.std.proofs.Common.{sym, arith}
use Rattle.test_input.proofs.PlainLaws.{found_none, next_open, next_whole}
use Rattle.test_input.proofs.plain.divide.Goals as goal
use Rattle.test_input.proofs.plain.divide.Goals.{then-is_whole_part+in_ok-give+in_ok-push-2, else-is_whole_part}

pub loop-marked-init : goal.loop-marked-init
loop-marked-init g c = rw (c.new-part.ensures.items, c.new-lengths.ensures.items, c.new-events.ensures.items) found_none

pub loop-marked-preserved : goal.loop-marked-preserved
loop-marked-preserved g c =
    elim c.if-is_whole_part.branch [
      | then-is_whole_part+in_ok-give+in_ok-push-2 w ↦
          rw (w.part-is, w.lengths-is, w.events-is, w.clear.ensures.items, w.in_ok-push-2.ensures.items, w.in_ok-give.ensures, w.deref-then-is_whole_part.ensures.value, w.len.ensures, c.push.new.self.ok.0)
          (next_whole _ _ _ _ _ _ _ (omega arith) c.loop-marked.invariant c.in_ok-push.ensures.items (sym (rw c.deref.ensures.value at w.if-is_whole_part.ensures)))
      | else-is_whole_part w ↦ rw (w.part-is, w.lengths-is, w.events-is)
          (next_open _ _ _ _ _ _ _ (omega arith) c.loop-marked.invariant c.in_ok-push.ensures.items (sym (rw c.deref.ensures.value at w.if-is_whole_part.ensures)))
    ]
