use Rattle.std.proofs.Common.{◌≡◌, ◌≤◌, drop, ◌-◌, length}
use Rattle.crossterm_read.specs.Scripted.{device_answers_from}
use Rattle.crossterm_read.proofs.source.script.ScriptDevice.answer.Given as goal

abbrev pub invariant-loop-self : goal.invariant-loop-self
invariant-loop-self g l = record {
  left : device_answers_from (drop l.self-inside.next l.self-inside.acts.items) l.self-inside.at ≡ l.fn.self.left;
  failed : l.self-inside.failures ≡ l.fn.self.failed;
  within : l.self-inside.failures ≤ l.self-inside.next;
}

abbrev pub decreases-loop-self : goal.decreases-loop-self
decreases-loop-self g l = length l.self-inside.acts.items - l.self-inside.next
