-- The buffer has the size that it had, and a picture was made.
use Rattle.std.proofs.Common.{◌≡◌}
use Rattle.prompt.specs.Pictures.{IsPicture}
use Rattle.prompt.proofs.filling.fit.Given as goal

abbrev pub invariant-loop-columns : goal.invariant-loop-columns
invariant-loop-columns g l = record {
  size : (l.buffer.width ≡ l.fn.buffer.width) × (l.buffer.height ≡ l.fn.buffer.height);
  picture : IsPicture l.fn.buffer.width l.fn.what l.buffer l.filled.column l.filled.has_hint;
}
