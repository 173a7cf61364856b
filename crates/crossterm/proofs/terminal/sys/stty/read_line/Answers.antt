use Rattle.std.proofs.Common.{◌∷◌, ◌++◌, ◌≢◌, []}
use Rattle.std.proofs.KnownBytes.{Consumes-trans}
use Rattle.std.proofs.SliceLists.{all_by_recursion_push}
use Rattle.crossterm.proofs.terminal.sys.stty.read_line.Goals as goal

pub returns-then-byte-gt127-clause-err : goal.returns-then-byte-gt127-clause-err
returns-then-byte-gt127-clause-err g c = (
  c.loop.text.bytes ++ c.in-Ok.byte ∷ [],
  Consumes-trans _ _ _ _ _ c.loop.invariant.consumed c.in-Ok.ensures.ok,
  all_by_recursion_push (λ byte. byte ≢ 10) c.loop.text.bytes c.in-Ok.byte c.loop.invariant.endless c.in-Ok.byte-test.1,
)
