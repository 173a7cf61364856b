use Rattle.std.proofs.Common.{◌≡◌, ◌++◌, All, map}
use Rattle.crossterm_read.specs.Shared.{IsPassOf, IsShareOf}
use Rattle.own_terminal.proofs.events.share_out.Given as goal

abbrev pub invariant-loop-pass : goal.invariant-loop-pass
invariant-loop-pass g l =
    (map (λ e. e.pass) l.made.items ++ l.pass-iterator.rest.items ≡ l.fn.passes.items)
    × All (λ p. IsPassOf l.reader p) l.pass-iterator.rest.items
    × All (λ e. IsShareOf e.reader l.reader) l.made.items
    × (goal.iterator-loop-pass g).can_next l.pass-iterator
    × (goal.iterator-loop-pass g).is_finite l.pass-iterator
