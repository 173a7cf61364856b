-- The cells before the place are styled.
use Rattle.screen.proofs.Styling.{IsStyled}
use Rattle.screen.proofs.areas.style_cells.Given as goal

abbrev pub invariant-loop-at : goal.invariant-loop-at
invariant-loop-at l = IsStyled l.width l.area l.fn.style l.fn.cells l.at l.cells
