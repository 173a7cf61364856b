-- The first cell of a screen.
use Rattle.std.proofs.Common.{◌≡◌, ◌++◌, refl, codes}
use Rattle.std.specs.Fmt.{digits}
use Rattle.crossterm_command.specs.Tokens.{text_of}
use Rattle.crossterm.specs.Sequences.{move_to}

-- Its row and its column are 1.
pub first_cell : text_of (move_to 0 0) ++ codes "ab" ≡ codes "\u{1b}[1;1Hab"
unfolding digits
first_cell = refl
