-- Control sequences by their parameters and their final letter.
use Rattle.std.specs.Prelude.{ℕ, List, [], ◌∷◌, ◌++◌, codes}
use Prim.Native.String.{String}
use Rattle.crossterm_command.specs.Tokens.{Token}
use Rattle.crossterm_command.specs.Tokens.Token.{Csi, Private}

-- The first code of a text; 0 of an empty one.
abbrev first_of : List ℕ → ℕ
first_of [] = 0
first_of (c ∷ cs) = c

-- The code of a letter.
abbrev pub letter : String → ℕ
letter text = first_of (codes text)

-- A control sequence of these parameters and this final letter, without intermediate bytes.
abbrev pub control : List ℕ → String → List Token
control parameters final = Csi parameters [] (letter final) ∷ []

-- Sets a private mode of the terminal, as `ESC [ ?25h` sets mode 25.
abbrev pub set : String → List Token
set mode = control (codes "?" ++ codes mode) "h"

-- Resets a private mode of the terminal, as `ESC [ ?25l` resets mode 25.
abbrev pub reset : String → List Token
reset mode = control (codes "?" ++ codes mode) "l"

-- A private function: ESC and this byte.
abbrev pub private : String → List Token
private text = Private (letter text) ∷ []
