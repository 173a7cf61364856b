-- Marks in three characters, with 0 for none.
use Rattle.std.specs.Prelude.{◌==◌, ℕ, List, [], ◌∷◌, if◌then◌else◌}
use Rattle.screen.specs.declared.marks.Marks.TheInside.{Inside}

-- The marks that three characters encode: those before the first 0.
abbrev pub marked : Inside → List ℕ
marked a = if a.0 == 0 then [] else (if a.1 == 0 then a.0 ∷ [] else (if a.2 == 0 then a.0 ∷ a.1 ∷ [] else a.0 ∷ a.1 ∷ a.2 ∷ []))

-- The three characters of marks. A place without a mark has 0.
abbrev pub held : List ℕ → Inside
held [] = record { 0 = 0; 1 = 0; 2 = 0 }
held (a ∷ []) = record { 0 = a; 1 = 0; 2 = 0 }
held (a ∷ b ∷ []) = record { 0 = a; 1 = b; 2 = 0 }
held (a ∷ b ∷ c ∷ marks) = record { 0 = a; 1 = b; 2 = c }
