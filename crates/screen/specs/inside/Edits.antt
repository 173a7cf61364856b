-- What is written of a text.
use Rattle.std.specs.Prelude.{⊤, ℕ, List, [], ◌∷◌, Option, Some, None, flat_map, if◌then◌else◌}
use Rattle.screen.specs.declared.faults.CellFault.{CellFault}
use Rattle.screen.specs.declared.texts.Editing.{Editing}
use Rattle.screen.specs.declared.texts.Editing.TheVariants.{Replacing, WithoutMarks, Whole}
use Rattle.screen.specs.Cells.{IsPrinted, symbol_fault}
use Rattle.screen.specs.Marks.{takes_none}
use Rattle.screen.specs.Texts.{part_fault}

-- Why cells can't hold a character, or `None` if they can or it takes no column.
abbrev pub fault_unless_mark : ℕ → Option CellFault
fault_unless_mark c = if takes_none c then None else symbol_fault c

-- What is written of a part: nothing after a fault, otherwise all of it.
abbrev pub unless : Option CellFault → List ℕ → Option (List ℕ)
unless None p = Some p
unless (Some fault) p = None

-- What is written of a part: the replacement after a fault, otherwise all of it.
abbrev pub replaced_by : ℕ → Option CellFault → List ℕ → Option (List ℕ)
replaced_by replacement None p = Some p
replaced_by replacement (Some fault) p = Some (replacement ∷ [])

-- What is written of a part without its marks: nothing if cells can't hold its character, as one of no column.
abbrev pub without_its_marks : List ℕ → Option (List ℕ)
without_its_marks [] = None
without_its_marks (c ∷ marks) = unless (symbol_fault c) (c ∷ [])

-- What is written of a part.
abbrev pub edit : Editing → List ℕ → Option (List ℕ)
edit Whole p = unless (part_fault p) p
edit (Replacing replacement) p = replaced_by replacement (part_fault p) p
edit WithoutMarks p = without_its_marks p

-- A list of the part, or an empty list if there is none.
abbrev pub listed : Option (List ℕ) → List (List ℕ)
listed None = []
listed (Some p) = p ∷ []

-- What is written of the parts of a text.
abbrev pub edited : Editing → List (List ℕ) → List (List ℕ)
edited how text = flat_map (λ p. listed (edit how p)) text

-- If it replaces parts, it does so with a character that cells can hold.
abbrev pub IsEditing : Editing → Type 0
IsEditing (Replacing replacement) = IsPrinted replacement
IsEditing how = ⊤
