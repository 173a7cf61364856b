-- A `ClearType` that is written as JSON is read back.
use Rattle.std.proofs.Common.{◌≡◌, Some, rules}
use Rattle.crossterm_flags.proofs.Ranks.{of_each}
use Rattle.crossterm_flags.specs.Variants.{value_in, variant}
use Rattle.crossterm.specs.Values.{clears}
use Rattle.crossterm.specs.contracts.terminal.ClearType as clear_enum
use Rattle.crossterm.specs.declared.terminal.ClearType.{ClearType}

pub clear_back : (c : ClearType) → value_in clears.rows (variant clears c) ≡ Some c
clear_back = of_each clear_enum.enum _ (search rules)
