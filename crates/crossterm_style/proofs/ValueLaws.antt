-- Attributes that are written are read back.
use Rattle.std.proofs.Common.{◌≡◌, Some, rules}
use Rattle.crossterm_flags.proofs.Ranks.{of_each}
use Rattle.crossterm_flags.specs.Variants.{value_in, variant}
use Rattle.crossterm_style.specs.Attributes.{attributes}
use Rattle.crossterm_style.specs.contracts.types.attribute.Attribute as attribute_enum
use Rattle.crossterm_style.specs.declared.types.attribute.Attribute.{Attribute}

pub attribute_back : (a : Attribute) → value_in attributes.rows (variant attributes a) ≡ Some a
attribute_back = of_each attribute_enum.enum _ (search rules)
