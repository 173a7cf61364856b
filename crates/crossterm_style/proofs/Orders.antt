-- The derived comparisons are the declared orders.
use Rattle.std.proofs.Common.{◌≡◌, rules}
use Rattle.crossterm_flags.proofs.Ranks.{in_order, in_rank_order}
use Rattle.crossterm_flags.specs.Variants.{rank_order}
use Rattle.crossterm_style.specs.Attributes.{attributes, attribute_index}
use Rattle.crossterm_style.specs.Ranks.{color_holds, color_order, color_rank, colored_holds, colored_order, colored_rank}
use Rattle.crossterm_style.specs.contracts.types.attribute.Attribute as attribute_enum
use Rattle.crossterm_style.specs.contracts.types.attribute.AttributeOrd.TheImpl as attribute
use Rattle.crossterm_style.specs.contracts.types.color.Color as colors
use Rattle.crossterm_style.specs.contracts.types.color.ColorOrd.TheImpl as color
use Rattle.crossterm_style.specs.contracts.types.colored.Colored as places
use Rattle.crossterm_style.specs.contracts.types.colored.ColoredOrd.TheImpl as colored
use Rattle.crossterm_style.specs.declared.types.attribute.Attribute.{Attribute}
use Rattle.crossterm_style.specs.declared.types.color.Color.{Color}
use Rattle.crossterm_style.specs.declared.types.colored.Colored.{Colored}

pub attributes_ordered : (a b : Attribute) → attribute.ghosts.cmp a b ≡ rank_order attributes a b
attributes_ordered = in_rank_order attribute_enum.enum _ attribute_index (search rules)

pub colors_ordered : (a b : Color) → color.ghosts.cmp a b ≡ color_order a b
colors_ordered = in_order colors.enum _ color_rank color_holds (search rules)

pub colored_ordered : (a b : Colored) → colored.ghosts.cmp a b ≡ colored_order a b
colored_ordered = in_order places.enum _ colored_rank colored_holds (search (rules, colors_ordered))
