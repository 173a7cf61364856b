use Rattle.crossterm_flags.proofs.Ranks.{compares}
use Rattle.crossterm_style.specs.contracts.types.attribute.AttributeOrd.TheImpl.Laws as attribute
use Rattle.crossterm_style.specs.contracts.types.color.ColorOrd.TheImpl.Laws as color
use Rattle.crossterm_style.specs.contracts.types.colored.ColoredOrd.TheImpl.Laws as colored
use Rattle.crossterm_style.proofs.Orders as orders
use Rattle.crossterm_style.proofs.laws.declared_orders.Goals as goal

pub returns-clause-attributes : goal.returns-clause-attributes
returns-clause-attributes c = compares attribute.matches_partial_cmp-law orders.attributes_ordered

pub returns-clause-colors : goal.returns-clause-colors
returns-clause-colors c = compares color.matches_partial_cmp-law orders.colors_ordered

pub returns-clause-colored : goal.returns-clause-colored
returns-clause-colored c = compares colored.matches_partial_cmp-law orders.colored_ordered
