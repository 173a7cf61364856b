use Rattle.crossterm_flags.proofs.Ranks.{compares}
use Rattle.crossterm_types.specs.contracts.event.key.KeyCodeOrd.TheImpl.Laws as code
use Rattle.crossterm_types.specs.contracts.event.key.KeyEventKindOrd.TheImpl.Laws as kind
use Rattle.crossterm_types.specs.contracts.event.key.MediaKeyCodeOrd.TheImpl.Laws as media
use Rattle.crossterm_types.specs.contracts.event.key.ModifierKeyCodeOrd.TheImpl.Laws as modifier
use Rattle.crossterm_types.specs.contracts.event.key.normal.KeyEventOrd.TheImpl.Laws as key
use Rattle.crossterm_types.specs.contracts.event.mouse.MouseButtonOrd.TheImpl.Laws as button
use Rattle.crossterm_types.specs.contracts.event.mouse.MouseEventKindOrd.TheImpl.Laws as mouse_kind
use Rattle.crossterm_types.specs.contracts.event.mouse.MouseEventOrd.TheImpl.Laws as mouse
use Rattle.crossterm_types.proofs.Orders as orders
use Rattle.crossterm_types.proofs.event.laws.declared_orders.Goals as goal

pub returns-clause-kinds : goal.returns-clause-kinds
returns-clause-kinds c = compares kind.matches_partial_cmp-law orders.kinds_ordered

pub returns-clause-media : goal.returns-clause-media
returns-clause-media c = compares media.matches_partial_cmp-law orders.media_ordered

pub returns-clause-modifiers : goal.returns-clause-modifiers
returns-clause-modifiers c = compares modifier.matches_partial_cmp-law orders.modifiers_ordered

pub returns-clause-codes : goal.returns-clause-codes
returns-clause-codes c = compares code.matches_partial_cmp-law orders.codes_ordered

pub returns-clause-keys : goal.returns-clause-keys
returns-clause-keys c = compares key.matches_partial_cmp-law orders.keys_ordered

pub returns-clause-buttons : goal.returns-clause-buttons
returns-clause-buttons c = compares button.matches_partial_cmp-law orders.buttons_ordered

pub returns-clause-mouse_kinds : goal.returns-clause-mouse_kinds
returns-clause-mouse_kinds c = compares mouse_kind.matches_partial_cmp-law orders.mouse_kinds_ordered

pub returns-clause-mouse : goal.returns-clause-mouse
returns-clause-mouse c = compares mouse.matches_partial_cmp-law orders.mouse_ordered
