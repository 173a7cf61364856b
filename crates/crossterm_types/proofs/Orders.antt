-- The derived comparisons are the declared orders.
use Rattle.std.proofs.Common.{◌≡◌, rules}
use denote.RattleType.{RattleType}
use mir.Syntax.{Dict}
use Rattle.std.specs.Ordering.{nat_cmp, ordering_then}
use Rattle.crossterm_flags.proofs.Ranks.{in_order, in_rank_order}
use Rattle.crossterm_flags.specs.Variants.{rank, rank_order}
use Rattle.crossterm_types.specs.Compared.{fields_cmp, key_cmp}
use Rattle.crossterm_types.specs.Normal.{normal}
use Rattle.crossterm_types.specs.Ranks.{code_holds, code_order, event_holds, event_order, event_rank, fields_order, internal_holds, internal_order, internal_rank, key_order, mouse_holds, mouse_kind_order, mouse_order}
use Rattle.crossterm_types.specs.Variants.{buttons, code_rank, kinds, media_keys, modifier_keys, mouse_rank}
use Rattle.std.specs.declared.alloc.Allocator.{Ghosts}
use Rattle.crossterm_types.specs.contracts.event.Event as events
use Rattle.crossterm_types.specs.contracts.event.EventOrd.TheImpl as event
use Rattle.crossterm_types.specs.contracts.event.InternalEvent as internals
use Rattle.crossterm_types.specs.contracts.event.InternalEventOrd.TheImpl as internal
use Rattle.crossterm_types.specs.contracts.event.key.KeyCode as codes
use Rattle.crossterm_types.specs.contracts.event.key.KeyCodeOrd.TheImpl as code
use Rattle.crossterm_types.specs.contracts.event.key.KeyEventKind as kind_enum
use Rattle.crossterm_types.specs.contracts.event.key.KeyEventKindOrd.TheImpl as kind
use Rattle.crossterm_types.specs.contracts.event.key.MediaKeyCode as medias
use Rattle.crossterm_types.specs.contracts.event.key.MediaKeyCodeOrd.TheImpl as media
use Rattle.crossterm_types.specs.contracts.event.key.ModifierKeyCode as modifiers
use Rattle.crossterm_types.specs.contracts.event.key.ModifierKeyCodeOrd.TheImpl as modifier
use Rattle.crossterm_types.specs.contracts.event.mouse.MouseButton as button_enum
use Rattle.crossterm_types.specs.contracts.event.mouse.MouseButtonOrd.TheImpl as button
use Rattle.crossterm_types.specs.contracts.event.mouse.MouseEventKind as mouse_kinds
use Rattle.crossterm_types.specs.contracts.event.mouse.MouseEventKindOrd.TheImpl as mouse_kind
use Rattle.crossterm_types.specs.contracts.event.mouse.MouseEventOrd.TheImpl as mouse
use Rattle.crossterm_types.specs.declared.event.Event.{Event}
use Rattle.crossterm_types.specs.declared.event.InternalEvent.{InternalEvent}
use Rattle.crossterm_types.specs.declared.event.key.KeyCode.{KeyCode}
use Rattle.crossterm_types.specs.declared.event.key.KeyEvent.{KeyEvent}
use Rattle.crossterm_types.specs.declared.event.key.KeyEventKind.{KeyEventKind}
use Rattle.crossterm_types.specs.declared.event.key.MediaKeyCode.{MediaKeyCode}
use Rattle.crossterm_types.specs.declared.event.key.ModifierKeyCode.{ModifierKeyCode}
use Rattle.crossterm_types.specs.declared.event.mouse.MouseButton.{MouseButton}
use Rattle.crossterm_types.specs.declared.event.mouse.MouseEvent.{MouseEvent}
use Rattle.crossterm_types.specs.declared.event.mouse.MouseEventKind.{MouseEventKind}

pub kinds_ordered : (a b : KeyEventKind) → kind.ghosts.cmp a b ≡ rank_order kinds a b
kinds_ordered = in_rank_order kind_enum.enum _ (rank kinds) (search rules)

pub media_ordered : (a b : MediaKeyCode) → media.ghosts.cmp a b ≡ rank_order media_keys a b
media_ordered = in_rank_order medias.enum _ (rank media_keys) (search rules)

pub modifiers_ordered : (a b : ModifierKeyCode) → modifier.ghosts.cmp a b ≡ rank_order modifier_keys a b
modifiers_ordered = in_rank_order modifiers.enum _ (rank modifier_keys) (search rules)

pub buttons_ordered : (a b : MouseButton) → button.ghosts.cmp a b ≡ rank_order buttons a b
buttons_ordered = in_rank_order button_enum.enum _ (rank buttons) (search rules)

pub mouse_kinds_ordered : (a b : MouseEventKind) → mouse_kind.ghosts.cmp a b ≡ mouse_kind_order a b
mouse_kinds_ordered = in_order mouse_kinds.enum _ mouse_rank mouse_holds (search (rules, buttons_ordered))

pub codes_ordered : (a b : KeyCode) → code.ghosts.cmp a b ≡ code_order a b
codes_ordered = in_order codes.enum _ code_rank code_holds (search (rules, media_ordered, modifiers_ordered))

fields_ordered : (a b : KeyEvent) → fields_cmp a b ≡ fields_order a b
fields_ordered a b i = ordering_then (codes_ordered a.code b.code i) (ordering_then (nat_cmp a.modifiers.0 b.modifiers.0) (ordering_then (kinds_ordered a.kind b.kind i) (nat_cmp a.state.0 b.state.0)))

pub keys_ordered : (a b : KeyEvent) → key_cmp a b ≡ key_order a b
keys_ordered a b = fields_ordered (normal a) (normal b)

pub mouse_ordered : (a b : MouseEvent) → mouse.ghosts.cmp a b ≡ mouse_order a b
mouse_ordered a b i =
    ordering_then (mouse_kinds_ordered a.kind b.kind i)
    (ordering_then (nat_cmp a.column b.column) (ordering_then (nat_cmp a.row b.row) (nat_cmp a.modifiers.0 b.modifiers.0)))

-- Those of events and replies, whatever the allocator of their texts.
module _ (A : RattleType) (allocator : Ghosts A.Denot) (allocating dropping : Dict) where
  pub events_ordered : (a b : Event A.Denot) → (event.ghosts A allocator allocating dropping).cmp a b ≡ event_order a b
  events_ordered = in_order (events.enum A allocator) _ event_rank event_holds (search (rules, keys_ordered, mouse_ordered))

  pub replies_ordered : (a b : InternalEvent A.Denot) → (internal.ghosts A allocator allocating dropping).cmp a b ≡ internal_order a b
  replies_ordered = in_order (internals.enum A allocator) _ internal_rank internal_holds (search (rules, events_ordered))
