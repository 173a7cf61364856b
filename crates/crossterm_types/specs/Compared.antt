-- How keys compare: by the fields of their normal forms, the code first, then the modifiers, the kind and the state.
use Rattle.std.specs.Prelude.{Bool, ◌&&◌, ◌++◌}
use Rattle.std.specs.Hash.{HashWrites}
use Rattle.std.specs.Ordering.{on, ordering_then}
use Rattle.std.specs.declared.cmp.Ordering.{Ordering}
use Rattle.crossterm_flags.specs.contracts.modifiers.KeyModifiersHash.TheImpl as modifiers_hash
use Rattle.crossterm_flags.specs.contracts.modifiers.KeyModifiersOrd.TheImpl as modifiers_order
use Rattle.crossterm_flags.specs.contracts.modifiers.KeyModifiersPartialEq.TheImpl as modifiers
use Rattle.crossterm_flags.specs.contracts.state.KeyEventStateHash.TheImpl as state_hash
use Rattle.crossterm_flags.specs.contracts.state.KeyEventStateOrd.TheImpl as state_order
use Rattle.crossterm_flags.specs.contracts.state.KeyEventStatePartialEq.TheImpl as state
use Rattle.crossterm_types.specs.Normal.{normal}
use Rattle.crossterm_types.specs.contracts.event.key.KeyCodeHash.TheImpl as code_hash
use Rattle.crossterm_types.specs.contracts.event.key.KeyCodeOrd.TheImpl as code_order
use Rattle.crossterm_types.specs.contracts.event.key.KeyCodePartialEq.TheImpl as code
use Rattle.crossterm_types.specs.contracts.event.key.KeyEventKindHash.TheImpl as kind_hash
use Rattle.crossterm_types.specs.contracts.event.key.KeyEventKindOrd.TheImpl as kind_order
use Rattle.crossterm_types.specs.contracts.event.key.KeyEventKindPartialEq.TheImpl as kind
use Rattle.crossterm_types.specs.declared.event.key.KeyEvent.{KeyEvent}
use Rattle.crossterm_types.specs.declared.event.key.normal_key.NormalKey.{NormalKey}

-- True if two keys have equal fields.
abbrev pub fields_eq : KeyEvent → KeyEvent → Bool
fields_eq a b = code.ghosts.eq a.code b.code && (modifiers.ghosts.eq a.modifiers b.modifiers && (kind.ghosts.eq a.kind b.kind && state.ghosts.eq a.state b.state))

-- The order of two keys' fields.
abbrev pub fields_cmp : KeyEvent → KeyEvent → Ordering
fields_cmp a b = ordering_then (code_order.ghosts.cmp a.code b.code) (ordering_then (modifiers_order.ghosts.cmp a.modifiers b.modifiers) (ordering_then (kind_order.ghosts.cmp a.kind b.kind) (state_order.ghosts.cmp a.state b.state)))

-- The fields of a key, as they are fed to a hasher.
abbrev pub fields_hash : KeyEvent → HashWrites
fields_hash key = code_hash.ghosts.hash_input key.code ++ (modifiers_hash.ghosts.hash_input key.modifiers ++ (kind_hash.ghosts.hash_input key.kind ++ state_hash.ghosts.hash_input key.state))

-- True if the normal forms of two keys have equal fields.
abbrev pub key_eq : KeyEvent → KeyEvent → Bool
key_eq = on normal fields_eq

-- The order of two keys: that of the fields of their normal forms.
abbrev pub key_cmp : KeyEvent → KeyEvent → Ordering
key_cmp = on normal fields_cmp

-- The fields of a key's normal form, as they are fed to a hasher.
abbrev pub key_hash : KeyEvent → HashWrites
key_hash key = fields_hash (normal key)

-- The fields of a key.
abbrev pub key_fields : KeyEvent → NormalKey
key_fields key = record { code = key.code; modifiers = key.modifiers; kind = key.kind; state = key.state }

-- The fields of a key's normal form.
abbrev pub compared : KeyEvent → NormalKey
compared key = key_fields (normal key)
