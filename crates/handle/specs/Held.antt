-- What a handle of C's owns.
use Rattle.std.specs.Prelude.{Option, Some, None}
use Rattle.std.specs.Box.Ownership.{box_owns}
use base.Fml.{Fml, ftrue}
use mir.Syntax.{Ty}
use denote.RattleType.{RattleType}
use denote.RawPtr.{Ptr}
use Rattle.std.specs.contracts.impls.GlobalAllocator.TheImpl.{ghosts}

-- The block at the pointer, of a type, may be freed: it is one of the C library's heap.
abbrev pub may_free : Ty → Ptr → Fml
may_free = ghosts.dealloc_token (record { memory = record { seal = tt } })

-- The place of a handle owns nothing before there is one, and then the box behind its pointer.
abbrev pub slot_owns : (K : RattleType) → Ptr → Option K.Denot → Fml
slot_owns K at None = ftrue
slot_owns K at (Some value) = box_owns may_free K at value
