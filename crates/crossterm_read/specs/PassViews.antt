-- A pass, as clauses see it.
use Rattle.std.specs.Prelude.{◌≡◌, ℕ, false}
use Rattle.crossbeam_queue.specs.Passes.{view}
use Rattle.crossbeam_queue.specs.declared.array_queue.Slotted.{Slotted}
use Rattle.crossterm_read.specs.History.{Known}
use Rattle.crossterm_read.specs.declared.read.shared.pass.Pass.{Pass}

module _ {S A : Type 0} where
  -- The knowledge of the pass.
  abbrev pub knows : Pass S A → Known S
  knows p = view p.slot_pass

  -- The number of the pass.
  abbrev pub pass_number : Pass S A → ℕ
  pass_number p = (knows p).number

-- The pass belongs to this slot, and it doesn't have the reader.
abbrev pub IsInSlot : {S A T V Q : Type 0} → Slotted T V Q A → Pass S A → Type 0
IsInSlot slot p = (p.slot_pass.table_id ≡ slot.table.shared.table_id) × ((knows p).has ≡ false)
