-- A shared reader and its passes, as clauses see them.
use Rattle.std.specs.Prelude.{◌≡◌}
use Rattle.std.specs.Arc.{arc_value}
use Rattle.crossterm_read.specs.PassViews.{IsInSlot}
use Rattle.crossterm_read.specs.declared.read.shared.pass.Pass.{Pass}
use Rattle.crossterm_read.specs.declared.read.shared.reader.EventReader.{EventReader}

module _ {S A : Type 0} where
  -- The pass came from the `new` of this reader, or of the one that it shares, and it doesn't have the reader.
  abbrev pub IsPassOf : EventReader S A → Pass S A → Type 0
  IsPassOf r p = IsInSlot (arc_value r.slot).queue p

  -- Both are shares of one reader.
  abbrev pub IsShareOf : EventReader S A → EventReader S A → Type 0
  IsShareOf r s = (arc_value r.slot).queue.table.shared.table_id ≡ (arc_value s.slot).queue.table.shared.table_id
