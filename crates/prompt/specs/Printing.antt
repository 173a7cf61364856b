-- Which printers print at the same prompts.
use Rattle.std.specs.Prelude.{◌≡◌}
use Rattle.std.specs.Arc.{arc_value}
use Rattle.crossterm_read.specs.Waking.{WakesAs}
use Rattle.prompt.specs.declared.printer.Printer.{Printer}

-- What both hand over goes to one queue, and both wake the same.
abbrev pub PrintsAs : Printer → Printer → Type 0
PrintsAs p q = (arc_value p.notes ≡ arc_value q.notes) × WakesAs p.waker q.waker
