use Rattle.std.proofs.Common.{sym, subst, ap}
use Rattle.std.specs.List.{AllByRecursion}
use Rattle.line_editor.specs.Kills.{texts}
use Rattle.line_editor.specs.Shown.{AreRows}
use Rattle.line_editor.proofs.Acting.{fresh_of}
use Rattle.line_editor.proofs.editor.started.Goals as goal

pub returns : goal.returns
returns g c =
    fresh_of _ _ _ _ _ _ _ _ c.new-2.ensures c.new.ensures c.new-6.ensures c.new-7.ensures (ap texts c.new-3.ensures.items) c.new-4.ensures c.new-5.ensures.items

pub invariant_of-result : goal.invariant_of-result
invariant_of-result g c = subst (AllByRecursion AreRows) (sym (ap texts c.new-3.ensures.items)) tt
