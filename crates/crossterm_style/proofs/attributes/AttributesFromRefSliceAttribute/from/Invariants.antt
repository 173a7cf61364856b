-- The set has the attributes so far.
use Rattle.std.proofs.Common.{◌≡◌, take}
use Rattle.crossterm_style.specs.Attributes.{of_list}
use Rattle.crossterm_style.proofs.attributes.AttributesFromRefSliceAttribute.from.Given as goal

abbrev pub invariant-loop-attribute : goal.invariant-loop-attribute
invariant-loop-attribute l = l.attributes.0 ≡ of_list (take l.attribute-index l.all)
