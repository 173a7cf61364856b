-- The attributes so far that are in the set have been written.
use Rattle.std.proofs.Common.{take, flat_map}
use Rattle.std.specs.List.{filter}
use Rattle.std.specs.Fmt.{WritesInCalls}
use Rattle.crossterm_style.specs.Attributes.{has_attribute}
use Rattle.crossterm_style.proofs.Members.{attribute_text}
use Rattle.crossterm_style.proofs.commands.attributes.SetAttributesCommand.write_ansi.Given as goal

abbrev pub invariant-loop-attribute : goal.invariant-loop-attribute
invariant-loop-attribute g l = WritesInCalls g.W.Write.write_str_gives l.initial.f (flat_map attribute_text (filter (has_attribute l.self.0.0) (take l.attribute-index l.attribute-items))) l.f
