use Rattle.std.proofs.Common.{◌≡◌, ◌++◌}
use Rattle.std.specs.List.{filter}
use Rattle.crossterm_style.specs.Attributes.{all_attributes, of_list}
use Rattle.numbers.specs.Style.{includes}
use Rattle.numbers.proofs.style.known_in.Given as goal

-- The attributes before this one were gathered.
abbrev pub invariant-loop-attribute : goal.invariant-loop-attribute
invariant-loop-attribute l = record {
  set : l.set.0 ≡ l.known;
  bits : l.known ≡ of_list (filter (includes l.bits) l.yielded);
  joined : l.yielded ++ l.attribute-iterator ≡ all_attributes;
}
