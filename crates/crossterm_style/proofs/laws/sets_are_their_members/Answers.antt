use Rattle.std.proofs.Common.{ℕ, ap}
use Rattle.crossterm_style.specs.AttributeSet.{AttributeSet}
use Rattle.crossterm_style.specs.Attributes.{has_attribute}
use Rattle.crossterm_style.proofs.SetMembers.{same_members}
use Rattle.crossterm_style.proofs.laws.sets_are_their_members.Goals as goal

pub returns : goal.returns
returns c =
    let set = λ (bits : ℕ). let s : AttributeSet = record { 0 = bits } in s in (
      λ e a. ap (λ (s : AttributeSet). has_attribute s.0 a) e,
      λ same. ap set (same_members c.args.left.0 c.args.right.0 c.known.ensures c.known-2.ensures same),
    )
