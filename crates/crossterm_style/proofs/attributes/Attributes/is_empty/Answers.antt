use Rattle.crossterm_style.proofs.SetMembers.{no_members}
use Rattle.crossterm_style.proofs.attributes.Attributes.is_empty.Goals as goal

pub returns-clause-members : goal.returns-clause-members
returns-clause-members c = rw c.has_no_bits.ensures (no_members c.args.self.0 c.known.ensures)
