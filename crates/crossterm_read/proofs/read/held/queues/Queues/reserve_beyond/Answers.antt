use Rattle.std.proofs.Common.{arith}
use Rattle.crossterm_read.specs.declared.read.held.kind.Kind.TheVariants.{Event, Cursor, Flags, Attributes}
use Rattle.crossterm_read.proofs.read.held.queues.Queues.reserve_beyond.Goals as goal

pub reserve_beyond-requires : goal.reserve_beyond-requires
reserve_beyond-requires g c = let e = c.args.self.now.events.ok.0 in let h = c.requires Event in omega arith

pub reserve_beyond-requires-2 : goal.reserve_beyond-requires-2
reserve_beyond-requires-2 g c = let e = c.args.self.now.cursors.ok.0 in let h = c.requires Cursor in omega arith

pub reserve_beyond-requires-3 : goal.reserve_beyond-requires-3
reserve_beyond-requires-3 g c = let e = c.args.self.now.flags.ok.0 in let h = c.requires Flags in omega arith

pub reserve_beyond-requires-4 : goal.reserve_beyond-requires-4
reserve_beyond-requires-4 g c = let e = c.args.self.now.attributes.ok.0 in let h = c.requires Attributes in omega arith
