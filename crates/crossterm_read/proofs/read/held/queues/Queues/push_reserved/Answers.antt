use Rattle.std.proofs.Common.{arith}
use Rattle.crossterm_read.specs.declared.read.held.kind.Kind.TheVariants.{Event, Cursor, Flags, Attributes}
use Rattle.crossterm_read.proofs.read.held.queues.Queues.push_reserved.Goals as goal

pub push_back_reserved-requires : goal.push_back_reserved-requires
push_back_reserved-requires g c = let e = c.args.self.now.events.ok.0 in let h = c.requires.2 Event in let r = c.requires.1.0 in omega arith

pub push_back_reserved-requires-in-Cursor : goal.push_back_reserved-requires-in-Cursor
push_back_reserved-requires-in-Cursor g c = let e = c.args.self.now.cursors.ok.0 in let h = c.requires.2 Cursor in let r = c.requires.1.1 in omega arith

pub push_back_reserved-requires-in-Flags : goal.push_back_reserved-requires-in-Flags
push_back_reserved-requires-in-Flags g c = let e = c.args.self.now.flags.ok.0 in let h = c.requires.2 Flags in let r = c.requires.1.2 in omega arith

pub push_back_reserved-requires-in-Attributes : goal.push_back_reserved-requires-in-Attributes
push_back_reserved-requires-in-Attributes g c = let e = c.args.self.now.attributes.ok.0 in let h = c.requires.2 Attributes in let r = c.requires.1.3 in omega arith
