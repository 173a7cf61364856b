use Rattle.std.proofs.Common.{rules, arith}
use Rattle.crossterm_types.specs.Seen.{seen, Key}
use Rattle.crossterm_parse.proofs.FirstLaws.{first_in_front, first_waits}
use Rattle.crossterm_parse.proofs.parse.Parser.take_first.Goals as goal

pub returns-then-not-is_empty-clause-first : goal.returns-then-not-is_empty-clause-first
returns-then-not-is_empty-clause-first g c =
    let next = c.next.ensures in
    first_waits seen c.args.self.now c.next.new.self c.args.piece.now c.args.more c.args.raw c.next.result (search rules) (search rules) next.some next.represents next.room

pub returns-in-Some-clause-first : goal.returns-in-Some-clause-first
returns-in-Some-clause-first g c =
    first_in_front c.args.self.now c.args.piece.now c.args.more c.args.raw (Key c.in-Some.key) 1 (search rules) (omega (arith, c.in-Some.ensures.some)) (c.in-Some.ensures.advances c.args.more)
