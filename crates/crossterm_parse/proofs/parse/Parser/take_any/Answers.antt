use Rattle.std.proofs.Common.{arith}
use Rattle.crossterm_types.specs.Seen.{seen}
use Rattle.crossterm_parse.proofs.FirstLaws.{first_in_front, first_kept}
use Rattle.crossterm_parse.proofs.parse.Parser.take_any.Goals as goal

pub returns-in-Some : goal.returns-in-Some
returns-in-Some g c =
    first_in_front c.args.self.now c.args.piece.now c.args.more c.args.raw (seen c.in-Some.event) c.in-Some.count c.requires (omega (arith, c.in-Some.ensures.some)) (c.in-Some.ensures.advances c.args.more)

pub returns : goal.returns
returns g c =
    let fed = c.feed-taken.ensures in
    let next = c.next.ensures in
    first_kept seen c.args.self.now c.feed-taken.new.self c.next.new.self c.args.piece.now c.args.more c.args.raw c.feed-taken.result c.next.result c.requires fed.taken fed.divided fed.quiet fed.stops fed.full fed.room
    next.none next.some next.represents next.capacity next.room
