use Rattle.std.proofs.Common.{take}
use Rattle.crossterm_parse.specs.Marked.{marked}
use Rattle.crossterm_c.proofs.FeedingLaws.{feeds_given}
use Rattle.crossterm_c.proofs.feed.feed_sequences.Goals as goal

pub returns-clause-fills : goal.returns-clause-fills
returns-clause-fills g c bytes =
    let taken = take c.take.result (marked c.args.piece.now c.args.more c.args.raw) in
    let divided = c.take.ensures.divided in
    let filled = divided.1 in
    record { given = filled.given; feeds = feeds_given c.args.state.now c.take.new.self filled.given bytes taken divided.0 c.requires.outside filled.means divided.2; puts = filled.puts }
