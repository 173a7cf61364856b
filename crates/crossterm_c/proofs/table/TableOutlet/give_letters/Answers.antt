use Rattle.std.proofs.Common.{arith}
use Rattle.crossterm_c.proofs.FeedingLaws.{one_letter}
use Rattle.crossterm_c.proofs.table.TableOutlet.give_letters.Goals as goal

pub loop-letter-preserved : goal.loop-letter-preserved
loop-letter-preserved c = record {
  filled = one_letter c.args.self.now c.loop-letter.self c.push.new.self c.of_key.result c.ascii_key.result c.args.letters.now c.loop-letter.letter-index c.loop-letter-test.true c.loop-letter.invariant.filled
      c.push.ensures c.of_key.ensures.means c.ascii_key.ensures;
  end = omega (arith, c.push.ensures.count, c.loop-letter.invariant.end);
}
