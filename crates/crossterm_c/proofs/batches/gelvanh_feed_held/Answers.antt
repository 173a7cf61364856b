use Rattle.std.proofs.Common.{rules, List, [], ◌+◌, ◌-◌, ◌∷◌, ◌++◌, arith, ap, refl, subst, sym, take, ◌∙◌}
use Rattle.crossterm_parse.specs.Marked.{marked}
use Rattle.crossterm_parse.specs.declared.state.State.{State}
use Rattle.crossterm_c.specs.Feeding.{Feeds}
use Rattle.crossterm_c.specs.Held.{FeedsHeld, held_from}
use Rattle.crossterm_c.specs.State.{state_at}
use Rattle.crossterm_c.specs.declared.held.GelvanhHeld.{GelvanhHeld}
use Rattle.crossterm_c.specs.declared.held.GelvanhReader.{GelvanhReader}
use Rattle.crossterm_c.proofs.FeedingLaws.{feeds_letter}
use Rattle.crossterm_c.proofs.HeldLaws.{behind_part, length_numbered}
use Rattle.crossterm_c.proofs.batches.gelvanh_feed_held.Goals as goal

pub returns-clause-held : goal.returns-clause-held
returns-clause-held c =
    let fills = c.feed-taken.ensures.fills in
    let old = state_at c.args.state.now in
    let first = c.make_room-first.result in
    let end = c.feed-taken.new.table.end in
    let bytes = take c.feed-taken.result c.args.piece.now in
    let taken = take c.feed-taken.result (marked c.args.piece.now c.args.more c.args.raw) in
    let more = held_from c.args.reader.now.arrivals fills.given in
    let size = length_numbered c.args.reader.now.arrivals fills.given in
    let left : GelvanhReader = record { first = first; held = end - first; arrivals = c.feed-taken.new.table.number } in
    subst (λ (table : List GelvanhHeld). FeedsHeld old (state_at c.flatten.result) c.args.reader.now c.args.table.now left table (end - (first + c.span-first.result.1)) bytes taken)
    {x = c.feed-taken.new.table.held.now} (search rules) (record {
      given = fills.given;
      feeds = subst (λ (new : State). Feeds old new fills.given bytes taken) (sym c.flatten.ensures)
          (subst (λ (was : State). Feeds was c.feed-taken.new.state fills.given bytes taken) c.state_of-open.ensures fills.feeds);
      held = behind_part c.make_room-first.new.table c.feed-taken.new.table.held.now more first c.span-first.result.1 end c.make_room-first.ensures.within (omega (arith, fills.puts.count, size)) (fills.puts.held refl)
          ∙ ap (λ (l : List GelvanhHeld). l ++ more) (c.make_room-first.ensures.held ∙ c.span-first.ensures.held);
      arrivals = fills.puts.number refl;
      size = omega (arith, fills.puts.count);
    })

pub returns-then-is_lone_letter-clause-held : goal.returns-then-is_lone_letter-clause-held
returns-then-is_lone_letter-clause-held c =
    let lone = c.is_lone_letter.ensures (search rules) in
    record {
      given = c.of_key-event.result ∷ [];
      feeds = feeds_letter (state_at c.args.state.now) c.args.piece.now c.args.more c.args.raw c.of_key-event.result c.ascii_key.result lone.0 lone.1 lone.2 c.of_key-event.ensures.means c.ascii_key.ensures;
      held = c.put_behind.ensures ∙ ap (λ (l : List GelvanhHeld). l ++ record { event = c.of_key-event.result; arrival = c.args.reader.now.arrivals } ∷ []) (c.make_room-first.ensures.held ∙ c.span-first.ensures.held);
      arrivals = c.saturating_add.ensures;
      size = refl;
    }
