use Rattle.std.proofs.Common.{rules, List, ◌∙◌, refl, subst, sym, take}
use Rattle.crossterm_parse.specs.Marked.{marked}
use Rattle.crossterm_parse.specs.declared.state.State.{State}
use Rattle.crossterm_c.specs.Feeding.{Feeds}
use Rattle.crossterm_c.specs.State.{state_at}
use Rattle.numbers.specs.declared.event.GelvanhEvent.{GelvanhEvent}
use Rattle.crossterm_c.proofs.FeedingLaws.{feeds_letter, first_set, some_events}
use Rattle.crossterm_c.proofs.parser.gelvanh_feed.Goals as goal

pub returns-clause-feeds : goal.returns-clause-feeds
returns-clause-feeds c =
    let fills = c.feed-taken.ensures.fills in
    let old = state_at c.args.state.now in
    let end = c.feed-taken.new.table.end in
    let bytes = take c.feed-taken.result c.args.piece.now in
    let taken = take c.feed-taken.result (marked c.args.piece.now c.args.more c.args.raw) in
    subst (λ (es : List GelvanhEvent). Feeds old (state_at c.flatten.result) (take end es) bytes taken) (search rules)
    (subst (λ (given : List GelvanhEvent). Feeds old (state_at c.flatten.result) given bytes taken) (sym (fills.puts.events refl))
    (subst (λ (new : State). Feeds old new fills.given bytes taken) (sym c.flatten.ensures)
    (subst (λ (was : State). Feeds was c.feed-taken.new.state fills.given bytes taken) c.state_of-open.ensures fills.feeds)))

pub returns-then-is_lone_letter-clause-feeds : goal.returns-then-is_lone_letter-clause-feeds
returns-then-is_lone_letter-clause-feeds c =
    let lone = c.is_lone_letter.ensures (search rules) in
    subst (λ (given : List GelvanhEvent). Feeds (state_at c.args.state.now) (state_at c.args.state.now) given (take 1 c.args.piece.now) (take 1 (marked c.args.piece.now c.args.more c.args.raw)))
    (first_set c.args.events.now c.of_key.result (some_events c.args.events.now (sym c.is_empty.ensures ∙ c.if-not-is_empty.true)))
    (feeds_letter (state_at c.args.state.now) c.args.piece.now c.args.more c.args.raw c.of_key.result c.ascii_key.result lone.0 lone.1 lone.2 c.of_key.ensures.means c.ascii_key.ensures)
