use Rattle.std.proofs.Common.{rules, [], ◌∷◌, not, take, ap, sym, ◌∙◌, subst}
use Rattle.crossterm_parse.specs.Marked.{marked}
use Rattle.crossterm_c.specs.Feeding.{Pastes}
use Rattle.crossterm_c.specs.declared.table.Table.{Table}
use Rattle.crossterm_c.specs.inside.Table.{PutsEvents, puts_none}
use Rattle.crossterm_c.proofs.FeedingLaws.{feeds_closed, feeds_nothing, feeds_open}
use Rattle.crossterm_c.proofs.feed.feed.Goals as goal
use Rattle.crossterm_c.proofs.feed.feed.Goals.{then-over, else-over}

pub returns-then-not-is_paste-clause-fills : goal.returns-then-not-is_paste-clause-fills
returns-then-not-is_paste-clause-fills g c = c.feed_sequences.ensures.fills _

pub returns-then-is_full-clause-fills : goal.returns-then-is_full-clause-fills
returns-then-is_full-clause-fills g c = record { given = []; feeds = feeds_nothing c.args.state.now; puts = puts_none c.args.table.now }

pub returns-clause-fills : goal.returns-clause-fills
returns-clause-fills g c =
    let old = c.args.state.now in
    let new = c.feed_paste-taken.new.state in
    let bytes = take c.feed_paste-taken.result.0 c.args.piece.now in
    let taken = take c.feed_paste-taken.result.0 (marked c.args.piece.now c.args.more c.args.raw) in
    let pastes = c.feed_paste-taken.ensures.pastes c.args.more c.args.raw in
    elim c.if-over.branch [
      | then-over w ↦ record {
        given = w.paste_end.result ∷ [];
        feeds = feeds_closed old new w.paste_end.result bytes taken (search rules) (c.feed_paste-taken.ensures.pasting ∙ ap not w.if-over.true) w.paste_end.ensures
            (subst (λ over. Pastes old new bytes over taken) w.if-over.true pastes);
        puts = subst (λ (t : Table). PutsEvents c.args.table.now (w.paste_end.result ∷ []) t) (sym w.table-is) w.push.ensures;
      }
      | else-over w ↦ record {
        given = [];
        feeds = feeds_open old new bytes taken (search rules) (c.feed_paste-taken.ensures.pasting ∙ ap not w.if-over.false) (subst (λ over. Pastes old new bytes over taken) w.if-over.false pastes);
        puts = subst (λ (t : Table). PutsEvents c.args.table.now [] t) (sym w.table-is) (puts_none c.args.table.now);
      }
    ]
