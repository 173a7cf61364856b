use Rattle.std.proofs.Common.{ap, arith, length, map, sym, ◌++◌, ◌∙◌, List}
use Rattle.std.proofs.lemmas.Bool.{eqb-true}
use Rattle.std.proofs.lemmas.List.{length-map}
use Rattle.crossterm_types.specs.Seen.{Seen, seen}
use Rattle.crossterm_parse.specs.Meaning.{seen_meaning, typed}
use Rattle.crossterm_parse.specs.inside.Queue.{QueueView, typed_seen}
use Rattle.crossterm_parse.proofs.QueueLaws.{letters_behind}
use Rattle.crossterm_parse.proofs.parse.queue.QueueOutlet.give_letters.Goals as goal

pub returns-then-letters-room-clause-given : goal.returns-then-letters-room-clause-given
returns-then-letters-room-clause-given g c =
    let events = map (seen {A = g.row.A.Denot}) c.self.inside.events.items in
    let letters = c.args.letters.now in
    let len = eqb-true _ 0 (sym c.is_empty.ensures ∙ c.if-is_empty.true) in
    ap (λ ts. map typed_seen ts ++ events) c.extend.ensures ∙ letters_behind c.self.inside.typed.waiting letters events (omega (arith, len, c.self.inside.events.ok.0, length-map c.self.inside.events.items (seen {A = g.row.A.Denot})))
    ∙ ap (λ (q : QueueView). q.waiting ++ map seen_meaning (map typed letters)) c.self.view_is
