use Rattle.std.proofs.Common.{sym, ap, ◌∙◌}
use Rattle.std.specs.Option.{option_map}
use Rattle.bstr.proofs.lemmas.LossyLemmas.{lossy_chars-utf8_lossy}
use Rattle.crossterm_parse.specs.Meaning.{seen_meaning}
use Rattle.test_input.proofs.PlainLaws.{paste_seen, other_seen}
use Rattle.test_input.proofs.plain.event_of.Goals as goal

pub returns-in-Some : goal.returns-in-Some
returns-in-Some g c =
    let cut = c.in-Some.ensures.cases in
    paste_seen c.args.raw c.args.bytes.now c.in-Some.rest.now _ _ cut.0 cut.1 c.saturating_sub.ensures (c.in_ok-text.ensures.lossy ∙ sym (lossy_chars-utf8_lossy _))

pub returns-in-Some-meaning_of_sequence : goal.returns-in-Some-meaning_of_sequence
returns-in-Some-meaning_of_sequence g c =
    rw c.from.ensures (ap (λ m. option_map seen_meaning m) c.in-Some-meaning_of_sequence.ensures ∙ other_seen c.args.raw c.args.bytes.now c.in_default.ensures.cases)
