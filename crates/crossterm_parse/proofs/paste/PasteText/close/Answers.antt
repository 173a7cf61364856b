use Rattle.std.proofs.Common.{rules, ◌∙◌, sym, ap, take, length, ◌-◌, ◌≡◌, encode_utf8_all}
use Rattle.bstr.specs.Utf8.{lossy_chars}
use Rattle.bstr.proofs.lemmas.LossyLemmas.{lossy_chars-utf8_lossy}
use Rattle.crossterm_parse.proofs.paste.PasteText.close.Goals as goal

pub returns-clause-text : goal.returns-clause-text
returns-clause-text g c =
    let same : take c.saturating_sub-end.result c.deref.result.now ≡ take (length c.args.self.now - 5) c.args.self.now = search rules in
    c.in_ok-text.ensures.lossy ∙ sym (lossy_chars-utf8_lossy _) ∙ ap (λ bs. encode_utf8_all (lossy_chars bs)) same
