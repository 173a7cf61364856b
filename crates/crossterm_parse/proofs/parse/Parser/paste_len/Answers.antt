use Rattle.std.proofs.Common.{length, sym, ap, ◌∙◌}
use Rattle.crossterm_parse.specs.View.{ParserView, text_or_empty}
use Rattle.crossterm_parse.proofs.ViewLaws.{paste_length_is}
use Rattle.crossterm_parse.proofs.parse.Parser.paste_len.Goals as goal

pub returns-in-Some : goal.returns-in-Some
returns-in-Some g c = λ before represents.
    c.len.ensures ∙ ap (λ text. length (text_or_empty text)) (sym c.in-Some.is) ∙ ap (λ (p : ParserView). length p.text) c.self.view_is ∙ sym (paste_length_is c.args.self.now before represents)

pub returns-in-None : goal.returns-in-None
returns-in-None g c = λ before represents.
    ap (λ text. length (text_or_empty text)) (sym c.in-None.is) ∙ ap (λ (p : ParserView). length p.text) c.self.view_is ∙ sym (paste_length_is c.args.self.now before represents)
