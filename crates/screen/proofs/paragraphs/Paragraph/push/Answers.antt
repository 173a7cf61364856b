use Rattle.std.proofs.Common.{◌++◌, ap, append-nil, chars, ◌∙◌, length, sym}
use Rattle.screen.specs.Paragraphs.{ParagraphView}
use Rattle.screen.specs.Parts.{text_parts}
use Rattle.screen.proofs.Wrapping.{nothing_wrapped}
use Rattle.screen.proofs.paragraphs.Paragraph.push.Goals as goal

pub returns-then-self-eq0-clause-ok : goal.returns-then-self-eq0-clause-ok
returns-then-self-eq0-clause-ok g c =
    let s : ParagraphView = c.args.self.now in
    let none = nothing_wrapped c.args.style s.width (length s.cells) (text_parts (chars c.args.text.now)) (ap (λ v. v.width) (sym c.self.view_is) ∙ c.if-self-eq0.true) in
    ap (λ l. record { width = s.width; cells = l; room = s.room }) (sym (append-nil s.cells) ∙ ap (λ l. s.cells ++ l) (sym none))
