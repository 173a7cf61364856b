use Rattle.std.proofs.Common.{◌∙◌, ap, sym, inl, inr}
use Rattle.std.proofs.lemmas.Bool.{cases_Bool}
use Rattle.crossterm_parse.specs.View.{ParserView}
use Rattle.crossterm_parse.proofs.ViewLaws.{ground_only}
use Rattle.crossterm_parse.proofs.parse.Parser.is_undecided.Goals as goal

pub returns : goal.returns
returns g c before represents =
    let same = ap (λ (s : ParserView). s.state) c.self.view_is in
    let only = ground_only c.args.self.now.state before represents.0 in (
      λ t none. c.is_open.ensures.yes t (same ∙ only.1 none),
      λ some. elim (cases_Bool c.is_open.result) [
        | inl t ↦ t
        | inr f ↦ absurd (some (only.0 (sym same ∙ c.is_open.ensures.no f)))
      ],
    )
