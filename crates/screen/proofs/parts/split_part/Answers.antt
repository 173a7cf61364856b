use Rattle.std.proofs.Common.{◌≡◌, ◌∷◌, true, sym, ap, ◌∙◌, subst, arith}
use lib.Utf8.{scalars}
use Rattle.std.proofs.lemmas.Str.{scalars-chars}
use Rattle.std.specs.Str.{chars}
use Rattle.screen.specs.inside.FirstParts.{IsFirstPart}
use Rattle.screen.proofs.Parting.{is_first}
use Rattle.screen.proofs.parts.split_part.Goals as goal

pub returns-in-Some : goal.returns-in-Some
returns-in-Some c =
    let symbol = c.in-Some.symbol in
    let rest = chars c.in-Some.rest.now in
    let split = c.split_marks-marks in
    let back = chars split.result.2.now in
    let scalar : scalars (symbol ∷ rest) ≡ true = ap scalars (sym c.in-Some.ensures.0) ∙ scalars-chars c.args.text.now c.utf8.text in (
      subst (λ t. IsFirstPart t (record { symbol = symbol; marks = split.result.0; is_long = split.result.1 }) back) (sym c.in-Some.ensures.0)
          (is_first symbol rest back split.result.0 split.result.1 scalar split.ensures.held split.ensures.back),
      omega (arith, c.in-Some.ensures.1, split.ensures.len),
    )
