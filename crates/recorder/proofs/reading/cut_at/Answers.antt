use Rattle.std.proofs.Common.{◌∷◌, ◌+◌, arith, take, sym, ap, ◌∙◌}
use Rattle.std.proofs.lemmas.List.{take_rest}
use Rattle.recorder.specs.Reads.{parts}
use Rattle.recorder.proofs.Cutting.{cut_none, cut_some}
use Rattle.recorder.proofs.reading.cut_at.Goals as goal

pub returns-in-None : goal.returns-in-None
returns-in-None c = cut_none c.args.c c.args.bytes.now c.in-None.ensures

pub returns-in-Some : goal.returns-in-Some
returns-in-Some c =
    let found = c.in-Some.ensures in
    let bytes = c.args.bytes.now in
    let i = c.in-Some.i in (
      cut_some c.args.c bytes i found ∙ ap (λ l. take i bytes ∷ parts c.args.c l) (sym (take_rest bytes (i + 1))),
      omega (arith, found.0.high),
    )
