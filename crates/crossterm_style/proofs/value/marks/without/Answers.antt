use Rattle.std.proofs.lemmas.Result.{IfOk-weaker}
use Rattle.crossterm_style.proofs.MarkLaws.{replaced}
use Rattle.crossterm_style.proofs.value.marks.without.Goals as goal

pub returns : goal.returns
returns g c = IfOk-weaker c.replace.result _ _ (λ t h. replaced h.0 c.args.part c.args.text.now _ c.requires h.1) c.replace.ensures.ok
