use Rattle.std.proofs.Common.{◌∙◌, length, ap, sym, arith}
use Rattle.std.specs.Option.{option_map}
use Rattle.std.specs.Str.{chars}
use Rattle.line_editor.specs.Seeking.{wanted}
use Rattle.line_editor.proofs.Numbering.{first-here, first-past}
use Rattle.line_editor.proofs.recent.RecentLines.number_from.Goals as goal

pub returns-then-has : goal.returns-then-has
returns-then-has g c =
    let is = wanted (chars c.args.pattern.now) (option_map (λ text. chars text.now) c.args.shown) in
    sym (c.loop-at.invariant ∙ first-here is c.args.self.now c.loop-at.at (omega (arith, c.loop-at-test.true, c.len-at-end.ensures, ap length c.self.view_is)) (sym c.if-has.true ∙ c.has.ensures))

pub loop-at-preserved : goal.loop-at-preserved
loop-at-preserved g c =
    let is = wanted (chars c.args.pattern.now) (option_map (λ text. chars text.now) c.args.shown) in
    c.loop-at.invariant ∙ first-past is c.args.self.now c.loop-at.at (omega (arith, c.loop-at-test.true, c.len-at-end.ensures, ap length c.self.view_is)) (sym c.if-has.false ∙ c.has.ensures)
