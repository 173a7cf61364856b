use Rattle.std.proofs.Common.{◌∙◌, sym}
use Rattle.std.specs.Option.{option_map}
use Rattle.std.specs.Str.{chars}
use Rattle.line_editor.specs.Seeking.{wanted}
use Rattle.line_editor.proofs.Numbering.{number-here, number-past}
use Rattle.line_editor.proofs.recent.RecentLines.number_before.Goals as goal

pub returns-then-has : goal.returns-then-has
returns-then-has g c =
    let is = wanted (chars c.args.pattern.now) (option_map (λ text. chars text.now) c.args.shown) in
    sym (c.loop-number.invariant ∙ number-here is c.args.self.now c.loop-number.number c.loop-number-test.true (sym c.if-has.true ∙ c.has.ensures))

pub loop-number-preserved : goal.loop-number-preserved
loop-number-preserved g c =
    let is = wanted (chars c.args.pattern.now) (option_map (λ text. chars text.now) c.args.shown) in
    c.loop-number.invariant ∙ number-past is c.args.self.now c.loop-number.number c.loop-number-test.true (sym c.if-has.false ∙ c.has.ensures)
