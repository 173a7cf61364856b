use Rattle.std.proofs.Common.{false, sym, subst, ◌∙◌}
use Rattle.line_c.specs.Answers.{ShowsLine}
use Rattle.line_c.specs.Kept.{LineState}
use Rattle.line_c.specs.declared.answers.Answer.TheVariants.{GoesOn}
use Rattle.line_c.proofs.Looking.{at_ok, not_both, shows_line}
use Rattle.line_c.proofs.lines.Lines.show.Goals.{in-Ok, in-Err}
use Rattle.line_c.proofs.lines.Lines.show.Goals as goal

pub returns-in-Ok-drawn : goal.returns-in-Ok-drawn
returns-in-Ok-drawn c = elim c.match-begin_frame.branch [
  | in-Ok w ↦
      subst (λ (x : LineState). ShowsLine GoesOn c.args.self.now (record x { clears = false })) (sym (c.self-2.view_is ∙ w.self-is))
      (shows_line c.args.self.now c.begin_frame.new.self w.draw-drawn.new.self w.in-Ok.ensures.ok.0 w.in-Ok.ensures.ok.1 c.begin_frame.ensures.rest w.draw-drawn.ensures.rest
      (at_ok (sym w.drawn-is ∙ c.in-Ok-drawn.is) w.draw-drawn.ensures.shows))
  | in-Err w ↦ absurd (not_both c.in-Ok-drawn.is w.drawn-is)
]
