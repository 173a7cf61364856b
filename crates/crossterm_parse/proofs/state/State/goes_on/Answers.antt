use Rattle.std.proofs.Common.{◌≡◌, ◌∙◌, sym, ap}
use Rattle.crossterm_parse.specs.Transitions.{state_after, meaning_with, Whole}
use Rattle.crossterm_parse.specs.declared.state.State.{State}
use Rattle.crossterm_parse.specs.declared.state.State.TheVariants.{Numbered}
use Rattle.crossterm_parse.proofs.state.State.goes_on.Goals as goal

pub returns-in-Sgr-clause-yes : goal.returns-in-Sgr-clause-yes
returns-in-Sgr-clause-yes c goes raw = ap (λ (s : State). state_after s c.args.byte raw c.args.pause) c.in-Sgr.is ∙ c.read_report.ensures.yes goes raw c.args.pause

pub returns-else-read_number-clause-no : goal.returns-else-read_number-clause-no
returns-else-read_number-clause-no c ends raw =
    let same = c.read_number.ensures.same c.if-read_number.false in
    let parameters = same.0 in
    let opening = same.1 in
    let here = c.in-Numbered.is in
    let is : c.args.self.now ≡ Numbered c.read_number.new.parameters c.read_number.new.opening = cc in
    ap (λ (s : State). state_after s c.args.byte raw c.args.pause) is ∙ c.open_paste.ensures.no ends raw c.args.pause ∙ ap (λ (s : State). Whole (meaning_with s c.args.byte raw)) (sym is)

pub returns-in-Reply-clause-yes : goal.returns-in-Reply-clause-yes
returns-in-Reply-clause-yes c goes raw = ap (λ (s : State). state_after s c.args.byte raw c.args.pause) c.in-Reply.is ∙ c.read_reply.ensures.yes goes raw c.args.pause

pub returns-in-Reply-clause-no : goal.returns-in-Reply-clause-no
returns-in-Reply-clause-no c ends raw = ap (λ (s : State). state_after s c.args.byte raw c.args.pause) c.in-Reply.is ∙ c.read_reply.ensures.no ends raw c.args.pause
    ∙ ap (λ (s : State). Whole (meaning_with s c.args.byte raw)) (sym c.in-Reply.is)
