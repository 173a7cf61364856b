use Rattle.std.proofs.Common.{ℕ, Bool, List, Some, Bor, map, subst, ap, ◌∙◌}
use Rattle.std.specs.Str.Lines.{lines}
use Rattle.std.specs.Prelude.{OnOk}
use Rattle.prompt.specs.Frames.{Draws, area_of}
use Rattle.prompt.specs.Shown.{run_of}
use Rattle.prompt.specs.Written.{PromptView, shown_for}
use Rattle.line_c.specs.Answers.{lists, look_at}
use Rattle.line_c.specs.Kept.{LineState}
use Rattle.line_c.specs.contracts.lines.Lines.{the_view}
use Rattle.line_c.specs.declared.given.Given.{Given}
use Rattle.line_c.proofs.Looking.{front_of, look_is, look_with, runs_are}
use Rattle.line_c.proofs.lines.Lines.draw.Goals as goal

pub returns-clause-shows : goal.returns-clause-shows
returns-clause-shows c =
    let p = c.prompt_with-prompt.result in
    let g = c.new-given.result in
    let b = area_of c.show.new.rows in
    let new = c.show.new.out.items in
    let k = the_view c.self.inside in
    let names = ap (map (λ (n : Bor (List ℕ)). n.now)) (c.new-given.ensures.names ∙ c.deref.ensures.value) ∙ c.in_ok-names.ensures ∙ ap lines c.as_str.ensures.value in
    let look = look_is k p g (c.prompt_with-prompt.ensures.runs ∙ runs_are k _ _ c.as_str-3.ensures.value (ap (map run_of) c.deref-3.ensures.value ∙ c.in_ok-parts.ensures ∙ c.deref-2.ensures.value)) c.prompt_with-prompt.ensures.mask c.prompt_with-prompt.ensures.usual.0
    c.prompt_with-prompt.ensures.usual.1 c.prompt_with-prompt.ensures.usual.2 (c.new-given.ensures.hint ∙ c.as_str-2.ensures.value) c.new-given.ensures.listed names in
    subst (λ (x : LineState). OnOk c.show.result (Draws (shown_for (look_at x) (lists x.listed) x.editor) x.area b (Some x.output) (Some new))) c.self.view_is
    (subst (λ (v : PromptView). OnOk c.show.result (Draws (shown_for v (lists k.listed) k.editor) k.area b (Some k.output) (Some new))) look
    (subst (λ (listed : Bool). OnOk c.show.result (Draws (shown_for (look_with p g) listed k.editor) k.area b (Some k.output) (Some new))) c.lists-lists.ensures
    (subst (λ (h : Given). OnOk c.show.result (Draws (shown_for (look_with p h) c.lists-lists.result k.editor) k.area b (Some k.output) (Some new))) c.prompt_with-prompt.ensures.given c.show.ensures.shows)))

pub returns-clause-front : goal.returns-clause-front
returns-clause-front c =
    let out = ap (λ (k : LineState). k.output) c.self.view_is in
    front_of c.show.result _ _ _ c.self.inside.output.items c.show.new.out.items c.args.self.now.output c.show.ensures.shows c.show.ensures.stops out
