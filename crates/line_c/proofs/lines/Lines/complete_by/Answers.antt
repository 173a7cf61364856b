use Rattle.std.proofs.Common.{◌≡◌, ℕ, false, List, Bor, map, subst, ap, ◌∙◌}
use Rattle.crossterm_types.specs.Seen.{Paste}
use Rattle.line_editor.specs.Bounds.{is_too_long, refusal_of}
use Rattle.line_editor.specs.Splits.{Split}
use Rattle.line_editor.specs.States.{EditorState}
use Rattle.line_editor.specs.Turns.{event_more, turned}
use Rattle.line_c.specs.Answers.{completed_by, fault_answer}
use Rattle.line_c.specs.Kept.{LineState}
use Rattle.line_c.specs.contracts.lines.Lines.{the_view}
use Rattle.line_c.proofs.Completing.{completes_none, completes_not, completes_some}
use Rattle.line_c.proofs.lines.Lines.complete_by.Goals.{in-None, in-Some+in-Ok-paste}
use Rattle.line_c.proofs.lines.Lines.complete_by.Goals as goal

pub returns-in-Err-paste : goal.returns-in-Err-paste
returns-in-Err-paste c =
    let k = c.args.self.now in
    let text = c.in-Some.rest.now in
    let borrowed = ap (map (λ (n : Bor (List ℕ)). n.now)) (c.new-words.ensures ∙ c.deref.ensures.value) ∙ c.in-Ok-names_in.ensures in
    let before = c.before-2.ensures.text ∙ ap (λ (d : Split). d.before) c.line.ensures ∙ ap (λ (k : LineState). k.editor.line.before) c.self.view_is in
    let fault = c.answer_to.ensures ∙ ap fault_answer c.in-Err-paste.ensures.fault
    ∙ ap (λ (k : LineState). fault_answer (refusal_of (event_more (Paste text) k.editor) k.editor)) c.self.view_is in
    let same = ap (λ (w : EditorState). record (the_view c.self.inside) { editor = w }) c.in-Err-paste.ensures.err ∙ c.self.view_is in
    completes_not k c.args.text.now c.before-2.result.now c.new-words.result.names.now text _ c.answer_to.result c.before-2.utf8 before borrowed c.in-Some.ensures fault same

pub returns : goal.returns
returns c =
    let k = c.args.self.now in
    let names = c.args.text.now in
    let words = c.new-words.result.names.now in
    let borrowed = ap (map (λ (n : Bor (List ℕ)). n.now)) (c.new-words.ensures ∙ c.deref.ensures.value) ∙ c.in-Ok-names_in.ensures in
    let before = c.before-2.ensures.text ∙ ap (λ (d : Split). d.before) c.line.ensures ∙ ap (λ (k : LineState). k.editor.line.before) c.self.view_is in
    let kept = c.keep_names.ensures ∙ ap (λ n. completed_by n c.match-complete.self) c.in-Ok.ensures.ok in
    elim c.match-complete.branch [
      | in-None w ↦ completes_none k names c.before-2.result.now words c.keep_names.new.self c.before-2.utf8 before borrowed w.in-None.ensures (kept ∙ ap (completed_by names) w.self-is)
      | in-Some+in-Ok-paste w ↦
          let text = w.in-Some.rest.now in
          let fits = subst (λ (k : LineState). is_too_long (event_more (Paste text) k.editor) k.editor ≡ false) c.self.view_is w.in-Ok-paste.ensures.room in
          let pasted = w.self-is ∙ ap (λ (w : EditorState). record (the_view c.self.inside) { editor = w }) w.in-Ok-paste.ensures.ok
          ∙ ap (λ (k : LineState). record k { editor = turned (Paste text) k.editor }) c.self.view_is in
          completes_some k names c.before-2.result.now words text c.keep_names.new.self c.before-2.utf8 before borrowed w.in-Some.ensures fits (kept ∙ ap (completed_by names) pasted)
    ]
