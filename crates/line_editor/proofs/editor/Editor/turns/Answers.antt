use Rattle.std.proofs.Common.{◌≡◌, ◌∙◌, ◌+◌, false, true, List, ◌++◌, drop, map, sym, ap, take, subst, append_assoc}
use Rattle.crossterm_types.specs.Seen.{Seen, seen_event}
use Rattle.line_editor.specs.declared.fault.EditFault.{EditFault}
use Rattle.line_editor.specs.declared.fault.EditFault.TheVariants.{TooLong}
use Rattle.line_editor.specs.Bounds.{is_too_long}
use Rattle.line_editor.specs.Kills.{texts}
use Rattle.line_editor.specs.States.{EditorState}
use Rattle.line_editor.specs.Turns.{AreTaken, StopsBefore, after_events, answer, event_more, lines_in, lines_of_events, task_of, turned}
use Rattle.line_editor.proofs.Running.{err_as}
use Rattle.line_editor.proofs.Turning.{lines_end, made_end, seen_more, seen_parts, taken_end}
use Rattle.line_editor.proofs.editor.Editor.turns.Goals as goal

pub returns-in_err-turn_into-clause-err : goal.returns-in_err-turn_into-clause-err
returns-in_err-turn_into-clause-err g c =
    let i = c.loop-event.event-index in
    let events = c.args.events.now in
    let w = c.args.self.now in
    let v = c.turn_into.new.self in
    let e : Seen = seen_event c.event-item.result in
    let before = texts c.args.lines.now.items in
    let after = texts c.turn_into.new.lines.items in
    let P : EditFault → Type 0 = λ fault. StopsBefore fault (map seen_event events) w v before after in
    let same : v ≡ c.loop-event.self = c.in_err-turn_into.ensures.err in
    let fault = c.in_err-turn_into.field-0.0 in
    let Q : EditorState → Type 0 = λ x. fault ≡ TooLong → is_too_long (event_more e x) x ≡ true in
    let stops : P fault = record {
      front = map seen_event (take i events);
      event = e;
      left = map seen_event (drop (i + 1) events);
      are = seen_parts seen_event events i c.event-item.result c.loop-event-test.true c.event-item.is;
      taken = c.loop-event.invariant.taken;
      made = same ∙ c.loop-event.invariant.made;
      lines = ap texts c.in_err-turn_into.ensures.lines_err ∙ c.loop-event.invariant.lines;
      why = subst Q (sym same) c.in_err-turn_into.ensures.fault;
    } in
    err_as c.from_residual.result P fault c.from_residual.ensures.1 stops

pub loop-event-preserved : goal.loop-event-preserved
loop-event-preserved g c =
    let i = c.loop-event.event-index in
    let events = c.args.events.now in
    let w = c.args.self.now in
    let e : Seen = seen_event c.event-item.result in
    let front = map seen_event (take i events) in
    let more = seen_more seen_event events i c.event-item.result c.loop-event-test.true c.event-item.is in
    let made = c.loop-event.invariant.made in
    let P : List Seen → Type 0 = λ t. AreTaken t w in
    let Q : EditorState → Type 0 = λ x. is_too_long (event_more e x) x ≡ false in
    record {
      taken = subst P (sym more) (taken_end front e w c.loop-event.invariant.taken (subst Q made c.in_ok-turn_into.ensures.room));
      made = c.in_ok-turn_into.ensures.ok ∙ ap (turned e) made ∙ sym (made_end front e w) ∙ ap (λ t. after_events t w) (sym more);
      lines = c.in_ok-turn_into.ensures.lines
          ∙ ap (λ (x : EditorState). texts c.loop-event.lines.items ++ lines_in (answer (task_of e x) x)) made
          ∙ ap (λ t. t ++ lines_in (answer (task_of e (after_events front w)) (after_events front w))) c.loop-event.invariant.lines
          ∙ append_assoc (texts c.args.lines.now.items) (lines_of_events front w) (lines_in (answer (task_of e (after_events front w)) (after_events front w)))
          ∙ ap (λ t. texts c.args.lines.now.items ++ t) (sym (lines_end front e w) ∙ ap (λ t. lines_of_events t w) (sym more));
    }
