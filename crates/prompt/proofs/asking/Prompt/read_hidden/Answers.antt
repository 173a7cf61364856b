use Rattle.std.proofs.Common.{ap, ◌∙◌, subst}
use Rattle.std.specs.IoError.{error_kind}
use Rattle.crossterm_read.specs.PassViews.{knows}
use Rattle.line_editor.specs.States.{EditorState, fresh}
use Rattle.prompt.specs.Asking.{answer_seen}
use Rattle.prompt.specs.Written.{LineEndsShown, StopsShown, hidden_limits, hidden_look}
use Rattle.prompt.proofs.Sending.{if_err_any, if_err_with, if_ok_with}
use Rattle.prompt.proofs.Showing.{not_begun}
use Rattle.prompt.proofs.asking.Prompt.read_hidden.Goals as goal

pub returns-then-have_control-clause-err : goal.returns-then-have_control-clause-err
returns-then-have_control-clause-err g c = (
  fresh hidden_limits,
  not_begun g.S.EventSource.drawn g.S.EventSource.asked (hidden_look c.args.mask c.args.self.now) (knows c.args.tty.now.pass) (fresh hidden_limits) (error_kind c.from.result)
      (g.W.Write.contents c.args.tty.now.out),
)

pub returns-in_err-editor-clause-err : goal.returns-in_err-editor-clause-err
returns-in_err-editor-clause-err g c = if_err_any c.from_residual.result (λ error. (
  fresh hidden_limits,
  not_begun g.S.EventSource.drawn g.S.EventSource.asked (hidden_look c.args.mask c.args.self.now) (knows c.args.tty.now.pass) (fresh hidden_limits) (error_kind error)
      (g.W.Write.contents c.args.tty.now.out),
))

pub returns-clause-line : goal.returns-clause-line
returns-clause-line g c =
    let is = c.in_ok-editor.ensures.ok ∙ ap fresh c.hidden_limits.ensures in
    if_ok_with c.read_line.result (λ read ends. (
      c.read_line.new.editor,
      subst (λ (w : EditorState). LineEndsShown g.S.EventSource.drawn g.S.EventSource.asked (hidden_look c.args.mask c.args.self.now) (knows c.args.tty.now.pass) w (answer_seen read) (knows c.read_line.new.tty.pass) c.read_line.new.editor
          (g.W.Write.contents c.args.tty.now.out) (g.W.Write.contents c.read_line.new.tty.out)) is ends,
    )) c.read_line.ensures.written

pub returns-clause-err : goal.returns-clause-err
returns-clause-err g c =
    let is = c.in_ok-editor.ensures.ok ∙ ap fresh c.hidden_limits.ensures in
    if_err_with c.read_line.result (λ error stops. (
      c.read_line.new.editor,
      subst (λ (w : EditorState). StopsShown g.S.EventSource.drawn g.S.EventSource.asked (hidden_look c.args.mask c.args.self.now) (knows c.args.tty.now.pass) w (error_kind error) (knows c.read_line.new.tty.pass) c.read_line.new.editor
          (g.W.Write.contents c.args.tty.now.out) (g.W.Write.contents c.read_line.new.tty.out)) is stops,
    )) c.read_line.ensures.cut
