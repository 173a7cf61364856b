use Rattle.std.proofs.Common.{subst}
use Rattle.std.specs.Prelude.{IfErr, IfOk}
use Rattle.std.specs.IoError.{error_kind}
use Rattle.crossterm_read.specs.PassViews.{knows}
use Rattle.prompt.specs.Asking.{answer_seen}
use Rattle.prompt.specs.Written.{LineEndsShown, PromptView, StopsShown}
use Rattle.prompt.proofs.Showing.{new_look}
use Rattle.prompt.proofs.asking.read_line.Goals as goal

pub returns-clause-written : goal.returns-clause-written
returns-clause-written g c =
    subst (λ (look : PromptView). IfOk c.read_line.result (λ read. LineEndsShown g.S.EventSource.drawn g.S.EventSource.asked look (knows c.args.tty.now.pass) c.args.editor.now (answer_seen read) (knows c.read_line.new.tty.pass) c.read_line.new.editor
    (g.W.Write.contents c.args.tty.now.out) (g.W.Write.contents c.read_line.new.tty.out))) (new_look c.args.prompt.now c.new-prompt.result c.new-prompt.ensures) c.read_line.ensures.written

pub returns-clause-cut : goal.returns-clause-cut
returns-clause-cut g c =
    subst (λ (look : PromptView). IfErr c.read_line.result (λ error. StopsShown g.S.EventSource.drawn g.S.EventSource.asked look (knows c.args.tty.now.pass) c.args.editor.now (error_kind error) (knows c.read_line.new.tty.pass) c.read_line.new.editor
    (g.W.Write.contents c.args.tty.now.out) (g.W.Write.contents c.read_line.new.tty.out))) (new_look c.args.prompt.now c.new-prompt.result c.new-prompt.ensures) c.read_line.ensures.cut
