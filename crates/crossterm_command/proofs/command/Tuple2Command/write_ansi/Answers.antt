use Rattle.crossterm_command.proofs.Texts.{ok_both}
use Rattle.crossterm_command.proofs.command.Tuple2Command.write_ansi.Goals as goal

pub returns-clause-ok : goal.returns-clause-ok
returns-clause-ok g c =
    ok_both g.W.Write.write_str_gives c.write_ansi-2.result c.args.f.now (g.C.Command.text c.args.self.now.0 c.args.colors) c.write_ansi.new.f
    (g.D.Command.text c.args.self.now.1 c.args.colors) c.write_ansi-2.new.f c.in_ok-write_ansi.ensures.ok c.write_ansi-2.ensures.ok
