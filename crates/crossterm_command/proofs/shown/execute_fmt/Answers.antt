use Rattle.crossterm_command.proofs.Texts.{displays_text, ok_in_calls}
use Rattle.crossterm_command.proofs.shown.execute_fmt.Goals as goal

pub returns : goal.returns
returns g c = displays_text g.W.Write.write_str_gives _ _ _ _ (ok_in_calls _ _ _ _ _ c.write_ansi.ensures.ok)
