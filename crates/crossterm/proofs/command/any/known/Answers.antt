use Rattle.crossterm.proofs.CommandLooks.{others_fit}
use Rattle.crossterm.proofs.command.any.known.Goals as goal

pub returns-in_default : goal.returns-in_default
returns-in_default g c =
    let other = c.in_default in
    others_fit c.args.command.now other.not-SetForegroundColor other.not-SetBackgroundColor other.not-SetUnderlineColor other.not-SetColors other.not-SetStyle other.not-PrintStyledContent
