-- The commands so far have been written, and the numbers of their colours are bytes.
use Rattle.std.proofs.Common.{ℕ, List, take, flat_map}
use Rattle.std.specs.Io.KnownBytes.{Appends}
use Rattle.std.specs.List.{AllByRecursion}
use Rattle.crossterm.specs.declared.command.any.AnyCommand.{AnyCommand}
use Rattle.crossterm_command.specs.declared.color_output.ColorOutput.{ColorOutput}
use Rattle.crossterm_command.specs.Tokens.{text_of}
use Rattle.crossterm_style.specs.Appearance.{FitsAct}
use Rattle.crossterm.specs.Functions.{functions}
use Rattle.crossterm.specs.Painted.{acts}
use Rattle.crossterm.proofs.command.any.write_commands.Given as goal

-- the text of one command
abbrev pub command_text : {A : Type 0} → ColorOutput → AnyCommand A → List ℕ
command_text colors c = text_of (functions colors c)

abbrev pub invariant-loop-command : goal.invariant-loop-command
invariant-loop-command g l =
    Appends (g.W.Write.contents l.initial.writer) (g.W.Write.contents l.writer) (flat_map (command_text l.colors) (take l.command-index l.commands))
    × AllByRecursion FitsAct (flat_map acts (take l.command-index l.commands))
