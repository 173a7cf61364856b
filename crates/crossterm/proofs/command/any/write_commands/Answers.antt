use Rattle.std.proofs.Common.{rules, ◌≡◌, flat_map, Some, subst, sym, take, take_all, ◌≢◌, []}
use Rattle.std.specs.Io.KnownBytes.{Appends}
use Rattle.std.specs.List.{AllByRecursion}
use Rattle.crossterm_command.specs.Faults.{Stopped}
use Rattle.crossterm_command.specs.Tokens.{text_of}
use Rattle.crossterm_command.proofs.Readings.{text_of_each}
use Rattle.crossterm_command.proofs.Rows.{all_taken, more_taken, stopped_in}
use Rattle.crossterm_command.proofs.TokenLaws.{one_reading}
use Rattle.crossterm.specs.Functions.{functions}
use Rattle.crossterm_style.specs.Appearance.{FitsAct}
use Rattle.crossterm.specs.Painted.{acts}
use Rattle.crossterm.proofs.CommandLooks.{commands_show, fits_more}
use Rattle.crossterm.proofs.Commands.{commands_read}
use Rattle.crossterm.proofs.command.any.write_commands.Invariants.{command_text}
use Rattle.crossterm.proofs.command.any.write_commands.Goals as goal

pub loop-command-preserved : goal.loop-command-preserved
loop-command-preserved g c =
    let at = c.loop-command.command-index in
    let command = c.command-item.result in (
      more_taken (command_text c.args.colors) c.args.commands.now at command _ _ _ c.loop-command-test.true (sym c.command-item.is) c.loop-command.invariant.0 c.in_default.ensures.ok,
      fits_more c.args.commands.now at command c.loop-command-test.true (sym c.command-item.is) c.loop-command.invariant.1 c.known.ensures,
    )

pub returns-clause-texts : goal.returns-clause-texts
returns-clause-texts g c =
    subst (Appends _ _) (sym (text_of_each (functions c.args.colors) c.args.commands.now)) (all_taken (command_text c.args.colors) c.args.commands.now _ _ _ (search rules) c.loop-command.invariant.0)

pub returns-clause-reads : goal.returns-clause-reads
returns-clause-reads g c readable =
    let all_tokens = flat_map (functions c.args.colors) c.args.commands.now in
    let read = commands_read c.args.colors c.args.commands.now readable in
    (text_of all_tokens, returns-clause-texts g c, read, λ us other. one_reading (text_of all_tokens) us all_tokens other read)

pub returns-clause-shown : goal.returns-clause-shown
returns-clause-shown g c readable =
    let all_tokens = flat_map (functions c.args.colors) c.args.commands.now in
    let at = c.loop-command.command-index in
    let all : take at c.args.commands.now ≡ c.args.commands.now = take_all at c.args.commands.now (search rules) in
    let fits = subst (λ cs. AllByRecursion FitsAct (flat_map acts cs)) all c.loop-command.invariant.1 in
    (text_of all_tokens, returns-clause-texts g c, all_tokens, commands_read c.args.colors c.args.commands.now readable, commands_show c.args.colors c.args.commands.now fits)

pub returns-in-Err-clause-err : goal.returns-in-Err-clause-err
returns-in-Err-clause-err g c =
    let held = g.W.Write.contents in
    subst (λ text. Stopped c.in-Err.fault (Some text) (c.args.commands.now ≢ []) (held c.args.writer.now) (held c.write_command.new.writer)) (sym (text_of_each (functions c.args.colors) c.args.commands.now))
    (stopped_in (command_text c.args.colors) c.args.commands.now _ c.command-item.result _ _ _ _ (search rules) (sym c.command-item.is) c.loop-command.invariant.0 c.in-Err.fault c.in-Err.ensures.err)
