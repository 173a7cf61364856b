use Rattle.std.proofs.Common.{◌≡◌, ◌++◌, map, take}
use Rattle.crossterm_types.specs.Seen.{seen_event}
use Rattle.line_editor.specs.Kills.{texts}
use Rattle.line_editor.specs.Turns.{AreTaken, after_events, lines_of_events}
use Rattle.line_editor.proofs.editor.Editor.turns.Given as goal

abbrev pub invariant-loop-event : goal.invariant-loop-event
invariant-loop-event g l = record {
  taken : AreTaken (map seen_event (take l.event-index l.events)) l.fn.self;
  made : l.self ≡ after_events (map seen_event (take l.event-index l.events)) l.fn.self;
  lines : texts l.lines.items ≡ texts l.fn.lines.items ++ lines_of_events (map seen_event (take l.event-index l.events)) l.fn.self;
}
