use Rattle.std.proofs.Common.{◌≡◌, List, true, vec_capacity}
use Rattle.std.specs.Io.KnownBytes.{Appends}
use Rattle.crossterm_command.specs.Tokens.{text_of}
use Rattle.crossterm_command.proofs.TokenLaws.{one_reading}
use Rattle.screen.specs.declared.starts.Start.TheVariants as start
use Rattle.screen.specs.declared.strokes.Stroke.{Stroke}
use Rattle.screen.specs.inside.Scans.{PlannedNext}
use Rattle.screen.specs.inside.Strokes.{AreFitting, written_of}
use Rattle.screen.proofs.Frames.{view_of}
use Rattle.screen.proofs.NextFrames.{next_planned}
use Rattle.screen.proofs.Written.{strokes_read}
use Rattle.screen.proofs.screens.Screen.draw_next.Goals as goal

pub returns-clause-frame : goal.returns-clause-frame
returns-clause-frame g c =
    let held = g.W.Write.contents in
    let w = c.self.inside.width in
    let h = c.self.inside.height in
    let shown = c.self.inside.shown.items in
    let room = vec_capacity c.self.inside.shown in
    let colors = c.args.colors in
    let from = c.args.from in
    let column = c.args.column in
    let before = c.deref_mut.result.now in
    let after = c.cells.result.now in
    let view : view_of w h c.self.inside.drawn shown room ≡ c.args.self.now = c.self.view_is in
    let written : (strokes : List Stroke) × PlannedNext w before after from column strokes × AreFitting (start.All from) strokes × Appends (held c.args.writer.now) (held c.write_next.new.writer) (text_of (written_of true colors strokes)) =
    c.in_default.ensures.ok in
    let ts = written_of true colors written.0 in
    let read = strokes_read true colors (start.All from) written.0 written.2 in (
      written.0,
      (text_of ts, written.3, read, λ us other. one_reading (text_of ts) us ts other read),
      written.2,
      next_planned c.args.self.now w h c.self.inside.drawn shown before after room colors c.args.buffer.now from column written.0 view c.requires.known c.deref_mut.ensures.value c.cells.ensures.cells written.1,
    )
