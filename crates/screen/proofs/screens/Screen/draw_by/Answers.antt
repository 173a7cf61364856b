use Rattle.std.proofs.Common.{rules, ◌≡◌, ℕ, ◌*◌, List, None, ap, ◌∙◌, subst, length, replicate, vec_capacity, if◌then◌else◌}
use Rattle.std.specs.Io.KnownBytes.{Appends}
use Rattle.crossterm_command.specs.Tokens.{text_of}
use Rattle.crossterm_command.specs.Writing.{AppendsFront}
use Rattle.crossterm_command.proofs.TokenLaws.{one_reading}
use Rattle.screen.specs.declared.strokes.Stroke.{Stroke}
use Rattle.screen.specs.Cells.{blank}
use Rattle.screen.specs.Screens.{View}
use Rattle.screen.specs.Drawings.{CursorFits, forgotten}
use Rattle.screen.specs.inside.Scans.{Planned, is_known, start_by}
use Rattle.screen.specs.inside.Strokes.{AreFitting, written_of}
use Rattle.screen.proofs.Frames.{fitting_by, frame_of, view_of}
use Rattle.screen.proofs.Written.{strokes_read}
use Rattle.screen.proofs.screens.Screen.draw_by.Goals as goal

-- A screen of which nothing is known, by its room.
same_room : (width height m n : ℕ) → m ≡ n → ◌≡◌ {A = View} (record { width = width; height = height; drawn = None; room = m }) (record { width = width; height = height; drawn = None; room = n })
same_room width height m n e = ap (λ k. record { width = width; height = height; drawn = None; room = k }) e

pub returns-in-Ok-clause-frame : goal.returns-in-Ok-clause-frame
returns-in-Ok-clause-frame g c =
    let held = g.W.Write.contents in
    let w = c.self.inside.width in
    let h = c.self.inside.height in
    let drawn = c.self.inside.drawn in
    let shown = c.self.inside.shown.items in
    let room = vec_capacity c.self.inside.shown in
    let colors = c.args.colors in
    let in_row = c.args.in_row in
    let p = c.args.buffer.now in
    let known = c.prepare-is_known.result in
    let prepared = c.prepare-is_known.new.cells.items in
    let before = c.deref_mut.result.now in
    let after = c.cells-after.result.now in
    let view : view_of w h drawn shown room ≡ c.args.self.now = c.self.view_is in
    let pw : p.width ≡ w = search rules in
    let ph : p.height ≡ h = search rules in
    let cells : after ≡ p.cells = search rules in
    let knows : known ≡ is_known drawn colors = search rules in
    let prep : prepared ≡ (if is_known drawn colors then shown else replicate (length shown) blank) = search rules in
    let begins : before ≡ prepared = search rules in
    let len : length shown ≡ w * h = c.self.invariant.0 in
    let written : (strokes : List Stroke) × Planned known w h before after c.args.cursor strokes × AreFitting (start_by known) strokes × Appends (held c.args.writer.now) (held c.write_frame.new.writer) (text_of (written_of in_row colors strokes)) =
    c.in-Ok.ensures.ok in
    let ts = written_of in_row colors written.0 in
    let read = strokes_read in_row colors (start_by known) written.0 written.2 in (
      written.0,
      (text_of ts, written.3, read, λ us other. one_reading (text_of ts) us ts other read),
      fitting_by w h drawn shown room c.args.self.now colors known written.0 view knows written.2,
      frame_of c.args.self.now w h drawn shown prepared before after room colors p c.args.cursor known written.0 view pw ph cells knows prep begins len written.1,
    )

pub returns-in-Err-clause-err : goal.returns-in-Err-clause-err
returns-in-Err-clause-err g c =
    let held = g.W.Write.contents in
    let w = c.self.inside.width in
    let h = c.self.inside.height in
    let drawn = c.self.inside.drawn in
    let shown = c.self.inside.shown.items in
    let room = vec_capacity c.self.inside.shown in
    let colors = c.args.colors in
    let in_row = c.args.in_row in
    let p = c.args.buffer.now in
    let known = c.prepare-is_known.result in
    let prepared = c.prepare-is_known.new.cells.items in
    let before = c.deref_mut.result.now in
    let after = c.cells-after.result.now in
    let view : view_of w h drawn shown room ≡ c.args.self.now = c.self.view_is in
    let pw : p.width ≡ w = search rules in
    let ph : p.height ≡ h = search rules in
    let cells : after ≡ p.cells = search rules in
    let knows : known ≡ is_known drawn colors = search rules in
    let prep : prepared ≡ (if is_known drawn colors then shown else replicate (length shown) blank) = search rules in
    let begins : before ≡ prepared = search rules in
    let len : length shown ≡ w * h = c.self.invariant.0 in
    let fits : CursorFits (view_of w h drawn shown room) c.args.cursor = search rules in
    let written : (strokes : List Stroke) × Planned known w h before after c.args.cursor strokes × AreFitting (start_by known) strokes × AppendsFront (held c.args.writer.now) (held c.write_frame.new.writer) (text_of (written_of in_row colors strokes)) =
    c.in-Err.ensures.err in (
      (pw ∙ ap (λ s. s.width) view, ph ∙ ap (λ s. s.height) view),
      subst (λ s. CursorFits s c.args.cursor) view fits,
      same_room w h (vec_capacity c.prepare-is_known.new.cells) room c.prepare-is_known.ensures.room ∙ ap forgotten view,
      written.0,
      fitting_by w h drawn shown room c.args.self.now colors known written.0 view knows written.2,
      frame_of c.args.self.now w h drawn shown prepared before after room colors p c.args.cursor known written.0 view pw ph cells knows prep begins len written.1,
      written.3,
    )
