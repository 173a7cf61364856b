use Rattle.std.proofs.Common.{◌≡◌, ℕ, Option, Some}
use Rattle.std.specs.Duration.{as_nanos}
use Rattle.crossterm_read.specs.Entries.{IsKeyboard}
use Rattle.crossterm_read.specs.History.{last_taken}
use Rattle.crossterm_read.specs.Replies.{shown}
use Rattle.crossterm_read.specs.inside.Replies.{flags_said, last_said}
use Rattle.crossterm_read.proofs.read.shared.reader.EventReader.keyboard_by.Given as goal

abbrev pub ghosts-put : goal.ghosts-put
ghosts-put g a = record {
  made = λ found e left. IsKeyboard g.S.EventSource.asked (Some a._about.now.0) (as_nanos a._about.now.1) (g.C.Clock.latest a._about.now.2.now) e.reply found e left × (flags_said a._about.now.3.now ≡ shown e.reply)
      × ((n : Option ℕ) → last_taken n e.reply ≡ last_said n a._about.now.3.now);
}
