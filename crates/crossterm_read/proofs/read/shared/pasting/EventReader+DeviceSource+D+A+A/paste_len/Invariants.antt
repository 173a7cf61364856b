use Rattle.std.proofs.Common.{◌≡◌}
use Rattle.crossterm_types.specs.declared.event.filter.AnyFilter.TheVariants as filters
use Rattle.crossterm_read.specs.Calls.{Poll}
use Rattle.crossterm_read.specs.Device.{AsksAtOnce}
use Rattle.crossterm_read.specs.Entries.{IsCall}
use Rattle.crossterm_read.specs.Replies.{poll_reply, replied}
use Rattle.crossterm_read.specs.Steps.{UpTo}
use Rattle.crossterm_read.specs.Sources.{HasPaste}
use Rattle.crossterm_read.proofs.read.shared.pasting.EventReader+DeviceSource+D+A+A.paste_len.Given as goal

abbrev pub ghosts-put : goal.ghosts-put
ghosts-put g a = record {
  made = λ found e left. IsCall (λ s. g.D.Device.asked s.device) (λ call. call ≡ Poll (UpTo 0) filters.Event) AsksAtOnce (replied (poll_reply a._about.now.0.now)) found e left × HasPaste a._about.now.1 left.source;
}
