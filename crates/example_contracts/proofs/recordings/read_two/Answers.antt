use Rattle.std.specs.Prelude.{◌∷◌, [], map}
use Rattle.std.proofs.Common.{ap, subst, sym, ◌∙◌}
use Rattle.crossterm_types.specs.Admitting.{admitted}
use Rattle.crossterm_types.specs.declared.event.filter.AnyFilter.TheVariants as filters
use Rattle.crossterm_read.specs.OverScripts.{IsNew}
use Rattle.crossterm_read.specs.Replies.{try_said}
use Rattle.crossterm_read.specs.Steps.{ReadStep, UpTo}
use Rattle.crossterm_read.specs.Store.{EventStore}
use Rattle.crossterm_read.specs.declared.read.call.Call.TheVariants as call
use Rattle.recorder.specs.Recording.{Recording}
use Rattle.example_contracts.specs.Recorded.{CallsReplay}
use Rattle.example_contracts.proofs.Recorded.{two_replay}
use Rattle.example_contracts.proofs.recordings.read_two.Goals as goal

pub returns-clause-ok : goal.returns-clause-ok
returns-clause-ok g c still =
    let a = c.read_within-first.ensures.step in
    let b = c.read_within-second.ensures.step in
    let new = c.new-source.ensures in
    let source = ap (λ r. r.source) c.new-reader.ensures in
    let device = ap (λ s. s.device) source ∙ (new.device ∙ c.new-recorder.ensures) in
    let begun = c.new-reader.result in
    let mid = c.read_within-first.new.self in
    let left = c.read_within-second.new.self in
    subst (λ (r : Recording g.row.D.Denot g.row.W.Denot).
    CallsReplay g.W.Write.contents g.D.Device.answering.answered r left.source.device
    (call.Read c.args.tries filters.Event ∷ call.Read c.args.tries filters.Event ∷ [])
    (try_said c.read_within-first.result ∷ try_said c.read_within-second.result ∷ []) (map (λ h. h.0) left.store.held)) device
    (two_replay g.W.Write.contents g.D.Device.answering c.replays.ensures.plays c.one_result.ensures.shown c.args.tries filters.Event
    begun.source mid.source left.source mid.store left.store
    a.0 b.0 a.1 b.1 (try_said c.read_within-first.result) (try_said c.read_within-second.result)
    (subst IsNew (sym source) (record { waiting = new.waiting; represents = new.represents; untaken = new.untaken }))
    (ap (λ r. r.stop) device) still
    a.2 (subst (λ (s : EventStore). ReadStep (UpTo c.args.tries) (admitted filters.Event) a.0 s mid.store a.1) (ap (λ r. r.store) c.new-reader.ensures) a.3) a.4
    b.2 b.3 b.4)
