-- What a recording says that ended before its session.
use Rattle.std.proofs.Common.{◌≡◌, List, [], ◌∷◌, ◌++◌, ap, refl, sym, subst, ◌∙◌}
use Rattle.std.specs.List.{filter_map}
use Rattle.std.proofs.lemmas.Grind.{flat_map-append}
use Rattle.crossterm_parse.specs.declared.marked.Marked.{Marked}
use Rattle.crossterm_parse.specs.Division.{UniqueDivision}
use Rattle.crossterm_parse.specs.Grammar.{Whole}
use Rattle.crossterm_parse.specs.Meaning.{meaning_of}
use Rattle.crossterm_read.specs.Answers.{SourceAnswer}
use Rattle.crossterm_read.specs.Device.{DeviceAnswer, Bytes, Resized, Woken, Idle, Fault, marked_bytes}
use Rattle.crossterm_read.specs.Outcomes.{Ended, Happens, IsAnsweredBy, Outcome, Produces, Single, events_of, outcome_events}
use Rattle.crossterm_read.proofs.Fronts.{one_outcomes}
use Rattle.recorder.specs.Stopping.{FrontsHappen, OneList}

-- ---- events

pub one_list : UniqueDivision Whole → OneList
one_list unique ws es fs d e = d.3 ∙ ap events_of (one_outcomes unique [] ws d.0 e.0 d.1 e.1 d.2 e.2) ∙ sym e.3

abbrev Front : List Marked → List DeviceAnswer → List Outcome → Type 0
Front before ws bs = (cs : List Outcome) × (rest : List Outcome) × (after : List Marked) × Happens before ws cs after × (bs ≡ cs ++ rest)

front_happens : (before : List Marked) (ws more : List DeviceAnswer) (bs : List Outcome) (after : List Marked) → Happens before (ws ++ more) bs after → Front before ws bs
front_happens before [] more bs after h = ([], bs, before, refl, refl)
front_happens before (w ∷ ws) more [] after h = absurd h
front_happens before (w ∷ ws) more (b ∷ bs) after h =
    let r = front_happens h.0 ws more bs after h.2 in
    (b ∷ r.0, r.1, r.2, (h.0, h.1, r.3), ap (λ (l : List Outcome). b ∷ l) r.4)

pub fronts_happen : FrontsHappen
fronts_happen ws more all h =
    let r = front_happens [] ws more h.0 h.1 h.2 in
    (events_of r.0, events_of r.1, (r.0, r.2, r.3, refl), h.3 ∙ ap events_of r.4 ∙ flat_map-append outcome_events r.0 r.1)
