-- Two reads of a reader whose device is recorded.
use Rattle.std.specs.Prelude.{◌≡◌, ℕ, List, [], ◌∷◌, ◌++◌, map, Option, None, refl}
use Rattle.std.proofs.Common.{ap, subst, sym, ◌∙◌, append-nil}
use Rattle.crossterm_types.specs.Admitting.{admitted}
use Rattle.crossterm_types.specs.declared.event.filter.AnyFilter.{AnyFilter}
use Rattle.crossterm_read.specs.Answers.{SourceAnswer}
use Rattle.crossterm_read.specs.Calls.{Plays, empty, all_answers}
use Rattle.crossterm_read.specs.Device.{Answering}
use Rattle.crossterm_read.specs.OneResult.{OneShown}
use Rattle.crossterm_read.specs.OverScripts.{IsNew}
use Rattle.crossterm_read.specs.Replies.{Replied, Said, shown}
use Rattle.crossterm_read.specs.Steps.{ReadStep, UpTo}
use Rattle.crossterm_read.specs.Store.{EventStore}
use Rattle.crossterm_read.specs.declared.read.call.Call.{Call}
use Rattle.crossterm_read.specs.declared.read.call.Call.TheVariants as call
use Rattle.crossterm_read.specs.Sources.{Source, SourceDrawn, source_on}
use Rattle.recorder.specs.Answering.{recorder_answering}
use Rattle.recorder.specs.Recording.{Recording, Records, recorded}
use Rattle.recorder.specs.Replaying.{EndsLast, PlaysAlike}
use Rattle.example_contracts.specs.Recorded.{CallsReplay}

two_calls : ℕ → AnyFilter → List Call
two_calls tries f = call.Read tries f ∷ call.Read tries f ∷ []

pub two_replay : {D W : Type 0} (contents : W → Option (List ℕ)) (answering : Answering D) → PlaysAlike contents answering.answered → OneShown
    → (tries : ℕ) (f : AnyFilter) (s m t : Source (Recording D W)) (one two : EventStore) (zs ys : List SourceAnswer) (p q : Replied) (a b : Said)
    → IsNew s → s.device.stop ≡ None → t.device.stop ≡ None
    → SourceDrawn (Records contents answering.answered) s zs m → ReadStep (UpTo tries) (admitted f) zs empty one p → a ≡ shown p
    → SourceDrawn (Records contents answering.answered) m ys t → ReadStep (UpTo tries) (admitted f) ys one two q → b ≡ shown q
    → CallsReplay contents answering.answered s.device t.device (call.Read tries f ∷ call.Read tries f ∷ []) (a ∷ b ∷ []) (map (λ h. h.0) two.held)
unfolding two_calls
two_replay {D} {W} contents answering law one_shown tries f s m t one two zs ys p q a b new begun still d e x u v y =
    let r = law s t (two_calls tries f) (zs ∷ ys ∷ []) (p ∷ q ∷ []) two new begun still drawn (one, e, (two, v, refl)) in
    let plays : EndsLast r.0.given → Plays (recorded r.0.given) (two_calls tries f) (a ∷ b ∷ []) (map (λ h. h.0) two.held) =
    λ ends. subst (λ (l : List Said). Plays (recorded r.0.given) (two_calls tries f) l (map (λ h. h.0) two.held)) (sym same) (r.1 ends).0 in (
      all_answers (zs ∷ ys ∷ []),
      r.0,
      λ ends. (
        plays ends,
        λ apart fine others kept other good.
            one_shown (recorded r.0.given) (two_calls tries f) (a ∷ b ∷ []) others (map (λ h. h.0) two.held) kept apart (tt, (tt, tt)) (plays ends) fine other good,
      ),
    )
  where
    both : SourceDrawn (Records contents answering.answered) s (zs ++ ys) t
    both = source_on (recorder_answering contents answering).answered (recorder_answering contents answering).on s m t zs ys d u

    drawn : SourceDrawn (Records contents answering.answered) s (all_answers (zs ∷ ys ∷ [])) t
    drawn = subst (λ (l : List SourceAnswer). SourceDrawn (Records contents answering.answered) s (zs ++ l) t) (sym (append-nil ys)) both

    same : a ∷ b ∷ [] ≡ map shown (p ∷ q ∷ [])
    same = ap (λ c. c ∷ b ∷ []) x ∙ ap (λ c. shown p ∷ c ∷ []) y
