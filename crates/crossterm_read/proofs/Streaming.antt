-- What a stream makes of a read that waits for nobody, and of its worker's polls.
use Rattle.std.proofs.Common.{◌≡◌, ℕ, List, [], ◌∷◌, ◌++◌, Bool, Option, Result, Some, None, Ok, Err, refl, subst, inl, inr}
use Rattle.std.specs.declared.io.Error.{Error}
use Rattle.std.specs.declared.time.Duration.{Duration}
use Rattle.std.specs.IoError.{error_kind}
use Rattle.crossterm_types.specs.Seen.{Seen}
use Rattle.crossterm_types.specs.declared.event.Event.{Event}
use Rattle.crossterm_types.specs.declared.event.filter.AnyFilter.TheVariants as filters
use Rattle.crossterm_read.specs.Answers.{SourceAnswer}
use Rattle.crossterm_read.specs.Entries.{IsPoll, Polls, Tries}
use Rattle.crossterm_read.specs.History.{Known, Extends}
use Rattle.crossterm_read.specs.Replies.{Replied, ToPoll, ToTake, ToQuery, Fault, Came, Polled, Faulted, event_seen, event_tried, poll_reply, replied, shown}
use Rattle.crossterm_read.specs.Streams.{ReadsAtOnce, GivesItem, GivesNothing, PollsOn, OnlyPolls}

-- A reply that shows no event, and no fault, took nothing.
took_nothing : (r : Replied) → Came None ≡ shown r → r ≡ ToTake None
took_nothing (ToTake None) e = refl
took_nothing (ToTake (Some x)) e = absurd (not_some e)
  where
    not_some : {x : Seen} → Came None ≡ Came (Some x) → ⊥
    not_some e = cc
took_nothing (ToQuery x y) e = absurd (not_some e)
  where
    not_some : {x : Seen} → Came None ≡ Came (Some x) → ⊥
    not_some e = cc
took_nothing (ToPoll b) e = absurd (not_polled e)
  where
    not_polled : Came None ≡ Polled b → ⊥
    not_polled e = cc
took_nothing (Fault kind) e = absurd (not_fault e)
  where
    not_fault : Came None ≡ Faulted kind → ⊥
    not_fault e = cc

module _ {S : Type 0} (drawn : S → List SourceAnswer → S → Type 0) (asked : S → List (Option Duration)) (v w : Known S) where
  pub event_given : {A : Type 0} (event : Event A) → Tries drawn asked filters.Event v w (event_tried (Ok (Some event))) → GivesItem drawn asked v w (Ok event)
  event_given event (inl h) = inl h
  event_given event (inr h) = absurd (not_none (event_seen event) h.0)
    where
      not_none : (x : Seen) → Came (Some x) ≡ Came None → ⊥
      not_none x e = cc

  pub fault_given : (A : Type 0) (fault : Error) → Tries drawn asked filters.Event v w (Faulted (error_kind fault)) → GivesItem drawn asked {A = A} v w (Err fault)
  fault_given A fault (inl h) = inl h
  fault_given A fault (inr h) = absurd (not_none h.0)
    where
      not_none : Faulted (error_kind fault) ≡ Came None → ⊥
      not_none e = cc

  pub nothing_given : Tries drawn asked filters.Event v w (Came None) → GivesNothing drawn asked v w
  nothing_given (inl h) = inl (subst (λ r. ReadsAtOnce drawn asked r v w) (took_nothing h.0 h.1) h.2)
  nothing_given (inr h) = inr h.1

module _ {S : Type 0} (drawn : S → List SourceAnswer → S → Type 0) (asked : S → List (Option Duration)) where
  one_more : (v u w : Known S) (rs : List Replied) (r : Replied) → PollsOn drawn asked v rs u → Extends drawn (IsPoll asked filters.Event None 0 0 r) u w → PollsOn drawn asked v (rs ++ r ∷ []) w
  one_more v u w [] r h x = (w, subst (λ k. Extends drawn (IsPoll asked filters.Event None 0 0 r) k w) h x, refl)
  one_more v u w (q ∷ rs) r h x = (h.0, h.1, one_more h.0 u w rs r h.2 x)

  -- One poll more. It has no limit, so that it had the reader.
  pub polls_more : (v u w : Known S) (result : Result Bool Error) (begins : ℕ → Type 0) → ((start : ℕ) → begins start → start ≡ 0) → OnlyPolls drawn asked v u → Polls drawn asked filters.Event None begins 0 u w result → OnlyPolls drawn asked v w
  polls_more v u w result begins zero h (start, b, inl x) =
      (h.0 ++ replied (poll_reply result) ∷ [], one_more v u w h.0 (replied (poll_reply result)) h.1 (subst (λ (n : ℕ). Extends drawn (IsPoll asked filters.Event None n 0 (replied (poll_reply result))) u w) (zero start b) x))
  polls_more v u w result begins zero h (start, b, inr x) = absurd x.2
