-- What each call takes, by which filter.
use Rattle.std.proofs.Common.{◌≡◌, ℕ, Bool, true, false, List, [], ◌∷◌, Option, Some, None, Result, Ok, Err, inl, inr, refl, sym, subst}
use Rattle.std.specs.declared.io.ErrorKind.{ErrorKind}
use Rattle.std.specs.declared.io.ErrorKind.TheVariants.{Other}
use Rattle.crossterm_types.specs.Seen.{Seen}
use Rattle.crossterm_types.specs.Admitting.{admitted, is_attributes}
use Rattle.crossterm_types.specs.declared.event.filter.AnyFilter.{AnyFilter}
use Rattle.crossterm_types.specs.declared.event.filter.AnyFilter.TheVariants as filter
use Rattle.crossterm_read.specs.Answers.{SourceAnswer}
use Rattle.crossterm_read.specs.Calls.{Request, Poll, Read, Take, Position, Keyboard, Step}
use Rattle.crossterm_read.specs.History.{Entry, Runs, RiseByFilter, took, takes_of}
use Rattle.crossterm_read.specs.Store.{IsLow, EventStore, ReaderState, Arrives}
use Rattle.crossterm_read.specs.inside.Numbers.{IsOrderly}
use Rattle.crossterm_read.specs.Queries.{QueryReplies, QueryStep, AfterReply, LeftReplies, FlagsReplies}
use Rattle.crossterm_read.specs.Replies.{Replied, ToTake, ToQuery, Fault}
use Rattle.crossterm_read.specs.Steps.{Patience, ReadReplies, TakeReplies}
use Rattle.crossterm_read.proofs.Rising.{Does, none_does, take_does, both_do, does_rise}

-- events arrive, and then this is done
draw_does : (zs : List SourceAnswer) (s m t : EventStore) (ys : List (AnyFilter × ℕ)) → Arrives s zs m → Does m ys t → Does s ys t
draw_does zs s m t ys a d = both_do s m t [] ys (zs, a) d

abbrev StepDoes : Request → EventStore → EventStore → Replied → Type 0
StepDoes c s t r = Does s (took c r) t

-- nothing more changes, and that is the reply
then_same : (c : Request) (s m t : EventStore) (q r : Replied) → StepDoes c s m q → t ≡ m → r ≡ q → StepDoes c s t r
then_same c s m t q r d e h = subst (λ (y : Replied). StepDoes c s t y) (sym h) (subst (λ (y : EventStore). StepDoes c s y q) (sym e) d)

-- a request that takes by this filter takes what is there, or nothing
one_taken : (f : AnyFilter) (c : Request) → ((x : Seen × ℕ) → took c (ToTake (Some x)) ≡ (f, x.1) ∷ []) → (m t : EventStore) (x : Seen × ℕ) (r : Replied) → TakeReplies (admitted f) m t (Some x) → r ≡ ToTake (Some x) → StepDoes c m t r
one_taken f c one m t x r h e = subst (λ (y : Replied). StepDoes c m t y) (sym e) (subst (λ (l : List (AnyFilter × ℕ)). Does m l t) (sym (one x)) (take_does f m t x h))

option_taken : (f : AnyFilter) (c : Request) → ((x : Seen × ℕ) → took c (ToTake (Some x)) ≡ (f, x.1) ∷ []) → took c (ToTake None) ≡ [] → (m t : EventStore) (x : Option (Seen × ℕ)) (r : Replied)
    → TakeReplies (admitted f) m t x → r ≡ ToTake x → StepDoes c m t r
option_taken f c one none m t (Some x) r h e = one_taken f c one m t x r h e
option_taken f c one none m t None r h e = then_same c m m t (ToTake None) r (subst (λ (l : List (AnyFilter × ℕ)). Does m l m) (sym none) (none_does m)) h.1 e

read_replies : (tries : Patience) (f : AnyFilter) (end : Result Bool ErrorKind) (m t : EventStore) (r : Replied) → ReadReplies (admitted f) end m t r → StepDoes (Read tries f) m t r
read_replies tries f (Ok true) m t r h = option_taken f (Read tries f) (λ x. refl) refl m t h.0 r h.1 h.2
read_replies tries f (Ok false) m t r h = then_same (Read tries f) m m t (ToTake None) r (none_does m) h.0 h.1
read_replies tries f (Err kind) m t r h = then_same (Read tries f) m m t (Fault kind) r (none_does m) h.0 h.1

-- a query of a request that takes by this filter
query_fails : (c : Request) (kind : ErrorKind) → took c (Fault kind) ≡ [] → (m t : EventStore) (r : Replied) → (t ≡ m) × (r ≡ Fault kind) → StepDoes c m t r
query_fails c kind none m t r h = then_same c m m t (Fault kind) r (subst (λ (l : List (AnyFilter × ℕ)). Does m l m) (sym none) (none_does m)) h.0 h.1

query_replies : (f : AnyFilter) (c : Request) → ((x : Seen × ℕ) → took c (ToTake (Some x)) ≡ (f, x.1) ∷ []) → ((kind : ErrorKind) → took c (Fault kind) ≡ []) → (p : Result Bool ErrorKind) (m t : EventStore) (r : Replied)
    → QueryReplies (admitted f) p m t r → StepDoes c m t r
query_replies f c one none (Ok true) m t r h = one_taken f c one m t h.0 r h.1 h.2
query_replies f c one none (Ok false) m t r h = query_fails c Other (none Other) m t r h
query_replies f c one none (Err kind) m t r h = query_fails c kind (none kind) m t r h

query_does : (f : AnyFilter) (c : Request) → ((x : Seen × ℕ) → took c (ToTake (Some x)) ≡ (f, x.1) ∷ []) → ((kind : ErrorKind) → took c (Fault kind) ≡ []) → (tries : Patience) (zs : List SourceAnswer) (s t : EventStore) (r : Replied)
    → QueryStep (admitted f) tries zs s t r → StepDoes c s t r
query_does f c one none tries zs s t r h = draw_does zs s h.0 t (took c r) h.2.2 (query_replies f c one none h.1 h.0 t r h.3)

module _ (tries again : Patience) where
  abbrev KeyboardDoes : EventStore → EventStore → Replied → Type 0
  KeyboardDoes s t r = StepDoes (Keyboard tries again) s t r

  left_replies : (x : Seen × ℕ) (p : Result Bool ErrorKind) (s m t : EventStore) (r : Replied) → KeyboardDoes s m (ToTake (Some x)) → LeftReplies p x m t r → KeyboardDoes s t r
  left_replies x (Ok true) s m t r d h =
      subst (λ (y : Replied). KeyboardDoes s t y) (sym h.2) (both_do s m t ((filter.Flags, x.1) ∷ []) ((filter.Attributes, h.0.1) ∷ []) d (take_does filter.Attributes m t h.0 h.1))
  left_replies x (Ok false) s m t r d h = then_same (Keyboard tries again) s m t (ToQuery x None) r d h.0 h.1
  left_replies x (Err kind) s m t r d h = then_same (Keyboard tries again) s m t (ToQuery x None) r d h.0 h.1

  after_does : (zs : List SourceAnswer) (attributes : Bool) (x : Seen × ℕ) (s m t : EventStore) (r : Replied) → KeyboardDoes s m (ToTake (Some x)) → AfterReply again zs attributes x m t r → KeyboardDoes s t r
  after_does zs false x s m t r d h = left_replies x h.1 s h.0 t r (both_do s m h.0 ((filter.Flags, x.1) ∷ []) [] d (zs, h.2.2)) h.3
  after_does zs true x s m t r d h = then_same (Keyboard tries again) s m t (ToTake (Some x)) r d h.1 h.2

  flags_do : (zs : List SourceAnswer) (q : Replied) (s m t : EventStore) (r : Replied) → KeyboardDoes s m q → FlagsReplies again zs q m t r → KeyboardDoes s t r
  flags_do zs q s m t r d (inl h) = after_does zs (is_attributes h.0.0) h.0 s m t r (subst (λ (y : Replied). KeyboardDoes s m y) h.1 d) h.2
  flags_do zs q s m t r d (inr h) = then_same (Keyboard tries again) s m t (Fault h.0) r (subst (λ (y : Replied). KeyboardDoes s m y) h.1 d) h.2.1 h.2.2

step_does : (c : Request) (zs : List SourceAnswer) (s t : EventStore) (r : Replied) → Step c zs s t r → StepDoes c s t r
step_does (Poll tries f) zs s t r h = (zs, h.1.2)
step_does (Read tries f) zs s t r h = draw_does zs s h.1 t (took (Read tries f) r) h.3 (read_replies tries f h.0 h.1 t r h.4)
step_does (Take f) zs s t r h = option_taken f (Take f) (λ x. refl) refl s t h.1.0 r h.1.1 h.1.2
step_does (Position tries) zs s t r h = query_does filter.Cursor (Position tries) (λ x. refl) (λ kind. refl) tries zs s t r h
step_does (Keyboard tries again) zs s t r h =
    flags_do tries again h.1 h.3 s h.2 t r (query_does filter.Flags (Keyboard tries again) (λ x. refl) (λ kind. refl) tries h.0 s h.2 h.3 h.5) h.6

module _ {S : Type 0} (drawn : S → List SourceAnswer → S → Type 0) where
  runs_do : (s t : ReaderState S) (log : List Entry) → Runs drawn s log t → Does s.store (takes_of log) t.store
  runs_do s t [] h = subst (λ (y : ReaderState S). Does s.store [] y.store) h (none_does s.store)
  runs_do s t (e ∷ es) h =
      both_do s.store h.0.store t.store (took e.call e.reply) (takes_of es) (step_does e.call e.answers s.store h.0.store e.reply h.1.1) (runs_do h.0 t es h.2)

  -- Until the numbers have come to the greatest, what one filter takes in a legal history has rising numbers.
  pub rise : (o t : ReaderState S) (log : List Entry) → IsOrderly o.store.held o.store.arrivals → Runs drawn o log t → IsLow t.store.arrivals → RiseByFilter (takes_of log)
  rise o t log orderly h low = does_rise o.store t.store (takes_of log) (runs_do o t log h) low orderly
