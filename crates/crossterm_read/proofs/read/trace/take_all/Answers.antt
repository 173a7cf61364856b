use Rattle.std.proofs.Common.{◌≡◌, ◌∙◌, ℕ, suc, cond, true, List, [], ◌∷◌, ◌++◌, Option, Some, None, length, map, ap, refl, sym, append_assoc, append-nil, get_or, arith}
use Rattle.std.proofs.lemmas.List.{length-map, map-append}
use Rattle.std.proofs.lemmas.Bool.{lt-ltb}
use Rattle.std.specs.List.{remove}
use Rattle.std.specs.Option.{option_map}
use Rattle.crossterm_types.specs.Seen.{Seen, seen}
use Rattle.crossterm_read.specs.Store.{EventStore}
use Rattle.crossterm_read.specs.Steps.{TakeReplies, first_admitted}
use Rattle.crossterm_read.proofs.read.trace.take_all.Goals as goal

abbrev given_or : {X : Type 0} → X → Option X → X
given_or d None = d
given_or d (Some x) = x

-- The first of all is the first that is admitted.
first_is : (k : Seen × ℕ) (ks : List (Seen × ℕ)) → first_admitted (λ _. true) (k ∷ ks) ≡ Some 0
first_is k ks = ap (λ b. cond b (Some 0) None) (lt-ltb 0 (suc (length ks)) (omega arith))

-- The first of all is taken.
first_taken : (held left : List (Seen × ℕ)) (n m : ℕ) (x : Option (Seen × ℕ)) (e : Seen) → TakeReplies (λ _. true) (record { held = held; arrivals = n }) (record { held = left; arrivals = m }) x
    → Some e ≡ option_map (λ k. k.0) x → map (λ k. k.0) held ≡ e ∷ map (λ k. k.0) left
first_taken held left n m None e s h = absurd (cc)
first_taken [] left n m (Some y) e s h = absurd (let none = s.1 in cc)
first_taken (k ∷ ks) left n m (Some y) e s h =
    let at : 0 ≡ s.0 = ap (λ o. given_or 0 o) (sym (first_is k ks) ∙ s.1) in
    let it : k ≡ y = ap (λ (i : ℕ). get_or (k ∷ ks) i y) at ∙ s.2 in
    let rest : left ≡ ks = ap (λ (t : EventStore). t.held) s.3 ∙ ap (λ (i : ℕ). remove (k ∷ ks) i) (sym at) in
    let event : e ≡ y.0 = ap (λ o. given_or e o) h in
    λ i. (ap (λ (z : Seen × ℕ). z.0) it ∙ sym event) i ∷ map (λ k. k.0) (sym rest i)

abbrev none_seen : Option Seen
none_seen = None

-- Nothing is taken if nothing is held.
none_held : (held left : List (Seen × ℕ)) (n m : ℕ) (x : Option (Seen × ℕ)) → TakeReplies (λ _. true) (record { held = held; arrivals = n }) (record { held = left; arrivals = m }) x → none_seen ≡ option_map (λ k. k.0) x → held ≡ []
none_held [] left n m x s h = refl
none_held (k ∷ ks) left n m None s h = let e = sym s.0 ∙ first_is k ks in absurd (cc)
none_held (k ∷ ks) left n m (Some y) s h = absurd (cc)

pub loop-event-smaller : goal.loop-event-smaller
loop-event-smaller g c =
    let old = c.loop-event.reader.store in
    let new = c.take.new.self.store in
    let step = c.in-Some.ensures.step in
    let fewer = ap length (first_taken old.held new.held old.arrivals new.arrivals step.0 (seen c.in-Some.event) step.1 step.2) in
    let before = length-map old.held (λ k. k.0) in
    let after = length-map new.held (λ k. k.0) in
    omega arith

pub loop-event-preserved : goal.loop-event-preserved
loop-event-preserved g c =
    let old = c.loop-event.reader.store in
    let new = c.take.new.self.store in
    let step = c.in-Some.ensures.step in
    let first = first_taken old.held new.held old.arrivals new.arrivals step.0 (seen c.in-Some.event) step.1 step.2 in
    let items = c.loop-event.events.items in
    ap (λ l. map seen l ++ map (λ k. k.0) new.held) c.in_ok-push.ensures.items ∙ ap (λ l. l ++ map (λ k. k.0) new.held) (map-append seen items (c.in-Some.event ∷ []))
    ∙ append_assoc (map seen items) (seen c.in-Some.event ∷ []) (map (λ k. k.0) new.held) ∙ ap (λ l. map seen items ++ l) (sym first) ∙ c.loop-event.invariant

pub returns : goal.returns
returns g c =
    let old = c.loop-event.reader.store in
    let new = c.take.new.self.store in
    let step = c.in_default.ensures.step in
    let none = none_held old.held new.held old.arrivals new.arrivals step.0 step.1 step.2 in
    sym (append-nil (map seen c.loop-event.events.items)) ∙ ap (λ l. map seen c.loop-event.events.items ++ map (λ k. k.0) l) (sym none) ∙ c.loop-event.invariant
