-- Over any run of turns, what was given and what waits are all outcomes of the keys that count, and all other events.
use Rattle.std.proofs.Common.{◌≡◌, Bool, List, [], ◌∷◌, ◌++◌, append_assoc, refl, sym, ap, ◌∙◌, subst, map}
use Rattle.std.proofs.lemmas.List.{append-nil}
use Rattle.crossterm_types.specs.Seen.{Seen}
use Rattle.crossterm_types.specs.declared.event.key.KeyEvent.{KeyEvent}
use Rattle.keymap.specs.Bindings.{Binding, bound_of}
use Rattle.keymap.specs.Chords.{Bound, longest}
use Rattle.keymap.specs.Cut.{Place, cut_keys, given, left, outcome_there, outcome_of, places, decided, remaining}
use Rattle.keymap.specs.Matching.{Matching, IsFed, IsFlushed, MatcherRepresents, TakesOutcome}
use Rattle.keymap.specs.Runs.{MatcherCall, outcomes}
use Rattle.keymap.specs.Taking.{IsPassed, TakesBy, way_of}
use Rattle.keymap.specs.Outcomes.{SeenOutcome, Action, Key, Event}
use Rattle.keymap.specs.Turns.{StepPart, Came, Rested, Gave, TakesTurns, TurnsGiveOutcomes, given_outcomes, key_calls, act_by, unfed, unfed_by, of_keys, events}
use Rattle.keymap.specs.declared.inside.Match.{Match}
use Rattle.keymap.specs.declared.inside.Way.{Way}
use Rattle.keymap.specs.declared.inside.Way.TheVariants.{Feed, Pass, Follow}
use Rattle.std.specs.Prelude.{Option, Some, None}

of_keys_join : (a b : List SeenOutcome) → of_keys (a ++ b) ≡ of_keys a ++ of_keys b
of_keys_join [] b = refl
of_keys_join (Action number ∷ a) b = ap (λ l. Action number ∷ l) (of_keys_join a b)
of_keys_join (Key key ∷ a) b = ap (λ l. Key key ∷ l) (of_keys_join a b)
of_keys_join (Event x ∷ a) b = of_keys_join a b

events_join : (a b : List SeenOutcome) → events (a ++ b) ≡ events a ++ events b
events_join [] b = refl
events_join (Action number ∷ a) b = events_join a b
events_join (Key key ∷ a) b = events_join a b
events_join (Event x ∷ a) b = ap (λ l. x ∷ l) (events_join a b)

-- The outcomes at places are of keys.
outcome_key : (k : KeyEvent) (m : Option Match) (l : List SeenOutcome) → of_keys (outcome_of k m ∷ l) ≡ outcome_of k m ∷ of_keys l
outcome_key k None l = refl
outcome_key k (Some m) l = refl

outcome_event : (k : KeyEvent) (m : Option Match) (l : List SeenOutcome) → events (outcome_of k m ∷ l) ≡ events l
outcome_event k None l = refl
outcome_event k (Some m) l = refl

at_keys : (bound : Bound) (ps : List Place) → of_keys (map (outcome_there bound) ps) ≡ map (outcome_there bound) ps
at_keys bound [] = refl
at_keys bound (p ∷ ps) = outcome_key p.key (longest bound (remaining p)) (map (outcome_there bound) ps) ∙ ap (λ l. outcome_there bound p ∷ l) (at_keys bound ps)

at_events : (bound : Bound) (ps : List Place) → events (map (outcome_there bound) ps) ≡ []
at_events bound [] = refl
at_events bound (p ∷ ps) = outcome_event p.key (longest bound (remaining p)) (map (outcome_there bound) ps) ∙ at_events bound ps

-- What joins the given of keys is of keys, if both together are the outcomes at places.
more_keys : (bound : Bound) (ps qs : List Place) (more : List SeenOutcome) → map (outcome_there bound) qs ≡ map (outcome_there bound) ps ++ more
    → map (outcome_there bound) ps ++ of_keys more ≡ map (outcome_there bound) qs
more_keys bound ps qs more e =
    ap (λ l. l ++ of_keys more) (sym (at_keys bound ps)) ∙ sym (of_keys_join (map (outcome_there bound) ps) more) ∙ ap of_keys (sym e) ∙ at_keys bound qs

more_events : (bound : Bound) (ps qs : List Place) (more : List SeenOutcome) → map (outcome_there bound) qs ≡ map (outcome_there bound) ps ++ more → events more ≡ []
more_events bound ps qs more e =
    ap (λ l. l ++ events more) (sym (at_events bound ps)) ∙ sym (events_join (map (outcome_there bound) ps) more) ∙ ap events (sym e) ∙ at_events bound qs

-- More outcomes of keys wait.
wait_keys : (past old more : List SeenOutcome) (done now next : List SeenOutcome) → of_keys (past ++ old) ≡ done ++ now → now ++ of_keys more ≡ next
    → of_keys (past ++ (old ++ more)) ≡ done ++ next
wait_keys past old more done now next e f =
    ap of_keys (sym (append_assoc past old more)) ∙ of_keys_join (past ++ old) more ∙ ap (λ l. l ++ of_keys more) e ∙ append_assoc done now (of_keys more)
    ∙ ap (λ l. done ++ l) f

wait_events : (past old more : List SeenOutcome) (apart : List Seen) → events (past ++ old) ≡ apart → events more ≡ [] → events (past ++ (old ++ more)) ≡ apart
wait_events past old more apart e f =
    ap events (sym (append_assoc past old more)) ∙ events_join (past ++ old) more ∙ ap (λ l. l ++ events more) e ∙ ap (λ l. apart ++ l) f ∙ append-nil apart

-- An event joins what waits.
event_keys : (past old : List SeenOutcome) (x : Seen) → of_keys (past ++ (old ++ Event x ∷ [])) ≡ of_keys (past ++ old)
event_keys past old x = ap of_keys (sym (append_assoc past old (Event x ∷ []))) ∙ of_keys_join (past ++ old) (Event x ∷ []) ∙ append-nil (of_keys (past ++ old))

event_events : (past old : List SeenOutcome) (x : Seen) → events (past ++ (old ++ Event x ∷ [])) ≡ events (past ++ old) ++ x ∷ []
event_events past old x = ap events (sym (append_assoc past old (Event x ∷ []))) ∙ events_join (past ++ old) (Event x ∷ [])

-- The state of a matcher after some turns: it was fed these keys since the last flush, and these outcomes were given.
-- Those of keys before that flush are `done`, and the other events are `apart`.
record SoFar (m : Matching) (bindings : List Binding) (passes : Bool) (keys : List KeyEvent) (past done : List SeenOutcome) (apart : List Seen) : Type 0 where
  keymap : m.keymap ≡ bindings
  same : m.passes ≡ passes
  represents : MatcherRepresents m keys
  of_them : of_keys (past ++ m.waiting) ≡ done ++ given (bound_of bindings) keys
  others : events (past ++ m.waiting) ≡ apart

fed : (m u : Matching) (key : KeyEvent) (b : List Binding) (p : Bool) (keys : List KeyEvent) (past done : List SeenOutcome) (apart : List Seen)
    → SoFar m b p keys past done apart → IsFed m key u → SoFar u b p (keys ++ key ∷ []) past done apart
fed m u key b p keys past done apart s f =
    let g = f.gives keys s.represents in
    let ps = decided (bound_of b) (places (bound_of b) keys) in
    let qs = decided (bound_of b) (places (bound_of b) (keys ++ key ∷ [])) in
    let e : given (bound_of b) (keys ++ key ∷ []) ≡ given (bound_of b) keys ++ g.more =
    subst (λ l. given (bound_of l) (keys ++ key ∷ []) ≡ given (bound_of l) keys ++ g.more) s.keymap g.grows in
    record {
      keymap = f.keymap ∙ s.keymap;
      same = f.passes ∙ s.same;
      represents = g.represents;
      of_them = ap (λ w. of_keys (past ++ w)) g.waiting
          ∙ wait_keys past m.waiting g.more done (given (bound_of b) keys) (given (bound_of b) (keys ++ key ∷ [])) s.of_them (more_keys (bound_of b) ps qs g.more e);
      others = ap (λ w. events (past ++ w)) g.waiting ∙ wait_events past m.waiting g.more apart s.others (more_events (bound_of b) ps qs g.more e);
    }

flushed : (m u : Matching) (b : List Binding) (p : Bool) (keys : List KeyEvent) (past done : List SeenOutcome) (apart : List Seen)
    → SoFar m b p keys past done apart → IsFlushed m u → SoFar u b p [] past (done ++ cut_keys (bound_of b) keys) apart
flushed m u b p keys past done apart s f =
    let g = f.gives keys s.represents in
    let ps = decided (bound_of b) (places (bound_of b) keys) in
    let qs = places (bound_of b) keys in
    let e : cut_keys (bound_of b) keys ≡ given (bound_of b) keys ++ g.more =
    subst (λ l. cut_keys (bound_of l) keys ≡ given (bound_of l) keys ++ g.more) s.keymap g.grows in
    record {
      keymap = f.keymap ∙ s.keymap;
      same = f.passes ∙ s.same;
      represents = g.represents;
      of_them = ap (λ w. of_keys (past ++ w)) g.waiting
          ∙ wait_keys past m.waiting g.more done (given (bound_of b) keys) (cut_keys (bound_of b) keys) s.of_them (more_keys (bound_of b) ps qs g.more e)
          ∙ sym (append-nil (done ++ cut_keys (bound_of b) keys));
      others = ap (λ w. events (past ++ w)) g.waiting ∙ wait_events past m.waiting g.more apart s.others (more_events (bound_of b) ps qs g.more e);
    }

passed : (m u : Matching) (x : Seen) (b : List Binding) (p : Bool) (keys : List KeyEvent) (past done : List SeenOutcome) (apart : List Seen)
    → SoFar m b p keys past done apart → IsPassed m x u → SoFar u b p keys past done (apart ++ x ∷ [])
passed m u x b p keys past done apart s r =
    let kept : u.keymap ≡ m.keymap = ap (λ (k : Matching). k.keymap) r in
    let still : u.undecided ≡ m.undecided = ap (λ (k : Matching). k.undecided) r in
    let wait : u.waiting ≡ m.waiting ++ Event x ∷ [] = ap (λ (k : Matching). k.waiting) r in
    let same : u.passes ≡ m.passes = ap (λ (k : Matching). k.passes) r in
    record {
      keymap = kept ∙ s.keymap;
      same = same ∙ s.same;
      represents = still ∙ s.represents ∙ ap (λ (v : List Binding). left (bound_of v) keys) (sym kept);
      of_them = ap (λ w. of_keys (past ++ w)) wait ∙ event_keys past m.waiting x ∙ s.of_them;
      others = ap (λ w. events (past ++ w)) wait ∙ event_events past m.waiting x ∙ ap (λ l. l ++ x ∷ []) s.others;
    }

taken : (m u : Matching) (x : SeenOutcome) (b : List Binding) (p : Bool) (keys : List KeyEvent) (past done : List SeenOutcome) (apart : List Seen)
    → SoFar m b p keys past done apart → TakesOutcome m (Some x) u → SoFar u b p keys (past ++ x ∷ []) done apart
taken m u x b p keys past done apart s t =
    let kept : u.keymap ≡ m.keymap = ap (λ (k : Matching). k.keymap) t.1 in
    let still : u.undecided ≡ m.undecided = ap (λ (k : Matching). k.undecided) t.1 in
    let same : u.passes ≡ m.passes = ap (λ (k : Matching). k.passes) t.1 in
    let joined : (past ++ x ∷ []) ++ u.waiting ≡ past ++ m.waiting = append_assoc past (x ∷ []) u.waiting ∙ ap (λ w. past ++ w) (sym t.0) in
    record {
      keymap = kept ∙ s.keymap;
      same = same ∙ s.same;
      represents = still ∙ s.represents ∙ ap (λ (v : List Binding). left (bound_of v) keys) (sym kept);
      of_them = ap of_keys joined ∙ s.of_them;
      others = ap events joined ∙ s.others;
    }

-- What is given after further turns.
abbrev Ends : Matching → List SeenOutcome → List MatcherCall → List Seen → List Binding → List KeyEvent → List SeenOutcome → List Seen → Type 0
Ends n all key_calls others b keys done apart =
    (of_keys (all ++ n.waiting) ≡ done ++ outcomes (bound_of b) keys key_calls) × (events (all ++ n.waiting) ≡ apart ++ others)

came : (way : Way) (m u n : Matching) (x : Seen) (turns : List StepPart) (b : List Binding) (p : Bool) (keys : List KeyEvent) (past done : List SeenOutcome) (apart : List Seen)
    → SoFar m b p keys past done apart → TakesBy way m x u
    → ((ks : List KeyEvent) (d : List SeenOutcome) (t : List Seen) → SoFar u b p ks past d t → Ends n (past ++ given_outcomes turns) (key_calls p turns) (unfed p turns) b ks d t)
    → Ends n (past ++ given_outcomes turns) (act_by way ++ key_calls p turns) (unfed_by way x ++ unfed p turns) b keys done apart
came (Feed key) m u n x turns b p keys past done apart s f next = next (keys ++ key ∷ []) done apart (fed m u key b p keys past done apart s f)
came Pass m u n x turns b p keys past done apart s f next =
    let e = next keys done (apart ++ x ∷ []) (passed m u x b p keys past done apart s f) in
    (e.0, e.1 ∙ append_assoc apart (x ∷ []) (unfed p turns))
came Follow m u n x turns b p keys past done apart s f next =
    let v = f.flushed in
    let c = done ++ cut_keys (bound_of b) keys in
    let e = next [] c (apart ++ x ∷ []) (passed v u x b p [] past c apart (flushed m v b p keys past done apart s f.flushes) f.follows) in
    (e.0 ∙ append_assoc done (cut_keys (bound_of b) keys) (outcomes (bound_of b) [] (key_calls p turns)), e.1 ∙ append_assoc apart (x ∷ []) (unfed p turns))

on : (m n : Matching) (turns : List StepPart) (b : List Binding) (p : Bool) (keys : List KeyEvent) (past done : List SeenOutcome) (apart : List Seen)
    → SoFar m b p keys past done apart → TakesTurns m turns n → Ends n (past ++ given_outcomes turns) (key_calls p turns) (unfed p turns) b keys done apart
on m n [] b p keys past done apart s r =
    let all : (past ++ []) ++ n.waiting ≡ past ++ m.waiting = ap (λ l. l ++ n.waiting) (append-nil past) ∙ ap (λ (k : Matching). past ++ k.waiting) r in
    (ap of_keys all ∙ s.of_them, ap events all ∙ s.others ∙ sym (append-nil apart))
on m n (Came x ∷ turns) b p keys past done apart s r =
    came (way_of p x) m r.0 n x turns b p keys past done apart s (subst (λ q. TakesBy (way_of q x) m x r.0) s.same r.1)
    (λ ks d t z. on r.0 n turns b p ks past d t z r.2)
on m n (Rested ∷ turns) b p keys past done apart s r =
    let e = on r.0 n turns b p [] past (done ++ cut_keys (bound_of b) keys) apart (flushed m r.0 b p keys past done apart s r.1) r.2 in
    (e.0 ∙ append_assoc done (cut_keys (bound_of b) keys) (outcomes (bound_of b) [] (key_calls p turns)), e.1)
on m n (Gave x ∷ turns) b p keys past done apart s r =
    let e = on r.0 n turns b p keys (past ++ x ∷ []) done apart (taken m r.0 x b p keys past done apart s r.1) r.2 in
    let all : (past ++ x ∷ given_outcomes turns) ++ n.waiting ≡ ((past ++ x ∷ []) ++ given_outcomes turns) ++ n.waiting = ap (λ l. l ++ n.waiting) (sym (append_assoc past (x ∷ []) (given_outcomes turns))) in
    (ap of_keys all ∙ e.0, ap events all ∙ e.1)

pub turns_give_outcomes : TurnsGiveOutcomes
turns_give_outcomes m n turns undecided waiting r =
    let s : SoFar m m.keymap m.passes [] [] [] [] = record {
      keymap = refl;
      same = refl;
      represents = undecided;
      of_them = ap of_keys waiting;
      others = ap events waiting;
    } in
    let e = on m n turns m.keymap m.passes [] [] [] [] s r in
    record { keys = e.0; others = e.1 }
