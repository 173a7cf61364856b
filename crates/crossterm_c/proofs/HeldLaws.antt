-- The held events of a table, as calls leave them.
use Rattle.std.proofs.Common.{◌≡◌, ℕ, suc, zero, ◌+◌, ◌<◌, ◌≤◌, Bool, true, false, cond, nat_lt, List, [], ◌∷◌, ◌++◌, length, map, take, drop, Some, None, get_or, set, length-append, length-take, append_assoc, add-one, ◌-◌, refl, ap, sym, ◌∙◌, subst, arith}
use Rattle.std.proofs.lemmas.Bool.{lt-ltb, le-ltb}
use Rattle.std.proofs.lemmas.List.Sums.{position_or_len_is}
use Rattle.std.proofs.lemmas.List.{get_or_append_left, drop-append-le, drop-drop, drop-set-add, drop-set-lt, drop-take, drop_more, get_or-drop, get_or-take, get_or_default, set-get_or, length-drop, map-append, take_more_set}
use Rattle.std.proofs.lemmas.List.Edits.{remove-append_left}
use Rattle.std.proofs.lemmas.List.Quantifiers.{position-Some}
use Rattle.std.proofs.lemmas.Slice.{between-put_mid}
use borrow.Rule.Slice.PartMut.{put_mid}
use Rattle.std.specs.List.{AllByRecursion, position, remove}
use Rattle.crossterm_types.specs.Admitting.{is_of}
use Rattle.crossterm_types.specs.Seen.{Seen}
use Rattle.crossterm_read.specs.Answers.{Gave, SourceAnswer}
use Rattle.numbers.specs.Event.{event_at}
use Rattle.crossterm_c.specs.Held.{TakesAsHeld, TakesEach, admits, answers_at, classes_at, held_in, kept_at, next_arrival, held_from, store_at}
use Rattle.crossterm_read.specs.Store.{Arrives, EventStore, arrived, next_number, numbered_after}
use Rattle.crossterm_read.specs.Steps.{TakeReplies, first_admitted}
use Rattle.numbers.specs.declared.event.GelvanhEvent.{GelvanhEvent}
use Rattle.crossterm_c.specs.declared.held.GelvanhHeld.{GelvanhHeld}
use Rattle.crossterm_c.specs.declared.held.GelvanhReader.{GelvanhReader}
use Rattle.crossterm_c.proofs.ClassLaws.{class_of_numbers}
use Rattle.crossterm_read.proofs.Mapped.{get_map, map_push, position_map, remove_map}

-- An element to read from a table that has none.
abbrev pub no_member : GelvanhHeld
no_member = record { event = record { kind = 0; code = 0; value = 0; column = 0; row = 0; modifiers = 0; press = 0; state = 0; flags = 0 }; arrival = 0 }

module _ {X : Type 0} where
  -- The first that passes.
  pub found : (p : X → Bool) (xs : List X) (i : ℕ) (d : X) → i < length xs → ((k : ℕ) → k < i → p (get_or xs k d) ≡ false) → p (get_or xs i d) ≡ true → position p xs ≡ Some i
  found p xs i d l before here =
      ap (λ (n : ℕ). cond (nat_lt n (length xs)) (Some n) None) (position_or_len_is p xs i d (omega arith) before (λ _. here))
      ∙ ap (λ (b : Bool). cond b (Some i) None) (lt-ltb i (length xs) l)

  pub found_none : (p : X → Bool) (xs : List X) (i : ℕ) (d : X) → i ≡ length xs → ((k : ℕ) → k < i → p (get_or xs k d) ≡ false) → position p xs ≡ None
  found_none p xs i d l before =
      ap (λ (n : ℕ). cond (nat_lt n (length xs)) (Some n) None) (position_or_len_is p xs i d (omega arith) before (λ h. absurd (omega arith)))
      ∙ ap (λ (b : Bool). cond b (Some i) None) (le-ltb i (length xs) (omega arith))

  -- The front without what was moved to it.
  without_first : (xs ys : List X) (i : ℕ) → i < length xs → drop 1 (drop i (take (i + 1) xs) ++ ys) ≡ ys
  without_first [] ys i l = absurd (omega arith)
  without_first (x ∷ xs) ys zero l = refl
  without_first (x ∷ xs) ys (suc i) l = ap (λ (n : ℕ). drop 1 (drop (suc i) (take n (x ∷ xs)) ++ ys)) (add-one (suc i)) ∙ sym (ap (λ (n : ℕ). drop 1 (drop i (take n xs) ++ ys)) (add-one i)) ∙ without_first xs ys i (omega arith)

  take_again : (xs : List X) (i : ℕ) → take i (take (i + 1) xs) ≡ take i xs
  take_again [] zero = refl
  take_again [] (suc i) = ap (λ (n : ℕ). take (suc i) (take n [])) (add-one (suc i))
  take_again (x ∷ xs) zero = refl
  take_again (x ∷ xs) (suc i) =
      ap (λ (n : ℕ). take (suc i) (take n (x ∷ xs))) (add-one (suc i)) ∙ ap (λ (l : List X). x ∷ l) (sym (ap (λ (n : ℕ). take i (take n xs)) (add-one i)) ∙ take_again xs i)

  -- What is left after one was moved to the front.
  pub moved : (xs sub : List X) (i : ℕ) → i < length xs → sub ≡ drop (length (take (i + 1) xs) - 1) (take (i + 1) xs) ++ take (length (take (i + 1) xs) - 1) (take (i + 1) xs)
      → drop 1 (sub ++ drop (i + 1) xs) ≡ remove xs i
  moved xs sub i l e =
      let size : length (take (i + 1) xs) - 1 ≡ i = ap (λ (n : ℕ). n - 1) (length-take (i + 1) xs) ∙ omega arith in
      let front = e ∙ ap (λ (n : ℕ). drop n (take (i + 1) xs) ++ take n (take (i + 1) xs)) size in
      ap (λ (ys : List X). drop 1 (ys ++ drop (i + 1) xs)) front
      ∙ ap (drop 1) (append_assoc (drop i (take (i + 1) xs)) (take i (take (i + 1) xs)) (drop (i + 1) xs))
      ∙ without_first xs (take i (take (i + 1) xs) ++ drop (i + 1) xs) i l
      ∙ ap (λ (ys : List X). ys ++ drop (i + 1) xs) (take_again xs i)
      ∙ ap (λ (n : ℕ). take i xs ++ drop n xs) (add-one i)

  -- One more is put behind those of a part.
  pub put_at : (xs : List X) (a n : ℕ) (x : X) → a + n < length xs → take (n + 1) (drop a (set xs (a + n) x)) ≡ take n (drop a xs) ++ x ∷ []
  put_at xs a n x l =
      let left = length-drop a xs in
      ap (take (n + 1)) (drop-set-add a xs n x) ∙ take_more_set (drop a xs) n x (omega (arith, left))

  -- What is behind a place, if more is put behind a front that has the place.
  pub behind_part : (xs ys zs : List X) (a n e : ℕ) → a + n ≤ length xs → e ≡ a + n + length zs → take e ys ≡ take (a + n) xs ++ zs → take (e - a) (drop a ys) ≡ take n (drop a xs) ++ zs
  behind_part xs ys zs a n e l is more =
      ap (λ (m : ℕ). take m (drop a ys)) (omega (arith, is)) ∙ sym (drop-take a (n + length zs) ys) ∙ ap (λ (m : ℕ). drop a (take m ys)) (omega (arith, is)) ∙ ap (drop a) more
      ∙ drop-append-le a (take (a + n) xs) zs (omega (arith, l, length-take (a + n) xs)) ∙ ap (λ (front : List X). front ++ zs) (drop-take a n xs)

  -- A part by its place and its length.
  pub part_is : (xs : List X) (a n : ℕ) → take (a + n - a) (drop a xs) ≡ take n (drop a xs)
  part_is xs a n = ap (λ (m : ℕ). take m (drop a xs)) (omega arith)

  -- A part without its first, after a write to it.
  pub rest_of : (xs ys : List X) (a n : ℕ) → a + n ≤ length xs → length ys ≡ n → 0 < n → take (n - 1) (drop (a + 1) (put_mid a (a + n - a) xs ys)) ≡ drop 1 ys
  rest_of xs ys a n l size some =
      let all = put_mid a (a + n - a) xs ys in
      ap (take (n - 1)) (sym (drop-drop 1 a all)) ∙ sym (drop-take 1 (n - 1) (drop a all)) ∙ ap (λ (m : ℕ). drop 1 (take m (drop a all))) (omega arith)
      ∙ ap (drop 1) (sym (part_is all a n) ∙ between-put_mid a (a + n - a) xs ys (a + n) (omega arith) (size ∙ omega arith))

-- The event that is put behind them arrives.
pub arrives : (texts : ℕ → List ℕ) (old new : GelvanhReader) (before after : List GelvanhHeld) (e : GelvanhEvent) → held_in new after ≡ held_in old before ++ record { event = e; arrival = old.arrivals } ∷ []
    → new.arrivals ≡ next_number old.arrivals → Arrives (store_at texts old before) (Gave (event_at (texts old.arrivals) e) ∷ []) (store_at texts new after)
arrives texts old new before after e h n = record {
  held = map_push (kept_at texts) (held_in old before) (held_in old before) (held_in new after) (record { event = e; arrival = old.arrivals }) refl h;
  arrivals = n;
}

-- The place of the first that is admitted doesn't depend on what is kept.
pub place_of_first : (bits : ℕ) (texts : ℕ → List ℕ) (held : List GelvanhHeld) → first_admitted (is_of (classes_at bits)) (map (kept_at texts) held) ≡ position (admits bits) held
place_of_first bits texts held =
    position_map (kept_at texts) (λ h. is_of (classes_at bits) h.0) held
    ∙ ap (λ (p : GelvanhHeld → Bool). position p held) (λ i h. class_of_numbers (classes_at bits) (texts h.arrival) h.event i)

-- What a take leaves.
pub takes : (bits : ℕ) (texts : ℕ → List ℕ) (old new : GelvanhReader) (before after : List GelvanhHeld) (i : ℕ) (h : GelvanhHeld) → position (admits bits) (held_in old before) ≡ Some i
    → get_or (held_in old before) i h ≡ h → held_in new after ≡ remove (held_in old before) i → new.arrivals ≡ old.arrivals
    → TakeReplies (is_of (classes_at bits)) (store_at texts old before) (store_at texts new after) (Some (kept_at texts h))
takes bits texts old new before after i h first this others n = (
  i,
  place_of_first bits texts (held_in old before) ∙ first,
  get_map (kept_at texts) (held_in old before) i h this,
  λ j. record { held = (ap (map (kept_at texts)) others ∙ remove_map (kept_at texts) (held_in old before) i) j; arrivals = n j },
)

-- More held events don't change which is the first, nor the others.
pub takes_before : (f : Seen → Bool) (zs : List SourceAnswer) (s t m k : EventStore) (x : Seen × ℕ) → TakeReplies f s t (Some x) → Arrives s zs m → Arrives t zs k → TakeReplies f m k (Some x)
takes_before f zs s t m k x (i, first, this, left) held kept =
    let pick : Seen × ℕ → Bool = λ h. f h.0 in
    let at = position-Some pick s.held i x first in
    let more = arrived s.arrivals zs in
    let same : arrived t.arrivals zs ≡ more = ap (λ (u : EventStore). arrived u.arrivals zs) left in
    let here = get_or_append_left s.held more x i at.0 in
    let all = ap length held.held ∙ length-append s.held more in
    let others = kept.held ∙ ap (λ l. t.held ++ l) same ∙ ap (λ (u : EventStore). u.held ++ more) left ∙ sym (remove-append_left s.held more i at.0) ∙ ap (λ l. remove l i) (sym held.held) in
    let counted = kept.arrivals ∙ ap (λ (u : EventStore). numbered_after u.arrivals zs) left ∙ sym held.arrivals in (
      i,
      found pick m.held i x (omega (arith, all, at.0)) (λ n l. ap (λ h. pick (get_or h n x)) held.held ∙ ap pick (get_or_append_left s.held more x n (omega (arith, at.0))) ∙ at.2 n l)
          (ap (λ h. pick (get_or h i x)) held.held ∙ ap pick here ∙ at.1),
      ap (λ h. get_or h i x) held.held ∙ here ∙ this,
      λ j. record { held = others j; arrivals = counted j },
    )

-- Answers that are events, none of them admitted.
pub all_gave : (f : Seen → Bool) (P : SourceAnswer → Type 0) → ((e : Seen) → f e ≡ false → P (Gave e)) → (events : List Seen) → AllByRecursion (λ e. f e ≡ false) events → AllByRecursion P (map Gave events)
all_gave f P each [] all = tt
all_gave f P each (e ∷ events) all = (each e all.0, all_gave f P each events all.1)

-- One more held event is taken.
pub takes_more : (bits : ℕ) (held : List GelvanhHeld) (taken : List GelvanhHeld) (mid left : List GelvanhHeld) (h : GelvanhHeld) → TakesEach bits held taken mid → TakesAsHeld bits mid h left
    → TakesEach bits held (taken ++ h ∷ []) left
takes_more bits held [] mid left h same one = (left, subst (λ (m : List GelvanhHeld). TakesAsHeld bits m h left) same one, refl)
takes_more bits held (x ∷ taken) mid left h (next, first, more) one = (next, first, takes_more bits next taken mid left h more one)

-- The first one is taken.
pub takes_first : (bits : ℕ) (held : List GelvanhHeld) (h : GelvanhHeld) (left : List GelvanhHeld) → held ≡ h ∷ left → admits bits h ≡ true → TakesAsHeld bits held h left
takes_first bits held h left is admitted = (
  zero,
  ap (position (admits bits)) is ∙ found (admits bits) (h ∷ left) zero h (omega arith) (λ k l. absurd (omega (arith, l))) admitted,
  ap (λ (hs : List GelvanhHeld). get_or hs zero h) is,
  sym (ap (λ (hs : List GelvanhHeld). remove hs zero) is),
)

-- One more of the front is taken.
pub front_taken : (bits : ℕ) (held taken : List GelvanhHeld) (n : ℕ) (x : GelvanhHeld) → n < length held → n < length taken → get_or held n x ≡ x → admits bits x ≡ true
    → TakesEach bits held (take n taken) (drop n held) → TakesEach bits held (take (n + 1) (set taken n x)) (drop (n + 1) held)
front_taken bits held taken n x l room is admitted before =
    subst (λ (ts : List GelvanhHeld). TakesEach bits held ts (drop (n + 1) held)) (sym (take_more_set taken n x room))
    (takes_more bits held (take n taken) (drop n held) (drop (n + 1) held) x before
    (takes_first bits (drop n held) x (drop (n + 1) held) (drop_more held n x l ∙ ap (λ (y : GelvanhHeld). y ∷ drop (n + 1) held) is) admitted))

-- What is at a place of a part.
pub member_of : (table : List GelvanhHeld) (first held n : ℕ) → n < held → first + n < length table → get_or (take held (drop first table)) n (get_or table (first + n) no_member) ≡ get_or table (first + n) no_member
member_of table first held n l within =
    let x = get_or table (first + n) no_member in
    get_or-take held (drop first table) n x l ∙ get_or-drop first table n x ∙ get_or_default table (first + n) x no_member within

-- What is put in its own place.
pub put_back : (table : List GelvanhHeld) (n : ℕ) (x : GelvanhHeld) → x ≡ get_or table n no_member → set table n x ≡ table
put_back table n x same = ap (set table n) same ∙ set-get_or table n no_member

-- What is left of a part behind some of its front.
pub part_left : (table : List GelvanhHeld) (first held n : ℕ) → n ≤ held → drop n (take held (drop first table)) ≡ take (held - n) (drop (first + n) table)
part_left table first held n l =
    ap (λ (m : ℕ). drop n (take m (drop first table))) (omega (arith, l)) ∙ drop-take n (held - n) (drop first table) ∙ ap (take (held - n)) (drop-drop n first table)

-- What is behind one more.
pub behind_one : (xs ys : List GelvanhHeld) (n : ℕ) (x : GelvanhHeld) → drop n xs ≡ drop n ys → drop (n + 1) (set xs n x) ≡ drop (n + 1) ys
behind_one xs ys n x same =
    drop-set-lt (n + 1) xs n x (omega arith) ∙ ap (λ (m : ℕ). drop m xs) (omega arith) ∙ sym (drop-drop 1 n xs) ∙ ap (drop 1) same ∙ drop-drop 1 n ys

-- As many numbered events as events.
pub length_numbered : (n : ℕ) (events : List GelvanhEvent) → length (held_from n events) ≡ length events
length_numbered n [] = refl
length_numbered n (e ∷ events) = ap suc (length_numbered (next_number n) events)

module _ (texts : ℕ → List ℕ) where
  numbered_arrive : (n : ℕ) (events : List GelvanhEvent) → map (kept_at texts) (held_from n events) ≡ arrived n (answers_at texts n events)
  numbered_arrive n [] = refl
  numbered_arrive n (e ∷ events) = ap (λ (xs : List (Seen × ℕ)). (event_at (texts n) e, n) ∷ xs) (numbered_arrive (next_number n) events)

  number_is : (n : ℕ) (events : List GelvanhEvent) → next_arrival n events ≡ numbered_after n (answers_at texts n events)
  number_is n [] = refl
  number_is n (e ∷ events) = number_is (next_number n) events

  -- Events that are fed arrive.
  pub fed_arrive : (before after : GelvanhReader) (table left : List GelvanhHeld) (given : List GelvanhEvent) → held_in after left ≡ held_in before table ++ held_from before.arrivals given
      → after.arrivals ≡ next_arrival before.arrivals given → Arrives (store_at texts before table) (answers_at texts before.arrivals given) (store_at texts after left)
  fed_arrive before after table left given held number = record {
    held = ap (map (kept_at texts)) held ∙ map-append (kept_at texts) (held_in before table) (held_from before.arrivals given)
        ∙ ap (λ (xs : List (Seen × ℕ)). map (kept_at texts) (held_in before table) ++ xs) (numbered_arrive before.arrivals given);
    arrivals = number ∙ number_is before.arrivals given;
  }

  -- What is taken as it is held is what a reader takes.
  pub taken_is : (bits : ℕ) (before after : GelvanhReader) (table left : List GelvanhHeld) (h : GelvanhHeld) → TakesAsHeld bits (held_in before table) h (held_in after left)
      → after.arrivals ≡ before.arrivals → TakeReplies (is_of (classes_at bits)) (store_at texts before table) (store_at texts after left) (Some (kept_at texts h))
  taken_is bits before after table left h (i, first, this, others) number = takes bits texts before after table left i h first this others number
