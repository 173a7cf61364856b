-- What queues hold, as the callers of a reader see it.
use Rattle.std.proofs.Common.{◌≡◌, ℕ, ◌+◌, ◌-◌, ◌<◌, ◌≤◌, Bool, true, false, not, cond, nat_lt, List, [], ◌∷◌, ◌++◌, length, map, Option, Some, None, get_or, refl, ap, sym, subst, ◌∙◌, length-append, arith}
use Rattle.std.specs.Prelude.{is_some}
use Rattle.std.proofs.lemmas.Bool.{lt-ltb, le-ltb}
use Rattle.std.proofs.lemmas.List.{length-map, map-append}
use Rattle.std.proofs.lemmas.Simd.{map-map}
use Rattle.std.specs.List.{AllByRecursion, position, position_or_len, remove}
use Rattle.crossterm_types.specs.Seen.{Seen, seen}
use Rattle.crossterm_read.specs.inside.Asking.{held_with}
use Rattle.crossterm_read.specs.inside.Queues.{AreJoined, AreKept, FindsPlace, HaveRoom, HaveRoomFor, Joins, TakesOne, behind, joined, member_kept, queue_of, queues_of}
use Rattle.crossterm_read.specs.Store.{EventStore}
use Rattle.crossterm_read.specs.Steps.{TakeReplies, first_admitted}
use Rattle.crossterm_read.specs.declared.read.held.kind.Kind.{Kind}
use Rattle.crossterm_read.specs.declared.read.held.kind.Place.{Place}
use Rattle.crossterm_read.specs.declared.read.held.queues.Member.{Member}
use Rattle.crossterm_read.specs.declared.read.held.queues.Queues.{Queues}
use Rattle.crossterm_read.proofs.Joining.{all_without, are_joined, each_kind, fronts, get_here, joined_is, joined_same, joins_same, remove_here}
use Rattle.crossterm_read.proofs.Mapped.{get_map, position_map, remove_map}
use Rattle.crossterm_types.proofs.Lists.{all_map, all_push}

-- The place of the first that passes.
prefix_there : {X : Type 0} (p : X → Bool) (xs ys : List X) (y : X) → AllByRecursion (λ x. p x ≡ false) xs → p y ≡ true → position_or_len p (xs ++ y ∷ ys) ≡ length xs
prefix_there p [] ys y a e = ap (λ (b : Bool). cond (not b) (1 + position_or_len p ys) 0) e
prefix_there p (x ∷ xs) ys y a e = ap (λ (b : Bool). cond (not b) (1 + position_or_len p (xs ++ y ∷ ys)) 0) a.0 ∙ ap (λ (n : ℕ). 1 + n) (prefix_there p xs ys y a.1 e) ∙ omega arith

prefix_whole : {X : Type 0} (p : X → Bool) (xs : List X) → AllByRecursion (λ x. p x ≡ false) xs → position_or_len p xs ≡ length xs
prefix_whole p [] a = refl
prefix_whole p (x ∷ xs) a = ap (λ (b : Bool). cond (not b) (1 + position_or_len p xs) 0) a.0 ∙ ap (λ (n : ℕ). 1 + n) (prefix_whole p xs a.1) ∙ omega arith

pub position_there : {X : Type 0} (p : X → Bool) (xs ys : List X) (y : X) → AllByRecursion (λ x. p x ≡ false) xs → p y ≡ true → position p (xs ++ y ∷ ys) ≡ Some (length xs)
position_there p xs ys y a e =
    let long = length-append xs (y ∷ ys) in
    ap (λ (n : ℕ). cond (nat_lt n (length (xs ++ y ∷ ys))) (Some n) None) (prefix_there p xs ys y a e)
    ∙ ap (λ (b : Bool). cond b (Some (length xs)) None) (lt-ltb (length xs) (length (xs ++ y ∷ ys)) (omega arith))

pub position_nowhere : {X : Type 0} (p : X → Bool) (xs : List X) → AllByRecursion (λ x. p x ≡ false) xs → position p xs ≡ None
position_nowhere p xs a =
    ap (λ (n : ℕ). cond (nat_lt n (length xs)) (Some n) None) (prefix_whole p xs a)
    ∙ ap (λ (b : Bool). cond b (Some (length xs)) None) (le-ltb (length xs) (length xs) (omega arith))

module _ {A : Type 0} where
  module _ (f : Seen → Bool) where
    first_there : (before after : List (Member A)) (m : Member A) (held : List (Seen × ℕ)) → held ≡ map member_kept (before ++ m ∷ after) → AllByRecursion (λ x. f (seen x.event) ≡ false) before → f (seen m.event) ≡ true
        → first_admitted f held ≡ Some (length before)
    first_there before after m held h a e =
        ap (λ l. first_admitted f l) h ∙ position_map member_kept (λ k. f k.0) (before ++ m ∷ after) ∙ position_there (λ x. f (seen x.event)) before after m a e

    first_nowhere : (all : List (Member A)) (held : List (Seen × ℕ)) → held ≡ map member_kept all → AllByRecursion (λ x. f (seen x.event) ≡ false) all → first_admitted f held ≡ None
    first_nowhere all held h a = ap (λ l. first_admitted f l) h ∙ position_map member_kept (λ k. f k.0) all ∙ position_nowhere (λ x. f (seen x.event)) all a

    -- Whether one is found.
    pub found_is : (q : Kind → List (Member A)) (r : Option Place) (held : List (Seen × ℕ)) → held ≡ map member_kept (joined q) → FindsPlace (λ m. f (seen m.event)) q r → is_some r ≡ is_some (first_admitted f held)
    found_is q None held h a = sym (ap is_some (first_nowhere (joined q) held h a))
    found_is q (Some place) held h s = sym (ap is_some (first_there s.before s.after s.member held (h ∙ ap (λ l. map member_kept l) s.order) s.first s.admitted))

    -- What a take leaves.
    pub taken_replies : (q p : Kind → List (Member A)) (m : Member A) (s t : EventStore) → s.held ≡ map member_kept (joined q) → t.held ≡ map member_kept (joined p) → t.arrivals ≡ s.arrivals
        → TakesOne (λ x. f (seen x.event)) q p m → TakeReplies f s t (Some (member_kept m))
    taken_replies q p m s t h k n o =
        let held : s.held ≡ map member_kept (o.before ++ m ∷ o.after) = h ∙ ap (λ l. map member_kept l) o.order in
        let there : get_or s.held (length o.before) (member_kept m) ≡ member_kept m =
        ap (λ l. get_or l (length o.before) (member_kept m)) held ∙ get_map member_kept (o.before ++ m ∷ o.after) (length o.before) m (get_here o.before o.after m m) in
        let gone : t.held ≡ remove s.held (length o.before) =
        k ∙ ap (λ l. map member_kept l) (joined_is (o.before ++ o.after) p o.others ∙ sym (remove_here o.before o.after m)) ∙ remove_map member_kept (o.before ++ m ∷ o.after) (length o.before)
        ∙ ap (λ l. remove l (length o.before)) (sym held) in
        (length o.before, first_there o.before o.after m s.held held o.first o.admitted, there, λ i. record { held = gone i; arrivals = n i })

    pub untaken_delivers : (q : Kind → List (Member A)) (s t : EventStore) → s.held ≡ map member_kept (joined q) → t ≡ s → AllByRecursion (λ x. f (seen x.event) ≡ false) (joined q) → TakeReplies f s t None
    untaken_delivers q s t h e a = (first_nowhere (joined q) s.held h a, e)

  pub taken_length : (passes : Member A → Bool) (q p : Kind → List (Member A)) (m : Member A) → TakesOne passes q p m → length (joined p) + 1 ≡ length (joined q)
  taken_length passes q p m o =
      let before = ap length o.order ∙ length-append o.before (m ∷ o.after) in
      let after = ap length (joined_is (o.before ++ o.after) p o.others) ∙ length-append o.before o.after in
      omega arith

  -- What is so between two calls.
  pub kept_same : (old new : Option (Queues A)) (len limit room next : ℕ) → AreKept old len limit next → ((k : Kind) → queues_of new k ≡ queues_of old k) → len ≤ room → HaveRoomFor new room → AreKept new len room next
  kept_same old new len limit room next k h l r =
      let same : joined (queues_of old) ≡ joined (queues_of new) = joined_same (queues_of old) (queues_of new) (λ k. sym (h k)) in
      record {
        joins = are_joined (joined (queues_of old)) (queues_of new) (joins_same (joined (queues_of old)) (queues_of old) (queues_of new) k.joins h);
        below = subst (λ l. AllByRecursion (λ m. m.order < next) l) same k.below;
        count = ap length (sym same) ∙ k.count;
        fits = l;
        room = r;
      }

  pub kept_take : (passes : Member A → Bool) (q p : Queues A) (m : Member A) (len limit next : ℕ) → AreKept (Some q) len limit next → TakesOne passes (queue_of q) (queue_of p) m → HaveRoom p limit
      → AreKept (Some p) (len - 1) limit next × (1 ≤ len)
  kept_take passes q p m len limit next k o r =
      let shorter = taken_length passes (queue_of q) (queue_of p) m o in
      let count = k.count in
      let fits = k.fits in
      let list = joined_is (o.before ++ o.after) (queue_of p) o.others in (
        record {
          joins = are_joined (o.before ++ o.after) (queue_of p) o.others;
          below = subst (λ l. AllByRecursion (λ m. m.order < next) l) (sym list) (all_without (λ m. m.order < next) o.before o.after m (subst (λ l. AllByRecursion (λ m. m.order < next) l) o.order k.below));
          count = omega arith;
          fits = omega arith;
          room = r;
        },
        omega arith,
      )

  pub kept_push : (q p : Queues A) (m : Member A) (len limit : ℕ) → AreJoined (queue_of q) → AllByRecursion (λ x. x.order < m.order) (joined (queue_of q)) → length (joined (queue_of q)) ≡ len → len < limit
      → Joins (joined (queue_of q) ++ m ∷ []) (queue_of p) → HaveRoom p limit → AreKept (Some p) (len + 1) limit (m.order + 1)
  kept_push q p m len limit j b n l o r =
      let list = joined_is (joined (queue_of q) ++ m ∷ []) (queue_of p) o in
      let long = ap length list ∙ length-append (joined (queue_of q)) (m ∷ []) in
      record {
        joins = are_joined (joined (queue_of q) ++ m ∷ []) (queue_of p) o;
        below = subst (λ l. AllByRecursion (λ x. x.order < m.order + 1) l) (sym list)
            (all_push (λ x. x.order < m.order + 1) (joined (queue_of q)) m (all_map (λ x. x.order < m.order) (λ x. x.order < m.order + 1) (joined (queue_of q)) (λ x h. omega arith) b) (omega arith));
        count = omega arith;
        fits = omega arith;
        room = r;
      }

  pub pushed_held : (q p : Kind → List (Member A)) (m : Member A) (s t : EventStore) → s.held ≡ map member_kept (joined q) → t.held ≡ map member_kept (joined p) → t.arrivals ≡ s.arrivals
      → Joins (joined q ++ m ∷ []) p → t ≡ held_with s (member_kept m)
  pushed_held q p m s t h k n o =
      let all : t.held ≡ s.held ++ member_kept m ∷ [] =
      k ∙ ap (λ l. map member_kept l) (joined_is (joined q ++ m ∷ []) p o) ∙ map-append member_kept (joined q) (m ∷ []) ∙ ap (λ l. l ++ member_kept m ∷ []) (sym h) in
      λ i. record { held = all i; arrivals = n i }

  pub same_length : (xs ys : List (Member A)) → map member_kept xs ≡ map member_kept ys → length xs ≡ length ys
  same_length xs ys e = sym (length-map xs member_kept) ∙ ap length e ∙ length-map ys member_kept

  -- What is at the fronts is all.
  pub all_at_fronts : (q : Kind → List (Member A)) (held : List (Seen × ℕ)) → held ≡ map member_kept (joined q) → map (λ (m : Member A). seen m.event) (joined (behind q fronts)) ≡ map (λ h. h.0) held
  all_at_fronts q held h =
      ap (λ l. map (λ (m : Member A). seen m.event) l) (joined_same (behind q fronts) q (each_kind (λ k. behind q fronts k ≡ q k) refl refl refl refl)) ∙ sym (map-map (λ h. h.0) member_kept (joined q))
      ∙ ap (λ l. map (λ h. h.0) l) (sym h)

  pub same_held : (old new : Option (Queues A)) → ((k : Kind) → queues_of new k ≡ queues_of old k) → map member_kept (joined (queues_of new)) ≡ map member_kept (joined (queues_of old))
  same_held old new h = ap (λ l. map member_kept l) (joined_same (queues_of new) (queues_of old) h)
