-- The members of queues in one order.
use Rattle.std.proofs.Common.{◌≡◌, ℕ, zero, suc, ◌+◌, ◌-◌, ◌<◌, ◌≤◌, Bool, true, false, cond, nat_lt, List, [], ◌∷◌, ◌++◌, length, drop, map, Option, Some, None, get_or, refl, ap, sym, subst, ◌∙◌, append_assoc, append-nil, length-append, arith}
use Rattle.std.proofs.lemmas.Bool.{lt-ltb, le-ltb, ltb-true, ltb-false}
use Rattle.std.proofs.lemmas.List.Elements.{filter-append}
use Rattle.std.specs.Prelude.{IfSome, IsSome, ◌↔◌}
use lib.ListN.{length-set}
use Rattle.std.specs.List.{AllByRecursion, filter, remove, slice_set}
use Rattle.crossterm_types.specs.Admitting.{is_of}
use Rattle.crossterm_types.specs.Seen.{seen}
use Rattle.crossterm_types.specs.declared.event.Event.TheVariants as event
use Rattle.crossterm_types.specs.declared.event.InternalEvent.{InternalEvent}
use Rattle.crossterm_types.specs.declared.event.InternalEvent.TheVariants as internal
use Rattle.crossterm_types.specs.declared.event.filter.Classes.{Classes}
use Rattle.crossterm_read.specs.inside.Kinds.{has_class, kind_of, queue_place, same_kind}
use Rattle.crossterm_read.specs.inside.Queues.{Ascends, AreJoined, IsEarliest, Joins, NotBefore, IsFirstAt, TakesMember, all_kinds, behind, earlier_of, in_order, joined, member_kept, numbered_anew, of_kind, put_in}
use Rattle.crossterm_read.specs.declared.read.held.kind.Kind.{Kind}
use Rattle.crossterm_read.specs.declared.read.held.kind.Kind.TheVariants.{Event, Cursor, Flags, Attributes}
use Rattle.crossterm_read.specs.declared.read.held.kind.Place.{Place}
use Rattle.crossterm_read.specs.declared.read.held.kind.Places.{Places}
use Rattle.crossterm_read.specs.declared.read.held.queues.Front.{Front}
use Rattle.crossterm_read.specs.declared.read.held.queues.Member.{Member}
use Rattle.crossterm_types.proofs.Lists.{all_append, all_map, all_push}

-- What holds of the four kinds holds of each.
pub each_kind : (P : Kind → Type 0) → P Event → P Cursor → P Flags → P Attributes → (kind : Kind) → P kind
each_kind P e c f a Event = e
each_kind P e c f a Cursor = c
each_kind P e c f a Flags = f
each_kind P e c f a Attributes = a

of_all : (P : Kind → Type 0) → AllByRecursion P all_kinds → (kind : Kind) → P kind
of_all P a = each_kind P a.0 a.1.0 a.1.1.0 a.1.1.1.0

itself : (kind : Kind) → same_kind kind kind ≡ true
itself = each_kind (λ k. same_kind k k ≡ true) refl refl refl refl

the_same : (k j : Kind) → same_kind k j ≡ true → k ≡ j
the_same Event Event e = refl
the_same Event Cursor e = absurd (cc)
the_same Event Flags e = absurd (cc)
the_same Event Attributes e = absurd (cc)
the_same Cursor Event e = absurd (cc)
the_same Cursor Cursor e = refl
the_same Cursor Flags e = absurd (cc)
the_same Cursor Attributes e = absurd (cc)
the_same Flags Event e = absurd (cc)
the_same Flags Cursor e = absurd (cc)
the_same Flags Flags e = refl
the_same Flags Attributes e = absurd (cc)
the_same Attributes Event e = absurd (cc)
the_same Attributes Cursor e = absurd (cc)
the_same Attributes Flags e = absurd (cc)
the_same Attributes Attributes e = refl

-- All classes have each kind.
abbrev pub all_classes : Classes
all_classes = record { event = true; cursor = true; flags = true; attributes = true }

pub every_kind : (kind : Kind) → has_class all_classes kind ≡ true
every_kind = each_kind (λ k. has_class all_classes k ≡ true) refl refl refl refl

-- The places of the fronts.
abbrev pub fronts : Places
fronts = record { event = 0; cursor = 0; flags = 0; attributes = 0 }

pub fronts_are : (kind : Kind) → queue_place fronts kind ≡ 0
fronts_are = each_kind (λ k. queue_place fronts k ≡ 0) refl refl refl refl

-- The classes of a filter are the kinds of the events that it admits.
pub classes_say : {A : Type 0} (c : Classes) (e : InternalEvent A) → is_of c (seen e) ≡ has_class c (kind_of e)
classes_say c (internal.Event event.FocusGained) = refl
classes_say c (internal.Event event.FocusLost) = refl
classes_say c (internal.Event (event.Key key)) = refl
classes_say c (internal.Event (event.Mouse mouse)) = refl
classes_say c (internal.Event (event.Paste text)) = refl
classes_say c (internal.Event (event.Resize columns rows)) = refl
classes_say c (internal.CursorPosition column row) = refl
classes_say c (internal.KeyboardEnhancementFlags flags) = refl
classes_say c internal.PrimaryDeviceAttributes = refl

-- Lists.
all_cond : {X : Type 0} (P : X → Type 0) (xs ys : List X) (b : Bool) → AllByRecursion P xs → AllByRecursion P ys → AllByRecursion P (cond b xs ys)
all_cond P xs ys true a b = a
all_cond P xs ys false a b = b

all_filter : {X : Type 0} (P : X → Type 0) (p : X → Bool) (xs : List X) → AllByRecursion P xs → AllByRecursion P (filter p xs)
all_filter P p [] a = tt
all_filter P p (x ∷ xs) a = all_cond P (x ∷ filter p xs) (filter p xs) (p x) (a.0, all_filter P p xs a.1) (all_filter P p xs a.1)

pub all_without : {X : Type 0} (P : X → Type 0) (xs ys : List X) (y : X) → AllByRecursion P (xs ++ y ∷ ys) → AllByRecursion P (xs ++ ys)
all_without P [] ys y a = a.1
all_without P (x ∷ xs) ys y a = (a.0, all_without P xs ys y a.1)

pub remove_here : {X : Type 0} (xs ys : List X) (x : X) → remove (xs ++ x ∷ ys) (length xs) ≡ xs ++ ys
remove_here [] ys x = refl
remove_here (y ∷ xs) ys x = ap (λ l. y ∷ l) (remove_here xs ys x)

pub get_here : {X : Type 0} (xs ys : List X) (x d : X) → get_or (xs ++ x ∷ ys) (length xs) d ≡ x
get_here [] ys x d = refl
get_here (y ∷ xs) ys x d = get_here xs ys x d

set_here : {X : Type 0} (xs ys : List X) (x y : X) → slice_set (xs ++ x ∷ ys) (length xs) y ≡ xs ++ y ∷ ys
set_here [] ys x y = refl
set_here (z ∷ xs) ys x y = ap (λ l. z ∷ l) (set_here xs ys x y)

drop_here : {X : Type 0} (xs ys : List X) → drop (length xs) (xs ++ ys) ≡ ys
drop_here [] ys = refl
drop_here (x ∷ xs) ys = drop_here xs ys

-- What is at a place.
pub drop_at : {X : Type 0} (xs : List X) (n : ℕ) (x : X) → n < length xs → x ≡ get_or xs n x → drop n xs ≡ x ∷ drop (suc n) xs
drop_at [] n x h e = absurd (omega arith)
drop_at (y ∷ ys) zero x h e = ap (λ z. z ∷ ys) (sym e)
drop_at (y ∷ ys) (suc n) x h e = drop_at ys n x (omega arith) e

pub drop_more : {X : Type 0} (xs : List X) (n : ℕ) (y : X) (ys : List X) → drop n xs ≡ y ∷ ys → n < length xs
drop_more [] zero y ys e = absurd (cc)
drop_more [] (suc n) y ys e = absurd (cc)
drop_more (x ∷ xs) zero y ys e = omega arith
drop_more (x ∷ xs) (suc n) y ys e = let h = drop_more xs n y ys e in omega arith

pub front_there : {X : Type 0} (xs : List X) (n : ℕ) (y : X) (ys : List X) → drop n xs ≡ y ∷ ys → (n < length xs) × (y ≡ get_or xs n y)
front_there xs n y ys e = (drop_more xs n y ys e, sym (get_of xs n y ys e))
  where
    get_of : {X : Type 0} (xs : List X) (n : ℕ) (y : X) (ys : List X) → drop n xs ≡ y ∷ ys → get_or xs n y ≡ y
    get_of [] zero y ys e = refl
    get_of [] (suc n) y ys e = refl
    get_of (x ∷ xs) zero y ys e = ap (λ l. get_or l 0 y) e
    get_of (x ∷ xs) (suc n) y ys e = get_of xs n y ys e

drop_less : {X : Type 0} (xs : List X) (n : ℕ) (y : X) (ys : List X) → drop n xs ≡ y ∷ ys → drop (suc n) xs ≡ ys
drop_less [] zero y ys e = absurd (cc)
drop_less [] (suc n) y ys e = absurd (cc)
drop_less (x ∷ xs) zero y ys e = ap (λ l. drop 1 l) e
drop_less (x ∷ xs) (suc n) y ys e = drop_less xs n y ys e

module _ {A : Type 0} where
  -- A member below all others goes first, and one above the first goes after it.
  put_first : (m : Member A) (xs : List (Member A)) → AllByRecursion (λ x. m.order < x.order) xs → put_in m xs ≡ m ∷ xs
  put_first m [] a = refl
  put_first m (x ∷ xs) a = ap (λ (b : Bool). cond b (m ∷ x ∷ xs) (x ∷ put_in m xs)) (lt-ltb m.order x.order a.0)

  put_later : (m x : Member A) (xs : List (Member A)) → x.order < m.order → put_in m (x ∷ xs) ≡ x ∷ put_in m xs
  put_later m x xs h = ap (λ (b : Bool). cond b (m ∷ x ∷ xs) (x ∷ put_in m xs)) (le-ltb m.order x.order (omega arith))

  all_put : (P : Member A → Type 0) (m : Member A) (xs : List (Member A)) → P m → AllByRecursion P xs → AllByRecursion P (put_in m xs)
  all_put P m [] p a = (p, tt)
  all_put P m (x ∷ xs) p a = all_cond P (m ∷ x ∷ xs) (x ∷ put_in m xs) (nat_lt m.order x.order) (p, a) (a.0, all_put P m xs p a.1)

  all_in_order : (P : Member A → Type 0) (xs : List (Member A)) → AllByRecursion P xs → AllByRecursion P (in_order xs)
  all_in_order P [] a = tt
  all_in_order P (x ∷ xs) a = all_put P x (in_order xs) a.0 (all_in_order P xs a.1)

  -- The least member of a list is the first in order, whatever its place.
  start : (m : Member A) (xs : List (Member A)) → AllByRecursion (λ x. m.order < x.order) xs → in_order (m ∷ xs) ≡ m ∷ in_order xs
  start m xs a = put_first m (in_order xs) (all_in_order (λ x. m.order < x.order) xs a)

  lift : (m : Member A) (xs ys zs : List (Member A)) → AllByRecursion (λ x. m.order < x.order) xs → in_order ys ≡ m ∷ in_order zs → in_order (xs ++ ys) ≡ m ∷ in_order (xs ++ zs)
  lift m [] ys zs a e = e
  lift m (x ∷ xs) ys zs a e = ap (λ l. put_in x l) (lift m xs ys zs a.1 e) ∙ put_later x m (in_order (xs ++ zs)) a.0

  with_first : (m : Member A) (ms : List (Member A)) (k : Kind) → AllByRecursion (λ x. m.order < x.order) ms
      → joined (λ j. cond (same_kind j k) (m ∷ of_kind j ms) (of_kind j ms)) ≡ m ∷ joined (λ j. of_kind j ms)
  with_first m ms k a =
      let above : (j : Kind) → AllByRecursion (λ x. m.order < x.order) (of_kind j ms) = λ j. all_filter (λ x. m.order < x.order) (λ x. same_kind j (kind_of x.event)) ms a in
      let e = of_kind Event ms in
      let c = of_kind Cursor ms in
      let f = of_kind Flags ms in
      let t = of_kind Attributes ms in
      let all_ft = all_append (λ x. m.order < x.order) f t (above Flags) (above Attributes) in
      let all_cft = all_append (λ x. m.order < x.order) c (f ++ t) (above Cursor) all_ft in
      let all_ecft = all_append (λ x. m.order < x.order) e (c ++ (f ++ t)) (above Event) all_cft in
      each_kind (λ k. joined (λ j. cond (same_kind j k) (m ∷ of_kind j ms) (of_kind j ms)) ≡ m ∷ joined (λ j. of_kind j ms))
      (start m (e ++ (c ++ (f ++ t))) all_ecft)
      (lift m e (m ∷ c ++ (f ++ t)) (c ++ (f ++ t)) (above Event) (start m (c ++ (f ++ t)) all_cft))
      (lift m e (c ++ (m ∷ f ++ t)) (c ++ (f ++ t)) (above Event) (lift m c (m ∷ f ++ t) (f ++ t) (above Cursor) (start m (f ++ t) all_ft)))
      (lift m e (c ++ (f ++ m ∷ t)) (c ++ (f ++ t)) (above Event) (lift m c (f ++ m ∷ t) (f ++ t) (above Cursor) (lift m f (m ∷ t) t (above Flags) (start m t (above Attributes)))))
      k

  -- A list whose order numbers rise is its parts in order.
  ordered : (list : List (Member A)) → Ascends list → joined (λ k. of_kind k list) ≡ list
  ordered [] a = refl
  ordered (m ∷ ms) a = with_first m ms (kind_of m.event) a.0 ∙ ap (λ l. m ∷ l) (ordered ms a.1)

  pub joined_same : (q p : Kind → List (Member A)) → ((k : Kind) → q k ≡ p k) → joined q ≡ joined p
  joined_same q p h = λ i. in_order (h Event i ++ (h Cursor i ++ (h Flags i ++ h Attributes i)))

  pub joined_is : (list : List (Member A)) (q : Kind → List (Member A)) → Joins list q → joined q ≡ list
  joined_is list q j = joined_same q (λ k. of_kind k list) (λ k. sym (j.parts k)) ∙ ordered list j.ascends

  pub are_joined : (list : List (Member A)) (q : Kind → List (Member A)) → Joins list q → AreJoined q
  are_joined list q j = subst (λ l. Joins l q) (sym (joined_is list q j)) j

  pub joins_same : (list : List (Member A)) (q p : Kind → List (Member A)) → Joins list q → ((k : Kind) → p k ≡ q k) → Joins list p
  joins_same list q p j h = record { ascends = j.ascends; parts = λ k. j.parts k ∙ sym (h k) }

  -- One more at the end.
  ascends_push : (ms : List (Member A)) (m : Member A) → Ascends ms → AllByRecursion (λ x. x.order < m.order) ms → Ascends (ms ++ m ∷ [])
  ascends_push [] m a b = (tt, tt)
  ascends_push (x ∷ xs) m a b = (all_push (λ y. x.order < y.order) xs m a.0 b.0, ascends_push xs m a.1 b.1)

  pub joins_push : (list : List (Member A)) (q p : Kind → List (Member A)) (m : Member A) → Joins list q → AllByRecursion (λ x. x.order < m.order) list
      → ((k : Kind) → p k ≡ q k ++ cond (same_kind k (kind_of m.event)) (m ∷ []) []) → Joins (list ++ m ∷ []) p
  joins_push list q p m j b h = record {
    ascends = ascends_push list m j.ascends b;
    parts = λ k. filter-append (λ x. same_kind k (kind_of x.event)) list (m ∷ []) ∙ ap (λ l. l ++ cond (same_kind k (kind_of m.event)) (m ∷ []) []) (j.parts k) ∙ sym (h k);
  }

  -- One is taken out.
  ascends_without : (xs ys : List (Member A)) (m : Member A) → Ascends (xs ++ m ∷ ys) → Ascends (xs ++ ys)
  ascends_without [] ys m a = a.1
  ascends_without (x ∷ xs) ys m a = (all_without (λ y. x.order < y.order) xs ys m a.0, ascends_without xs ys m a.1)

  part_of : (k : Kind) (xs ys : List (Member A)) (m : Member A) (b : Bool) → same_kind k (kind_of m.event) ≡ b
      → of_kind k (xs ++ m ∷ ys) ≡ of_kind k xs ++ cond b (m ∷ of_kind k ys) (of_kind k ys)
  part_of k xs ys m b e = filter-append (λ x. same_kind k (kind_of x.event)) xs (m ∷ ys) ∙ ap (λ (b : Bool). of_kind k xs ++ cond b (m ∷ of_kind k ys) (of_kind k ys)) e

  part_without : (k kind : Kind) (at : ℕ) (xs ys q : List (Member A)) (m : Member A) (b : Bool) → kind ≡ kind_of m.event → at ≡ length (of_kind kind xs) → of_kind k (xs ++ m ∷ ys) ≡ q → same_kind k kind ≡ b
      → of_kind k (xs ++ ys) ≡ cond b (remove q at) q
  part_without k kind at xs ys q m true is place e s =
      let which = the_same k kind s in
      let long : at ≡ length (of_kind k xs) = place ∙ ap (λ (z : Kind). length (of_kind z xs)) (sym which) in
      let here = part_of k xs ys m true (sym (ap (λ (z : Kind). same_kind k z) is) ∙ s) in
      filter-append (λ x. same_kind k (kind_of x.event)) xs ys ∙ sym (remove_here (of_kind k xs) (of_kind k ys) m) ∙ (λ i. remove ((sym here ∙ e) i) (sym long i))
  part_without k kind at xs ys q m false is place e s =
      filter-append (λ x. same_kind k (kind_of x.event)) xs ys ∙ sym (part_of k xs ys m false (sym (ap (λ (z : Kind). same_kind k z) is) ∙ s)) ∙ e

  pub joins_remove : (xs ys : List (Member A)) (m : Member A) (kind : Kind) (at : ℕ) (q p : Kind → List (Member A)) → Joins (xs ++ m ∷ ys) q → kind ≡ kind_of m.event → at ≡ length (of_kind kind xs)
      → ((k : Kind) → p k ≡ cond (same_kind k kind) (remove (q k) at) (q k)) → Joins (xs ++ ys) p
  joins_remove xs ys m kind at q p j is place h = record {
    ascends = ascends_without xs ys m j.ascends;
    parts = λ k. part_without k kind at xs ys (q k) m (same_kind k kind) is place (j.parts k) refl ∙ sym (h k);
  }

  pub is_first_there : (xs ys : List (Member A)) (m d : Member A) (kind : Kind) (at : ℕ) (q : Kind → List (Member A)) → Joins (xs ++ m ∷ ys) q → kind ≡ kind_of m.event → at ≡ length (of_kind kind xs)
      → (get_or (q kind) at d ≡ m) × (at < length (q kind))
  is_first_there xs ys m d kind at q j is place =
      let here = sym (j.parts kind) ∙ part_of kind xs ys m true (sym (ap (λ (z : Kind). same_kind kind z) is) ∙ itself kind) in
      let long = ap length here ∙ length-append (of_kind kind xs) (m ∷ of_kind kind ys) in
      ((λ i. get_or (here i) (place i) d) ∙ get_here (of_kind kind xs) (of_kind kind ys) m d, omega arith)

  -- The first member of some kinds.
  pub record FirstOf (wanted : Kind → Bool) (list : List (Member A)) (kind : Kind) (m : Member A) : Type 0 where
    pub before : List (Member A)
    pub after : List (Member A)
    pub order : list ≡ before ++ m ∷ after
    pub first : AllByRecursion (λ x. wanted (kind_of x.event) ≡ false) before
    pub kind_is : kind ≡ kind_of m.event
    pub none : of_kind kind before ≡ []

  module _ (wanted : Kind → Bool) (k : Kind) (m : Member A) (rest : List (Member A)) where
    abbrev AreLater : List (Member A) → Type 0
    AreLater ms = (j : Kind) → wanted j ≡ true → NotBefore m.order (of_kind j ms)

    -- The first of all isn't of kind k, and so not wanted.
    later_tail : (x : Member A) (xs : List (Member A)) (j : Kind) (b : Bool) → same_kind j (kind_of x.event) ≡ b → wanted j ≡ true → wanted (kind_of x.event) ≡ false
        → NotBefore m.order (cond b (x ∷ of_kind j xs) (of_kind j xs)) → NotBefore m.order (of_kind j xs)
    later_tail x xs j true s w n h = let e = sym w ∙ ap wanted (the_same j (kind_of x.event) s) ∙ n in absurd (cc)
    later_tail x xs j false s w n h = h

    not_wanted : (x : Member A) (xs : List (Member A)) (b : Bool) → wanted (kind_of x.event) ≡ b → AllByRecursion (λ y. x.order < y.order) xs → of_kind k xs ≡ m ∷ rest → AreLater (x ∷ xs) → b ≡ false
    not_wanted x xs true w a e h =
        let low = subst (λ (b : Bool). NotBefore m.order (cond b (x ∷ of_kind (kind_of x.event) xs) (of_kind (kind_of x.event) xs))) (itself (kind_of x.event)) (h (kind_of x.event) w) in
        let high = (subst (λ l. AllByRecursion (λ y. x.order < y.order) l) e (all_filter (λ y. x.order < y.order) (λ y. same_kind k (kind_of y.event)) xs a)).0 in
        absurd (omega arith)
    not_wanted x xs false w a e h = refl

    at_first : (x : Member A) (xs : List (Member A)) (b : Bool) → same_kind k (kind_of x.event) ≡ b → AllByRecursion (λ y. x.order < y.order) xs → cond b (x ∷ of_kind k xs) (of_kind k xs) ≡ m ∷ rest → AreLater (x ∷ xs)
        → (of_kind k xs ≡ m ∷ rest → AreLater xs → FirstOf wanted xs k m) → FirstOf wanted (x ∷ xs) k m
    at_first x xs true s a e h more =
        let it : x ≡ m = ap (λ l. get_or l 0 x) e in
        record { before = []; after = xs; order = ap (λ y. y ∷ xs) it; first = tt; kind_is = the_same k (kind_of x.event) s ∙ ap (λ (y : Member A). kind_of y.event) it; none = refl }
    at_first x xs false s a e h more =
        let n = not_wanted x xs (wanted (kind_of x.event)) refl a e h in
        let r = more e (λ j w. later_tail x xs j (same_kind j (kind_of x.event)) refl w n (h j w)) in
        record { before = x ∷ r.before; after = r.after; order = ap (λ l. x ∷ l) r.order; first = (n, r.first); kind_is = r.kind_is; none = ap (λ (b : Bool). cond b (x ∷ of_kind k r.before) (of_kind k r.before)) s ∙ r.none }

    found : (list : List (Member A)) → Ascends list → of_kind k list ≡ m ∷ rest → AreLater list → FirstOf wanted list k m
    found [] a e h = absurd (cc)
    found (x ∷ xs) a e h = at_first x xs (same_kind k (kind_of x.event)) refl a.0 e h (λ e h. found xs a.1 e h)

  pub first_found : (wanted : Kind → Bool) (list : List (Member A)) (q : Kind → List (Member A)) (f : Front A) → Joins list q → IsEarliest q wanted all_kinds (Some f) → FirstOf wanted list f.kind f.member.now
  first_found wanted list q f j e =
      found wanted f.kind f.member.now e.1.0 list j.ascends (j.parts f.kind ∙ e.1.1)
      (λ k w. subst (λ l. NotBefore f.member.now.order l) (sym (j.parts k)) (of_all (λ k. wanted k ≡ true → NotBefore f.member.now.order (q k)) e.2 k w))

  none_tail : (x : Member A) (xs : List (Member A)) (j : Kind) (b : Bool) → cond b (x ∷ of_kind j xs) (of_kind j xs) ≡ [] → of_kind j xs ≡ []
  none_tail x xs j true e = absurd (cc)
  none_tail x xs j false e = e

  none_wanted : (wanted : Kind → Bool) (x : Member A) (xs : List (Member A)) (b : Bool) → wanted (kind_of x.event) ≡ b → ((j : Kind) → wanted j ≡ true → of_kind j (x ∷ xs) ≡ []) → b ≡ false
  none_wanted wanted x xs true w h = let e = sym (ap (λ (b : Bool). cond b (x ∷ of_kind (kind_of x.event) xs) (of_kind (kind_of x.event) xs)) (itself (kind_of x.event))) ∙ h (kind_of x.event) w in absurd (cc)
  none_wanted wanted x xs false w h = refl

  no_member : (wanted : Kind → Bool) (list : List (Member A)) → ((j : Kind) → wanted j ≡ true → of_kind j list ≡ []) → AllByRecursion (λ x. wanted (kind_of x.event) ≡ false) list
  no_member wanted [] h = tt
  no_member wanted (x ∷ xs) h = (none_wanted wanted x xs (wanted (kind_of x.event)) refl h, no_member wanted xs (λ j w. none_tail x xs j (same_kind j (kind_of x.event)) (h j w)))

  pub none_found : (wanted : Kind → Bool) (list : List (Member A)) (q : Kind → List (Member A)) → Joins list q → IsEarliest q wanted all_kinds None → AllByRecursion (λ x. wanted (kind_of x.event) ≡ false) list
  none_found wanted list q j e = no_member wanted list (λ k w. j.parts k ∙ of_all (λ k. wanted k ≡ true → q k ≡ []) e k w)

  -- The earliest of fronts.
  not_before_none : (n : ℕ) (l : List (Member A)) → l ≡ [] → NotBefore n l
  not_before_none n [] e = tt
  not_before_none n (x ∷ xs) e = absurd (cc)

  not_before_less : (n m : ℕ) (l : List (Member A)) → n ≤ m → NotBefore m l → NotBefore n l
  not_before_less n m [] h b = tt
  not_before_less n m (x ∷ xs) h b = omega arith

  module _ (q : Kind → List (Member A)) (wanted : Kind → Bool) (ks js : List Kind) where
    none_is_later : (n : ℕ) (is : List Kind) → AllByRecursion (λ k. wanted k ≡ true → q k ≡ []) is → AllByRecursion (λ k. wanted k ≡ true → NotBefore n (q k)) is
    none_is_later n is a = all_map (λ k. wanted k ≡ true → q k ≡ []) (λ k. wanted k ≡ true → NotBefore n (q k)) is (λ k h w. not_before_none n (q k) (h w)) a

    later_is_later : (n m : ℕ) (is : List Kind) → n ≤ m → AllByRecursion (λ k. wanted k ≡ true → NotBefore m (q k)) is → AllByRecursion (λ k. wanted k ≡ true → NotBefore n (q k)) is
    later_is_later n m is l a = all_map (λ k. wanted k ≡ true → NotBefore m (q k)) (λ k. wanted k ≡ true → NotBefore n (q k)) is (λ k h w. not_before_less n m (q k) l (h w)) a

    chosen : (f g : Front A) (b : Bool) → nat_lt g.member.now.order f.member.now.order ≡ b → IsEarliest q wanted ks (Some f) → IsEarliest q wanted js (Some g) → IsEarliest q wanted (ks ++ js) (cond b (Some g) (Some f))
    chosen f g true t x y =
        let l = ltb-true g.member.now.order f.member.now.order t in
        let P = λ (k : Kind). wanted k ≡ true → NotBefore g.member.now.order (q k) in
        (y.0, y.1, all_append P ks js (later_is_later g.member.now.order f.member.now.order ks (omega arith) x.2) y.2)
    chosen f g false t x y =
        let l = ltb-false g.member.now.order f.member.now.order t in
        let P = λ (k : Kind). wanted k ≡ true → NotBefore f.member.now.order (q k) in
        (x.0, x.1, all_append P ks js x.2 (later_is_later f.member.now.order g.member.now.order js l y.2))

    pub earliest_of_both : (a b : Option (Front A)) → IsEarliest q wanted ks a → IsEarliest q wanted js b → IsEarliest q wanted (ks ++ js) (earlier_of a b)
    earliest_of_both None None x y = all_append (λ k. wanted k ≡ true → q k ≡ []) ks js x y
    earliest_of_both None (Some g) x y = (y.0, y.1, all_append (λ k. wanted k ≡ true → NotBefore g.member.now.order (q k)) ks js (none_is_later g.member.now.order ks x) y.2)
    earliest_of_both (Some f) None x y = (x.0, x.1, all_append (λ k. wanted k ≡ true → NotBefore f.member.now.order (q k)) ks js x.2 (none_is_later f.member.now.order js y))
    earliest_of_both (Some f) (Some g) x y = chosen f g (nat_lt g.member.now.order f.member.now.order) refl x y

  -- A walk through all members: some are done, and these are left.
  pub record Reached (q : Kind → List (Member A)) (at : Places) (done rest : List (Member A)) : Type 0 where
    pub parts : (k : Kind) → q k ≡ of_kind k done ++ of_kind k rest
    pub places : (k : Kind) → queue_place at k ≡ length (of_kind k done)
    pub ascends : Ascends rest

  joins_rest : (q : Kind → List (Member A)) (at : Places) (done rest : List (Member A)) → Reached q at done rest → Joins rest (behind q at)
  joins_rest q at done rest r = record { ascends = r.ascends; parts = λ k. sym ((λ i. drop (r.places k i) (r.parts k i)) ∙ drop_here (of_kind k done) (of_kind k rest)) }

  pub reached_start : (q : Kind → List (Member A)) (at : Places) → AreJoined q → ((k : Kind) → queue_place at k ≡ 0) → Reached q at [] (joined q)
  reached_start q at j z = record { parts = λ k. sym (j.parts k); places = z; ascends = j.ascends }

  -- If all kinds are wanted, the earliest front is the first of all.
  none_before : (wanted : Kind → Bool) → ((k : Kind) → wanted k ≡ true) → (xs : List (Member A)) → AllByRecursion (λ x. wanted (kind_of x.event) ≡ false) xs → xs ≡ []
  none_before wanted every [] a = refl
  none_before wanted every (x ∷ xs) a = let e = sym (every (kind_of x.event)) ∙ a.0 in absurd (cc)

  pub first_of : (list : List (Member A)) (q : Kind → List (Member A)) (f : Front A) → Joins list q → IsEarliest q (has_class all_classes) all_kinds (Some f)
      → ((after : List (Member A)) × (list ≡ f.member.now ∷ after)) × (f.kind ≡ kind_of f.member.now.event)
  first_of list q f j e =
      let first = first_found (has_class all_classes) list q f j e in
      ((first.after, first.order ∙ ap (λ l. l ++ f.member.now ∷ first.after) (none_before (has_class all_classes) every_kind first.before first.first)), first.kind_is)

  pub none_left : (list : List (Member A)) (q : Kind → List (Member A)) → Joins list q → IsEarliest q (has_class all_classes) all_kinds None → list ≡ []
  none_left list q j e = none_before (has_class all_classes) every_kind list (none_found (has_class all_classes) list q j e)

  module _ (q : Kind → List (Member A)) (at : Places) (done rest : List (Member A)) (r : Reached q at done rest) where
    next_one : (f : Front A) → IsEarliest (behind q at) (has_class all_classes) all_kinds (Some f) → ((after : List (Member A)) × (rest ≡ f.member.now ∷ after)) × (f.kind ≡ kind_of f.member.now.event)
    next_one f e = first_of rest (behind q at) f (joins_rest q at done rest r) e

    none_next : IsEarliest (behind q at) (has_class all_classes) all_kinds None → rest ≡ []
    none_next e = none_left rest (behind q at) (joins_rest q at done rest r) e

  -- Behind the first of all.
  part_behind : (k kind : Kind) (n : ℕ) (l after : List (Member A)) (m : Member A) (b : Bool) → kind ≡ kind_of m.event → same_kind k kind ≡ b → of_kind k (m ∷ after) ≡ drop n l → of_kind k after ≡ drop (cond b (n + 1) n) l
  part_behind k kind n l after m true is s e =
      let next : n + 1 ≡ suc n = omega arith in
      sym (ap (λ (z : ℕ). drop z l) next ∙ drop_less l n m (of_kind k after) (sym e ∙ ap (λ (b : Bool). cond b (m ∷ of_kind k after) (of_kind k after)) (ap (λ (z : Kind). same_kind k z) (sym is) ∙ s)))
  part_behind k kind n l after m false is s e = sym (ap (λ (b : Bool). cond b (m ∷ of_kind k after) (of_kind k after)) (ap (λ (z : Kind). same_kind k z) (sym is) ∙ s)) ∙ e

  pub joins_behind : (q : Kind → List (Member A)) (at to : Places) (after : List (Member A)) (m : Member A) (kind : Kind) → Joins (m ∷ after) (behind q at) → kind ≡ kind_of m.event
      → ((k : Kind) → queue_place to k ≡ cond (same_kind k kind) (queue_place at k + 1) (queue_place at k)) → Joins after (behind q to)
  joins_behind q at to after m kind j is places = record {
    ascends = j.ascends.1;
    parts = λ k. part_behind k kind (queue_place at k) (q k) after m (same_kind k kind) is refl (j.parts k) ∙ ap (λ (n : ℕ). drop n (q k)) (sym (places k));
  }

  -- what is left after the earliest member
  pub left_of : (q : Kind → List (Member A)) (at to : Places) (f : Front A) → AreJoined (behind q at) → IsEarliest (behind q at) (has_class all_classes) all_kinds (Some f)
      → ((k : Kind) → queue_place to k ≡ cond (same_kind k f.kind) (queue_place at k + 1) (queue_place at k))
      → (after : List (Member A)) × (joined (behind q at) ≡ f.member.now ∷ after) × Joins after (behind q to)
  left_of q at to f j e places =
      let first = first_of (joined (behind q at)) (behind q at) f j e in
      (first.0.0, first.0.1, joins_behind q at to first.0.0 f.member.now f.kind (subst (λ l. Joins l (behind q at)) first.0.1 j) first.1 places)

  -- One more is done, with another order number or with its own.
  module _ (k kind : Kind) (done after : List (Member A)) (m n : Member A) (is : kind ≡ kind_of m.event) (same : kind_of n.event ≡ kind_of m.event) where
    same_as : (b : Bool) → same_kind k kind ≡ b → same_kind k (kind_of n.event) ≡ b
    same_as b e = ap (λ (z : Kind). same_kind k z) (same ∙ sym is) ∙ e

    part_moved : (b : Bool) → same_kind k kind ≡ b → of_kind k done ++ cond b (n ∷ of_kind k after) (of_kind k after) ≡ of_kind k (done ++ n ∷ []) ++ of_kind k after
    part_moved true e = sym (append_assoc (of_kind k done) (n ∷ []) (of_kind k after)) ∙ ap (λ l. l ++ of_kind k after) (sym (part_of k done [] n true (same_as true e)))
    part_moved false e = ap (λ l. l ++ of_kind k after) (sym (append-nil (of_kind k done)) ∙ sym (part_of k done [] n false (same_as false e)))

    place_moved : (p : ℕ) (b : Bool) → same_kind k kind ≡ b → p ≡ length (of_kind k done) → cond b (p + 1) p ≡ length (of_kind k (done ++ n ∷ []))
    place_moved p true e h = let l = ap length (part_of k done [] n true (same_as true e)) ∙ length-append (of_kind k done) (n ∷ []) in omega arith
    place_moved p false e h = h ∙ ap length (sym (append-nil (of_kind k done)) ∙ sym (part_of k done [] n false (same_as false e)))

  pub advance : (q p : Kind → List (Member A)) (at to : Places) (done after : List (Member A)) (m n : Member A) (kind : Kind) → Reached q at done (m ∷ after) → kind ≡ kind_of m.event → kind_of n.event ≡ kind_of m.event
      → ((k : Kind) → p k ≡ of_kind k done ++ cond (same_kind k kind) (n ∷ of_kind k after) (of_kind k after)) → ((k : Kind) → queue_place to k ≡ cond (same_kind k kind) (queue_place at k + 1) (queue_place at k))
      → Reached p to (done ++ n ∷ []) after
  advance q p at to done after m n kind r is same parts places = record {
    parts = λ k. parts k ∙ part_moved k kind done after m n is same (same_kind k kind) refl;
    places = λ k. places k ∙ place_moved k kind done after m n is same (queue_place at k) (same_kind k kind) refl (r.places k);
    ascends = r.ascends.1;
  }

  -- A walk that passes members over.
  pub record Walked (passes : Member A → Bool) (q : Kind → List (Member A)) (at : Places) : Type 0 where
    pub before : List (Member A)
    pub after : List (Member A)
    pub order : joined q ≡ before ++ after
    pub passed : AllByRecursion (λ m. passes m ≡ false) before
    pub reached : Reached q at before after

  pub walked_start : (passes : Member A → Bool) (q : Kind → List (Member A)) (at : Places) → AreJoined q → ((k : Kind) → queue_place at k ≡ 0) → Walked passes q at
  walked_start passes q at j z = record { before = []; after = joined q; order = refl; passed = tt; reached = reached_start q at j z }

  module _ (passes : Member A → Bool) (q : Kind → List (Member A)) (at : Places) (w : Walked passes q at) where
    pub walked_on : (f : Front A) (to : Places) → IsEarliest (behind q at) (has_class all_classes) all_kinds (Some f) → passes f.member.now ≡ false
        → ((k : Kind) → queue_place to k ≡ cond (same_kind k f.kind) (queue_place at k + 1) (queue_place at k)) → Walked passes q to
    walked_on f to e fails places =
        let m = f.member.now in
        let next = next_one q at w.before w.after w.reached f e in
        let after = next.0.0 in
        let r = subst (λ l. Reached q at w.before l) next.0.1 w.reached in
        record {
          before = w.before ++ m ∷ [];
          after = after;
          order = w.order ∙ ap (λ l. w.before ++ l) next.0.1 ∙ sym (append_assoc w.before (m ∷ []) after);
          passed = all_push (λ x. passes x ≡ false) w.before m w.passed fails;
          reached = advance q q at to w.before after m m f.kind r next.1 refl
              (λ k. r.parts k ∙ ap (λ (z : Kind). of_kind k w.before ++ cond (same_kind k z) (m ∷ of_kind k after) (of_kind k after)) (sym next.1)) places;
        }

    pub walked_found : (f : Front A) (place : Place) → IsEarliest (behind q at) (has_class all_classes) all_kinds (Some f) → passes f.member.now ≡ true → place.kind ≡ f.kind → place.at ≡ queue_place at f.kind → IsFirstAt passes q place
    walked_found f place e passed kind at_is =
        let next = next_one q at w.before w.after w.reached f e in
        record {
          before = w.before;
          member = f.member.now;
          after = next.0.0;
          order = w.order ∙ ap (λ l. w.before ++ l) next.0.1;
          first = w.passed;
          admitted = passed;
          kind = kind ∙ next.1;
          at = at_is ∙ w.reached.places f.kind ∙ ap (λ (z : Kind). length (of_kind z w.before)) (sym kind);
        }

    pub walked_all : IsEarliest (behind q at) (has_class all_classes) all_kinds None → AllByRecursion (λ m. passes m ≡ false) (joined q)
    walked_all e = subst (λ l. AllByRecursion (λ m. passes m ≡ false) l) (sym (w.order ∙ ap (λ l. w.before ++ l) (none_next q at w.before w.after w.reached e) ∙ append-nil w.before)) w.passed

  -- The earliest front of the classes of a filter is the first member that it admits.
  module _ (wanted : Kind → Bool) (passes : Member A → Bool) (delivers : (m : Member A) → passes m ≡ wanted (kind_of m.event)) (q : Kind → List (Member A)) (at : Places) (j : AreJoined q) (z : (k : Kind) → queue_place at k ≡ 0) where
    at_fronts : Joins (joined q) (behind q at)
    at_fronts = joins_same (joined q) q (behind q at) j (λ k. ap (λ (n : ℕ). drop n (q k)) (z k))

    pub front_represents : (f : Front A) (place : Place) → IsEarliest (behind q at) wanted all_kinds (Some f) → place.kind ≡ f.kind → place.at ≡ 0 → IsFirstAt passes q place
    front_represents f place e kind zero_is =
        let first = first_found wanted (joined q) (behind q at) f at_fronts e in
        record {
          before = first.before;
          member = f.member.now;
          after = first.after;
          order = first.order;
          first = all_map (λ m. wanted (kind_of m.event) ≡ false) (λ m. passes m ≡ false) first.before (λ m h. delivers m ∙ h) first.first;
          admitted = delivers f.member.now ∙ ap wanted (sym first.kind_is) ∙ e.0;
          kind = kind ∙ first.kind_is;
          at = zero_is ∙ sym (ap (λ (k : Kind). length (of_kind k first.before)) kind ∙ ap length first.none);
        }

    pub no_front : IsEarliest (behind q at) wanted all_kinds None → AllByRecursion (λ m. passes m ≡ false) (joined q)
    no_front e = all_map (λ m. wanted (kind_of m.event) ≡ false) (λ m. passes m ≡ false) (joined q) (λ m h. delivers m ∙ h) (none_found wanted (joined q) (behind q at) at_fronts e)

  -- Members numbered anew.
  ascends_anew : (n : ℕ) (ms : List (Member A)) → Ascends (numbered_anew n ms)
  ascends_anew n [] = tt
  ascends_anew n (m ∷ ms) = (above n (n + 1) ms (omega arith), ascends_anew (n + 1) ms)
    where
      above : (n k : ℕ) (ms : List (Member A)) → n < k → AllByRecursion (λ x. n < x.order) (numbered_anew k ms)
      above n k [] h = tt
      above n k (m ∷ ms) h = (h, above n (k + 1) ms (omega arith))

  anew_push : (n : ℕ) (ms : List (Member A)) (m : Member A) (k : ℕ) → k ≡ n + length ms → numbered_anew n (ms ++ m ∷ []) ≡ numbered_anew n ms ++ record m { order = k } ∷ []
  anew_push n [] m k e = ap (λ (z : ℕ). record m { order = z } ∷ []) (omega arith)
  anew_push n (x ∷ xs) m k e = ap (λ l. record x { order = n } ∷ l) (anew_push (n + 1) xs m k (omega arith))

  pub record Renumbered (before : List (Member A)) (q : Kind → List (Member A)) (at : Places) (next : ℕ) : Type 0 where
    pub done : List (Member A)
    pub rest : List (Member A)
    pub order : before ≡ done ++ rest
    pub count : next ≡ length done
    pub reached : Reached q at (numbered_anew 0 done) rest

  pub renumber_keeps : (q p : Kind → List (Member A)) (kind : Kind) (at : ℕ) (n : Member A) → ((k : Kind) → p k ≡ cond (same_kind k kind) (slice_set (q k) at n) (q k)) → (k : Kind) → length (p k) ≡ length (q k)
  renumber_keeps q p kind at n h k = ap length (h k) ∙ kept (q k) (same_kind k kind)
    where
      kept : (l : List (Member A)) (b : Bool) → length (cond b (slice_set l at n) l) ≡ length l
      kept l true = length-set l at n
      kept l false = refl

  pub renumbered_start : (q : Kind → List (Member A)) (at : Places) → AreJoined q → ((k : Kind) → queue_place at k ≡ 0) → Renumbered (joined q) q at 0
  renumbered_start q at j z = record { done = []; rest = joined q; order = refl; count = refl; reached = reached_start q at j z }

  set_part : (k kind : Kind) (at : ℕ) (q : List (Member A)) (done after : List (Member A)) (m n : Member A) (b : Bool) → kind ≡ kind_of m.event → same_kind k kind ≡ b → at ≡ length (of_kind kind done)
      → q ≡ of_kind k done ++ of_kind k (m ∷ after) → cond b (slice_set q at n) q ≡ of_kind k done ++ cond b (n ∷ of_kind k after) (of_kind k after)
  set_part k kind at q done after m n true is s place e =
      let part : q ≡ of_kind k done ++ m ∷ of_kind k after = e ∙ ap (λ (b : Bool). of_kind k done ++ cond b (m ∷ of_kind k after) (of_kind k after)) (ap (λ (z : Kind). same_kind k z) (sym is) ∙ s) in
      let long : at ≡ length (of_kind k done) = place ∙ ap (λ (z : Kind). length (of_kind z done)) (sym (the_same k kind s)) in
      (λ i. slice_set (part i) (long i) n) ∙ set_here (of_kind k done) (of_kind k after) m n
  set_part k kind at q done after m n false is s place e = e ∙ ap (λ (b : Bool). of_kind k done ++ cond b (m ∷ of_kind k after) (of_kind k after)) (ap (λ (z : Kind). same_kind k z) (sym is) ∙ s)

  module _ (before : List (Member A)) (q : Kind → List (Member A)) (at : Places) (next : ℕ) (w : Renumbered before q at next) where
    pub renumbered_on : (f : Front A) (p : Kind → List (Member A)) (to : Places) → IsEarliest (behind q at) (has_class all_classes) all_kinds (Some f)
        → ((k : Kind) → p k ≡ cond (same_kind k f.kind) (slice_set (q k) (queue_place at f.kind) (record f.member.now { order = next })) (q k))
        → ((k : Kind) → queue_place to k ≡ cond (same_kind k f.kind) (queue_place at k + 1) (queue_place at k)) → Renumbered before p to (next + 1)
    renumbered_on f p to e parts places =
        let m = f.member.now in
        let n : Member A = record m { order = next } in
        let one = next_one q at (numbered_anew 0 w.done) w.rest w.reached f e in
        let after = one.0.0 in
        let r = subst (λ l. Reached q at (numbered_anew 0 w.done) l) one.0.1 w.reached in
        let count = w.count in
        record {
          done = w.done ++ m ∷ [];
          rest = after;
          order = w.order ∙ ap (λ l. w.done ++ l) one.0.1 ∙ sym (append_assoc w.done (m ∷ []) after);
          count = let l = length-append w.done (m ∷ []) in omega arith;
          reached = subst (λ l. Reached p to l after) (sym (anew_push 0 w.done m next (omega arith)))
              (advance q p at to (numbered_anew 0 w.done) after m n f.kind r one.1 refl
              (λ k. parts k ∙ set_part k f.kind (queue_place at f.kind) (q k) (numbered_anew 0 w.done) after m n (same_kind k f.kind) one.1 refl (r.places f.kind) (r.parts k)) places);
        }

    pub renumbered_all : IsEarliest (behind q at) (has_class all_classes) all_kinds None → Joins (numbered_anew 0 before) q × (next ≡ length before)
    renumbered_all e =
        let none = none_next q at (numbered_anew 0 w.done) w.rest w.reached e in
        let all = w.order ∙ ap (λ l. w.done ++ l) none ∙ append-nil w.done in (
          record {
            ascends = ascends_anew 0 before;
            parts = λ k. ap (λ l. of_kind k (numbered_anew 0 l)) all ∙ sym (w.reached.parts k ∙ ap (λ l. of_kind k (numbered_anew 0 w.done) ++ of_kind k l) none ∙ append-nil (of_kind k (numbered_anew 0 w.done)));
          },
          w.count ∙ ap length (sym all),
        )

  -- How many members are at the places and after them.
  abbrev pub left : (Kind → List (Member A)) → Places → ℕ
  left q at = (length (q Event) - queue_place at Event) + (length (q Cursor) - queue_place at Cursor) + (length (q Flags) - queue_place at Flags) + (length (q Attributes) - queue_place at Attributes)

  pub fewer_left : (q p : Kind → List (Member A)) (at to : Places) (kind : Kind) → queue_place at kind < length (q kind) → ((k : Kind) → length (p k) ≡ length (q k))
      → ((k : Kind) → queue_place to k ≡ cond (same_kind k kind) (queue_place at k + 1) (queue_place at k)) → left p to < left q at
  fewer_left q p at to kind low long places =
      let le = long Event in
      let lc = long Cursor in
      let lf = long Flags in
      let la = long Attributes in
      each_kind (λ kind. queue_place at kind < length (q kind) → ((k : Kind) → queue_place to k ≡ cond (same_kind k kind) (queue_place at k + 1) (queue_place at k)) → left p to < left q at)
      (λ low h. let e = h Event in let c = h Cursor in let f = h Flags in let a = h Attributes in omega arith)
      (λ low h. let e = h Event in let c = h Cursor in let f = h Flags in let a = h Attributes in omega arith)
      (λ low h. let e = h Event in let c = h Cursor in let f = h Flags in let a = h Attributes in omega arith)
      (λ low h. let e = h Event in let c = h Cursor in let f = h Flags in let a = h Attributes in omega arith)
      kind low places

  -- What numbers them anew leaves.
  pub same_kept : (n : ℕ) (ms : List (Member A)) → map member_kept (numbered_anew n ms) ≡ map member_kept ms
  same_kept n [] = refl
  same_kept n (m ∷ ms) = ap (λ l. member_kept m ∷ l) (same_kept (n + 1) ms)

  pub below_anew : (n k : ℕ) (ms : List (Member A)) → k ≡ n + length ms → AllByRecursion (λ x. x.order < k) (numbered_anew n ms)
  below_anew n k [] e = tt
  below_anew n k (m ∷ ms) e = (omega arith, below_anew (n + 1) k ms (omega arith))

  -- A queue has no more members than there are in all.
  few_pass : (p : Member A → Bool) (ms : List (Member A)) → length (filter p ms) ≤ length ms
  few_pass p [] = omega arith
  few_pass p (m ∷ ms) = one (p m) (few_pass p ms)
    where
      one : (b : Bool) → length (filter p ms) ≤ length ms → length (cond b (m ∷ filter p ms) (filter p ms)) ≤ suc (length ms)
      one true h = omega arith
      one false h = omega arith

  pub part_fits : (q : Kind → List (Member A)) → AreJoined q → (k : Kind) → length (q k) ≤ length (joined q)
  part_fits q j k = let e = ap length (j.parts k) in let f = few_pass (λ x. same_kind k (kind_of x.event)) (joined q) in omega arith

  -- The member at a place that was found is taken out.
  pub taken_out : (passes : Member A → Bool) (q p : Kind → List (Member A)) (place : Place) (r : Option (Member A)) → AreJoined q → IsFirstAt passes q place → (IsSome r ↔ (place.at < length (q place.kind)))
      → IfSome r (λ m. m ≡ get_or (q place.kind) place.at m) → IfSome r (λ _. (k : Kind) → p k ≡ cond (same_kind k place.kind) (remove (q k) place.at) (q k)) → TakesMember passes q p r
  taken_out passes q p place None j s some value parts =
      let there = is_first_there s.before s.after s.member s.member place.kind place.at q (subst (λ l. Joins l q) s.order j) s.kind s.at in
      let e = some.1 there.1 in
      absurd (cc)
  taken_out passes q p place (Some m) j s some value parts =
      let all = subst (λ l. Joins l q) s.order j in
      let there = is_first_there s.before s.after s.member m place.kind place.at q all s.kind s.at in
      let it : s.member ≡ m = sym (value ∙ there.0) in
      record {
        before = s.before;
        after = s.after;
        order = s.order ∙ ap (λ x. s.before ++ x ∷ s.after) it;
        first = s.first;
        admitted = subst (λ x. passes x ≡ true) it s.admitted;
        others = joins_remove s.before s.after s.member place.kind place.at q p all s.kind s.at parts;
      }
