-- The queues of a reader, and the order of all that they hold.
use Rattle.std.specs.Prelude.{◌≡◌, ℕ, ◌+◌, ◌<◌, ◌≤◌, Bool, true, false, nat_lt, if◌then◌else◌, List, [], ◌∷◌, ◌++◌, length, drop, Option, Some, None}
use Rattle.std.specs.VecDeque.{deque_capacity}
use Rattle.std.specs.List.{AllByRecursion, filter}
use Rattle.crossterm_types.specs.Seen.{Seen, seen}
use Rattle.crossterm_read.specs.inside.Kinds.{kind_of, queue_place, same_kind}
use Rattle.crossterm_read.specs.declared.read.held.kind.Kind.{Kind}
use Rattle.crossterm_read.specs.declared.read.held.kind.Kind.TheVariants.{Event, Cursor, Flags, Attributes}
use Rattle.crossterm_read.specs.declared.read.held.kind.Place.{Place}
use Rattle.crossterm_read.specs.declared.read.held.kind.Places.{Places}
use Rattle.crossterm_read.specs.declared.read.held.queues.Front.{Front}
use Rattle.crossterm_read.specs.declared.read.held.queues.Member.{Member}
use Rattle.crossterm_read.specs.declared.read.held.queues.Queues.{Queues}

-- The members of each queue.
abbrev pub queue_of : {A : Type 0} → Queues A → Kind → List (Member A)
queue_of q Event = q.events.items
queue_of q Cursor = q.cursors.items
queue_of q Flags = q.flags.items
queue_of q Attributes = q.attributes.items

-- The members of each queue; none if the queues aren't made yet.
abbrev pub queues_of : {A : Type 0} → Option (Queues A) → Kind → List (Member A)
queues_of None kind = []
queues_of (Some q) kind = queue_of q kind

module _ {A : Type 0} where
  -- A member as a clause sees it: its event and its arrival number.
  abbrev pub member_kept : Member A → Seen × ℕ
  member_kept m = (seen m.event, m.arrival)

  -- The members of a kind.
  abbrev pub of_kind : Kind → List (Member A) → List (Member A)
  of_kind kind ms = filter (λ m. same_kind kind (kind_of m.event)) ms

  -- The events at these places and behind them.
  abbrev pub behind : (Kind → List (Member A)) → Places → Kind → List (Member A)
  behind q at kind = drop (queue_place at kind) (q kind)

  -- A member goes before the first one with a greater order number.
  abbrev pub put_in : Member A → List (Member A) → List (Member A)
  put_in m [] = m ∷ []
  put_in m (x ∷ xs) = if nat_lt m.order x.order then m ∷ x ∷ xs else x ∷ put_in m xs

  -- Members by their order numbers.
  abbrev pub in_order : List (Member A) → List (Member A)
  in_order [] = []
  in_order (m ∷ ms) = put_in m (in_order ms)

  -- All members of the queues, by their order numbers.
  abbrev pub joined : (Kind → List (Member A)) → List (Member A)
  joined q = in_order (q Event ++ (q Cursor ++ (q Flags ++ q Attributes)))

  -- The order number of each is below those of all after it.
  abbrev pub Ascends : List (Member A) → Type 0
  Ascends [] = Unit {0}
  Ascends (m ∷ ms) = AllByRecursion (λ x. m.order < x.order) ms × Ascends ms

  -- The order numbers rise along the list, and each queue has its members of one kind.
  pub record Joins (list : List (Member A)) (q : Kind → List (Member A)) : Type 0 where
    pub ascends : Ascends list
    pub parts : (kind : Kind) → of_kind kind list ≡ q kind

  -- The members of the queues have one order.
  abbrev pub AreJoined : (Kind → List (Member A)) → Type 0
  AreJoined q = Joins (joined q) q

  -- The same members with order numbers from this one on.
  abbrev pub numbered_anew : ℕ → List (Member A) → List (Member A)
  numbered_anew n [] = []
  numbered_anew n (m ∷ ms) = record m { order = n } ∷ numbered_anew (n + 1) ms

  -- The first of a queue has this order number at least.
  abbrev pub NotBefore : ℕ → List (Member A) → Type 0
  NotBefore n [] = Unit {0}
  NotBefore n (m ∷ ms) = n ≤ m.order

  -- Among the wanted kinds, the first member of a queue that has the least order number.
  abbrev pub IsEarliest : (Kind → List (Member A)) → (Kind → Bool) → List Kind → Option (Front A) → Type 0
  IsEarliest q wanted kinds None = AllByRecursion (λ kind. wanted kind ≡ true → q kind ≡ []) kinds
  IsEarliest q wanted kinds (Some f) = (wanted f.kind ≡ true) × ((rest : List (Member A)) × (q f.kind ≡ f.member.now ∷ rest))
      × AllByRecursion (λ kind. wanted kind ≡ true → NotBefore f.member.now.order (q kind)) kinds

  -- The first member of all that passes, and its place in its queue.
  pub record IsFirstAt (passes : Member A → Bool) (q : Kind → List (Member A)) (place : Place) : Type 0 where
    pub before : List (Member A)
    pub member : Member A
    pub after : List (Member A)
    pub order : joined q ≡ before ++ member ∷ after
    pub first : AllByRecursion (λ m. passes m ≡ false) before
    pub admitted : passes member ≡ true
    pub kind : place.kind ≡ kind_of member.event
    pub at : place.at ≡ length (of_kind place.kind before)

  -- The place of the first member that passes, or nothing if none does.
  abbrev pub FindsPlace : (Member A → Bool) → (Kind → List (Member A)) → Option Place → Type 0
  FindsPlace passes q None = AllByRecursion (λ m. passes m ≡ false) (joined q)
  FindsPlace passes q (Some place) = IsFirstAt passes q place

  -- The first member that passes is taken out, and no other.
  pub record TakesOne (passes : Member A → Bool) (old new : Kind → List (Member A)) (m : Member A) : Type 0 where
    pub before : List (Member A)
    pub after : List (Member A)
    pub order : joined old ≡ before ++ m ∷ after
    pub first : AllByRecursion (λ x. passes x ≡ false) before
    pub admitted : passes m ≡ true
    pub others : Joins (before ++ after) new

  -- The first member that passes is taken out; if none passes, nothing changes.
  abbrev pub TakesMember : (Member A → Bool) → (Kind → List (Member A)) → (Kind → List (Member A)) → Option (Member A) → Type 0
  TakesMember passes old new None = AllByRecursion (λ m. passes m ≡ false) (joined old) × ((kind : Kind) → new kind ≡ old kind)
  TakesMember passes old new (Some m) = TakesOne passes old new m

-- All kinds.
abbrev pub all_kinds : List Kind
all_kinds = Event ∷ Cursor ∷ Flags ∷ Attributes ∷ []

-- So many events have room in each queue.
abbrev pub HaveRoom : {A : Type 0} → Queues A → ℕ → Type 0
HaveRoom q n = (n ≤ deque_capacity q.events) × (n ≤ deque_capacity q.cursors) × (n ≤ deque_capacity q.flags) × (n ≤ deque_capacity q.attributes)

-- There is room for so many events in each queue, or the queues aren't made yet and it is 0.
abbrev pub HaveRoomFor : {A : Type 0} → Option (Queues A) → ℕ → Type 0
HaveRoomFor None n = n ≡ 0
HaveRoomFor (Some q) n = HaveRoom q n

-- The invariant of the queues between two calls: one order, below the next order number, and room for so many events in
-- each.
pub record AreKept {A : Type 0} (queues : Option (Queues A)) (len limit next : ℕ) : Type 0 where
  pub joins : AreJoined (queues_of queues)
  pub below : AllByRecursion (λ m. m.order < next) (joined (queues_of queues))
  pub count : length (joined (queues_of queues)) ≡ len
  pub fits : len ≤ limit
  pub room : HaveRoomFor queues limit

-- The one of two with the lesser order number.
abbrev pub earlier_of : {A : Type 0} → Option (Front A) → Option (Front A) → Option (Front A)
earlier_of None second = second
earlier_of (Some a) None = Some a
earlier_of (Some a) (Some b) = if nat_lt b.member.now.order a.member.now.order then Some b else Some a

-- The queues have the same members.
abbrev pub SameQueues : {A : Type 0} → Queues A → Queues A → Type 0
SameQueues old new = (kind : Kind) → queue_of new kind ≡ queue_of old kind
