-- What a call of a shared reader does to what its pass knows.
use Rattle.std.proofs.Common.{◌≡◌, ℕ, zero, suc, ◌+◌, ◌-◌, ◌^◌, ◌<◌, ◌≤◌, Bool, List, [], ◌∷◌, ◌++◌, Option, Some, None, Result, Ok, Err, true, false, refl, sym, ap, ◌∙◌, subst, arith, append-nil}
use Rattle.std.specs.Prelude.{is_some, IfSome, IfNone, IfErr, IfOk}
use Rattle.std.specs.List.{range_with_len}
use Rattle.std.specs.declared.io.Error.{Error}
use Rattle.crossterm_read.specs.Answers.{SourceAnswer}
use Rattle.crossterm_read.specs.declared.read.held.Taken.{Taken}
use Rattle.crossterm_read.specs.Store.{ReaderState, reader_capacity}
use Rattle.crossterm_read.specs.History.{Entry, Known, Sits, Runs, Extends, EachOnce, opened, Meets, Closes, calls_by, last_taken, last_from}
use Rattle.crossterm_read.specs.inside.Numbers.{IsOrderly}
use Rattle.crossterm_read.specs.Calls.{Request, Step}
use Rattle.crossterm_read.specs.Replies.{Replied, Fault, ToPoll, ToTake, Came, Faulted, poll_reply, read_said, replied, shown}
use Rattle.crossterm_read.specs.inside.Replies.{flags_said, read_reply, try_reply, last_said, last_tried}
use Rattle.crossterm_flags.specs.declared.enhancement.KeyboardEnhancementFlags.{KeyboardEnhancementFlags}
use Rattle.crossterm_types.specs.Seen.{Seen, seen}
use Rattle.crossterm_types.specs.declared.event.InternalEvent.{InternalEvent}
use Rattle.std.specs.IoError.{error_kind}
use Rattle.std.specs.declared.io.ErrorKind.{ErrorKind}
use Rattle.crossterm_read.specs.inside.Slot.{Took, Put, ProducesCall, Learnt, first_pass, one_more, taught}
use Rattle.crossterm_read.proofs.EachOnce.{each_once}
use Rattle.crossterm_read.proofs.Histories.{runs_room, runs_snoc, not_fewer}
use Rattle.crossterm_read.proofs.Next.{fault_of}
use Rattle.crossterm_read.proofs.Slotting.{off, some_of, calls_by-append, calls_by-mine, are_snoc}

-- What is there.
pub some_there : {A : Type 0} (o : Option A) → is_some o ≡ true → (x : A) × (o ≡ Some x)
some_there (Some x) h = (x, refl)
some_there None h = absurd (off h)

-- The first pass and those that it makes know nothing yet.
pub sits_first : {S : Type 0} (v : Known S) (o : ReaderState S) (others : ℕ) → v ≡ first_pass o others 0 → Sits v
sits_first v o others is = subst Sits (sym is) record { opened = refl; number = omega arith; alone = refl; mine = refl; of_passes = refl }

pub sits_more : {S : Type 0} (v w : Known S) (o : ReaderState S) (others left : ℕ) → left < others → v ≡ first_pass o others (suc left) → w ≡ one_more v → Sits w
sits_more v w o others left less is made =
    subst Sits (sym (made ∙ ap one_more is)) record { opened = refl; number = omega arith; alone = refl; mine = refl; of_passes = refl }

pub mine_more : {S : Type 0} (v w : Known S) (o : ReaderState S) (others left : ℕ) → v ≡ first_pass o others (suc left) → w ≡ one_more v → w.mine ≡ []
mine_more v w o others left is made = ap (λ u. u.mine) (made ∙ ap one_more is)

-- The pass that the first one makes.
pub made_knows : {S : Type 0} (w : Known S) (o : ReaderState S) (n k : ℕ) → k < n → 1 ≤ k → w ≡ one_more (first_pass o (n - 1) (suc (n - (k + 1)))) → (w ≡ opened o n w.number) × (w.number ≡ k)
made_knows w o n k less some is =
    let counted : w.number ≡ k = ap (λ u. u.number) is ∙ omega arith in
    (is ∙ ap (λ (t : ℕ). opened o t (suc (n - 1) - suc (n - (k + 1)))) (omega arith) ∙ ap (opened o n) (sym (ap (λ u. u.number) is)), counted)

module _ {S : Type 0} (drawn : S → List SourceAnswer → S → Type 0) where
  -- Who took the reader still sits.
  pub sits_taken : (v w : Known S) (x : ReaderState S) → Sits v → Took drawn v x w → Sits w
  sits_taken v w x sits t = subst Sits (sym t.after) record {
    opened = sits.opened;
    number = sits.number;
    alone = sits.alone;
    mine = calls_by-append v.number v.seen t.between ∙ ap (λ l. calls_by v.number v.seen ++ l) t.others ∙ append-nil (calls_by v.number v.seen) ∙ sits.mine;
    of_passes = t.callers;
  }

  -- So does who put it back.
  pub sits_put : (made : ReaderState S → Entry → ReaderState S → Type 0) (v w : Known S) (x : ReaderState S) → Sits v → Put drawn made v x w → Sits w
  sits_put made v w x sits p = subst Sits (sym p.1) record {
    opened = sits.opened;
    number = sits.number;
    alone = sits.alone;
    mine = calls_by-append v.number v.seen (p.0.call ∷ []) ∙ ap (λ l. calls_by v.number v.seen ++ l) (calls_by-mine v.number p.0.call p.0.by) ∙ ap (λ l. l ++ p.0.call ∷ []) sits.mine;
    of_passes = are_snoc v.passes v.seen p.0.call sits.of_passes (let by = p.0.by in let low = sits.number in omega arith);
  }

  -- What a put asks, after a take and one call.
  -- The same by an equal state.
  pub taken_at : (v u : Known S) (x y : ReaderState S) → y ≡ x → Took drawn v x u → Took drawn v y u
  taken_at v u x y e t = subst (λ (z : ReaderState S). Took drawn v z u) (sym e) t

  pub produces : (made : ReaderState S → Entry → ReaderState S → Type 0) (v u : Known S) (x y : ReaderState S) → Took drawn v x u → (call : Request) (answers : List SourceAnswer) (r : Replied)
      → made x (record { by = u.number; call = call; answers = answers; reply = r }) y → drawn x.source answers y.source → Step call answers x.store y.store r → reader_capacity x ≤ reader_capacity y → ProducesCall drawn made u y
  produces made v u x y t call answers r such d step room = subst (λ (k : Known S). k.number ≡ u.number → ProducesCall drawn made k y) (sym t.after) of_taken refl
    where
      of_taken : v.number ≡ u.number → ProducesCall drawn made (record v { seen = v.seen ++ t.between; has = true }) y
      of_taken same = record {
        opening = t.opening;
        found = x;
        call = record { by = u.number; call = call; answers = answers; reply = r };
        such = such;
        by = sym same;
        opened = t.opened;
        has = refl;
        runs = t.runs;
        makes = (d, step, room);
      }

  -- A take, and then a put.
  pub extends : (made : ReaderState S → Entry → ReaderState S → Type 0) (v u w : Known S) (x y : ReaderState S) → v.has ≡ false → Took drawn v x u → Put drawn made u y w → Extends drawn made v w
  extends made v u w x y idle t p = from_seen (subst (λ (k : Known S). Put drawn made k y w) t.after p)
    where
      from_seen : Put drawn made (record v { seen = v.seen ++ t.between; has = true }) y w → Extends drawn made v w
      from_seen q =
          let b = q.0 in
          let log : List Entry = (v.seen ++ t.between) ++ b.call ∷ [] in
          let ran : Runs drawn b.opening log y = runs_snoc drawn b.opening b.found y (v.seen ++ t.between) b.call b.runs b.makes in
          let same : t.opening ≡ b.opening = some_of _ _ (sym t.opened ∙ b.opened) in
          let orderly : IsOrderly b.opening.store.held b.opening.store.arrivals = subst (λ (o : ReaderState S). IsOrderly o.store.held o.store.arrivals) same t.orderly in
          let after : w ≡ record v { seen = log; mine = v.mine ++ b.call ∷ [] } = q.1 ∙ ap (λ (h : Bool). record v { seen = log; mine = v.mine ++ b.call ∷ []; has = h }) (sym idle) in
          record {
            opening = b.opening;
            between = t.between;
            call = b.call;
            found = b.found;
            left = y;
            such = b.such;
            by = b.by;
            opened = b.opened;
            before = b.runs;
            makes = b.makes;
            others = t.others;
            after = after;
            fresh = not_fewer drawn b.opening b.found v.seen t.between (subst (λ (o : ReaderState S). o.store.arrivals < 2 ^ 64) same t.fits) b.runs;
            room = runs_room drawn b.opening b.found (v.seen ++ t.between) b.runs;
            each_once = subst (λ (k : Known S). EachOnce b.opening k.seen y) (sym after) (each_once drawn b.opening y log orderly ran);
          }

  -- What is known of the call, said otherwise.
  pub extends_at : (made such : ReaderState S → Entry → ReaderState S → Type 0) (v w : Known S) (x : Extends drawn made v w) → such x.found x.call x.left → Extends drawn such v w
  extends_at made such v w x so = record {
    opening = x.opening;
    between = x.between;
    call = x.call;
    found = x.found;
    left = x.left;
    such = so;
    by = x.by;
    opened = x.opened;
    before = x.before;
    makes = x.makes;
    others = x.others;
    after = x.after;
    fresh = x.fresh;
    room = x.room;
    each_once = x.each_once;
  }

  -- A take for good.
  pub closes : (v w : Known S) (x : ReaderState S) → Took drawn v x w → Closes drawn v x w
  closes v w x t = record {
    opening = t.opening;
    between = t.between;
    opened = t.opened;
    runs = t.runs;
    others = t.others;
    each_once = each_once drawn t.opening x (v.seen ++ t.between) t.orderly t.runs;
    after = t.after;
  }

  pub closed_as : (r : Option (ReaderState S)) (v w : Known S) → IfSome r (λ x. Took drawn v x w) → IfSome r (λ x. Closes drawn v x w)
  closed_as (Some x) v w t = closes v w x t
  closed_as None v w t = tt

  pub closed_sits : (r : Option (ReaderState S)) (v w : Known S) → Sits v → IfSome r (λ x. Took drawn v x w) → IfNone r (w ≡ v) → Sits w
  closed_sits (Some x) v w sits t same = sits_taken v w x sits t
  closed_sits None v w sits t same = subst Sits (sym same) sits

  pub closed_none : (P : Type 0) (r : Option (ReaderState S)) (v w : Known S) → P → v.has ≡ false → IfNone r (w ≡ v) → IfNone r ((w ≡ v) × (P × (w.has ≡ false)))
  closed_none P (Some x) v w there idle same = tt
  closed_none P None v w there idle same = (same, (there, ap (λ (k : Known S). k.has) same ∙ idle))

  pub closed_last : (r : Option (ReaderState S)) (last : Option ℕ) (v w : Known S) → last ≡ last_from None v.mine → IfSome r (λ x. Took drawn v x w) → IfNone r (w ≡ v) → last ≡ last_from None w.mine
  closed_last (Some x) last v w before t same = before ∙ ap (λ k. last_from None k.mine) (sym t.after)
  closed_last None last v w before t same = before ∙ ap (λ k. last_from None k.mine) (sym same)

  -- Two passes that met.
  pub meets_of : (v other w : Known S) → w ≡ taught v other → Learnt drawn w → Meets drawn v other w
  meets_of v other w is l = subst (Meets drawn v other) (sym is) (of_taught (subst (Learnt drawn) is l))
    where
      of_taught : Learnt drawn (taught v other) → Meets drawn v other (taught v other)
      of_taught l =
          let m = l.met (record { other = other.number; theirs = other.seen; ours = v.seen }) refl in
          record {
            opening = l.opening;
            left = l.left;
            opened = l.opened;
            runs = l.runs;
            each_once = each_once drawn l.opening l.left (taught v other).seen l.orderly l.runs;
            ours = m.0;
            theirs = m.1;
            apart = m.2;
            kept = refl;
          }

  pub sits_met : (v other w : Known S) → w ≡ taught v other → Sits v → Learnt drawn w → Sits w
  sits_met v other w is sits l = subst Sits (sym is) (of_taught (subst (Learnt drawn) is l))
    where
      of_taught : Learnt drawn (taught v other) → Sits (taught v other)
      of_taught l = record { opened = sits.opened; number = sits.number; alone = sits.alone; mine = l.mine; of_passes = l.callers }

pub last_met : {S : Type 0} (last : Option ℕ) (v other w : Known S) → w ≡ taught v other → last ≡ last_from None v.mine → last ≡ last_from None w.mine
last_met last v other w is before = before ∙ ap (λ k. last_from None k.mine) (sym is)

last_from-push : (n : Option ℕ) (es : List Entry) (e : Entry) → last_from n (es ++ e ∷ []) ≡ last_taken (last_from n es) e.reply
last_from-push n [] e = refl
last_from-push n (x ∷ es) e = last_from-push (last_taken n x.reply) es e

-- The number of what was taken last, after one call with this reply.
pub last_after : {S : Type 0} (drawn : S → List SourceAnswer → S → Type 0) (made : ReaderState S → Entry → ReaderState S → Type 0) (r : Replied) (v u w : Known S) (x y : ReaderState S) (last : Option ℕ)
    → Took drawn v x u → (p : Put drawn made u y w) → p.0.call.reply ≡ r → last ≡ last_from None v.mine → last_taken last r ≡ last_from None w.mine
last_after drawn made r v u w x y last t p is before =
    ap (λ (n : Option ℕ). last_taken n r) (before ∙ ap (λ k. last_from None k.mine) (sym t.after)) ∙ ap (last_taken (last_from None u.mine)) (sym is) ∙ sym (last_from-push None u.mine p.0.call)
    ∙ ap (λ k. last_from None k.mine) (sym p.1)

-- What holds of a fault holds of it in the reply.
pub poll_memory : (r : Result Bool Error) (P : ErrorKind → Type 0) → IfErr r (λ e. P (error_kind e)) → (kind : ErrorKind) → replied (poll_reply r) ≡ Fault kind → P kind
poll_memory (Ok b) P h kind e = absurd (poll_not e)
  where
    poll_not : ToPoll b ≡ Fault kind → ⊥
    poll_not e = absurd (cc)
poll_memory (Err x) P h kind e = subst P (fault_of (error_kind x) kind e) h

pub flags_memory : (r : Result (Taken (Option KeyboardEnhancementFlags)) Error) (q : Replied) (P : ErrorKind → Type 0) → flags_said r ≡ shown q → IfErr r (λ e. P (error_kind e)) → (kind : ErrorKind) → q ≡ Fault kind → P kind
flags_memory (Ok x) q P s h kind e = absurd (came_not (s ∙ ap shown e))
  where
    came_not : {x : Option Seen} → Came x ≡ Faulted kind → ⊥
    came_not e = absurd (cc)
flags_memory (Err x) q P s h kind e = subst P (faulted (error_kind x) kind (s ∙ ap shown e)) h
  where
    faulted : (k l : ErrorKind) → Faulted k ≡ Faulted l → k ≡ l
    faulted k l e = cc

-- What a read's number says, and its memory.
pub last_read : {A : Type 0} (n : Option ℕ) (r : Result (Taken (InternalEvent A)) Error) → last_taken n (read_reply r) ≡ last_said n r
last_read n (Ok x) = refl
last_read n (Err e) = refl

pub read_memory : {A : Type 0} (r : Result (Taken (InternalEvent A)) Error) (P : ErrorKind → Type 0) → IfErr r (λ e. P (error_kind e)) → (kind : ErrorKind) → read_reply r ≡ Fault kind → P kind
read_memory (Ok x) P h kind e = absurd (take_not e)
  where
    take_not : {x : Option (Seen × ℕ)} → ToTake x ≡ Fault kind → ⊥
    take_not e = absurd (cc)
read_memory (Err x) P h kind e = subst P (fault_of (error_kind x) kind e) h

pub last_try : {A : Type 0} (n : Option ℕ) (r : Result (Option (Taken (InternalEvent A))) Error) → last_taken n (try_reply r) ≡ last_tried n r
last_try n (Ok (Some x)) = refl
last_try n (Ok None) = refl
last_try n (Err e) = refl

pub try_memory : {A : Type 0} (r : Result (Option (Taken (InternalEvent A))) Error) (P : ErrorKind → Type 0) → IfErr r (λ e. P (error_kind e)) → (kind : ErrorKind) → try_reply r ≡ Fault kind → P kind
try_memory (Ok x) P h kind e = absurd (take_not e)
  where
    take_not : {x : Option (Seen × ℕ)} → ToTake x ≡ Fault kind → ⊥
    take_not e = absurd (cc)
try_memory (Err x) P h kind e = subst P (fault_of (error_kind x) kind e) h

-- What holds of a read's event with its number holds of it without.
pub read_kept : {A : Type 0} (P : Seen → Type 0) (taken : Result (Taken (InternalEvent A)) Error) (r : Result (InternalEvent A) Error) → read_said r ≡ shown (read_reply taken) → IfOk taken (λ x. P (seen x.event)) → IfOk r (λ e. P (seen e))
read_kept P (Ok x) (Ok y) e h = subst P (seen_of (seen x.event) (seen y) (sym e)) h
  where
    seen_of : (a b : Seen) → Came (Some a) ≡ Came (Some b) → a ≡ b
    seen_of a b e = cc
read_kept P (Err x) (Ok y) e h = absurd (came_not (seen y) (error_kind x) e)
  where
    came_not : (a : Seen) (kind : ErrorKind) → Came (Some a) ≡ Faulted kind → ⊥
    came_not a kind e = cc
read_kept P taken (Err y) e h = tt

-- A poll takes nothing.
pub last_poll : (n : Option ℕ) (r : Result Bool Error) → last_taken n (replied (poll_reply r)) ≡ n
last_poll n (Ok b) = refl
last_poll n (Err e) = refl

-- A longer list of numbers, one after another.
pub range_more : (a n : ℕ) → range_with_len a (suc n) ≡ range_with_len a n ++ (a + n) ∷ []
range_more a zero = ap (λ k. k ∷ []) (omega arith)
range_more a (suc n) = ap (λ l. a ∷ l) (range_more (a + 1) n ∙ ap (λ k. range_with_len (a + 1) n ++ k ∷ []) (omega arith))
