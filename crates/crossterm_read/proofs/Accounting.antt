-- What is taken and what is held, against what came.
use Rattle.std.proofs.Common.{◌≡◌, inl, inr, ℕ, zero, suc, Bool, true, false, List, [], ◌∷◌, ◌++◌, Option, Some, None, Result, Ok, Err, refl, sym, ap, subst, ◌∙◌, append-nil, append_assoc}
use Rattle.std.specs.List.{remove}
use Rattle.std.specs.List.Sorted.{IsPermutation}
use Rattle.std.specs.Option.{option_to_list}
use Rattle.std.specs.declared.io.ErrorKind.{ErrorKind}
use Rattle.std.specs.declared.io.ErrorKind.TheVariants.{Other}
use Rattle.std.proofs.lemmas.List.Sorted.{IsPermutation-refl, IsPermutation-append_left, IsPermutation-more}
use Rattle.std.proofs.lemmas.List.Quantifiers.{position-Some}
use Rattle.crossterm_types.specs.Seen.{Seen}
use Rattle.crossterm_read.specs.Answers.{SourceAnswer, Gave, Nothing, Failed, gave}
use Rattle.crossterm_read.specs.Device.{DeviceAnswer}
use Rattle.crossterm_read.specs.Outcomes.{Answered}
use Rattle.crossterm_read.proofs.Happening.{answered_front}
use Rattle.crossterm_read.specs.declared.read.call.Call.{Call}
use Rattle.crossterm_read.specs.Store.{EventStore, arrived, numbered_after, next_number, Arrives}
use Rattle.crossterm_read.specs.Steps.{Patience, TakeReplies, ReadReplies, TakeStep, PollStep}
use Rattle.crossterm_read.specs.Queries.{QueryReplies, QueryStep, IsAnswer, AfterReply, LeftReplies, FlagsReplies, KeyboardStep}
use Rattle.crossterm_read.specs.Replies.{Said, Replied, ToPoll, ToTake, ToQuery, Fault, replied}
use Rattle.crossterm_read.specs.Calls.{Step, Request, Poll, Read, Take, Position, Keyboard, request, Run, all_answers, empty, taken, numbered, IsAccounted, IsWithin, Accounts, Plays}
use Rattle.crossterm_types.specs.Admitting.{admitted, is_cursor_position, is_flags_reply, is_attributes}
use Rattle.crossterm_read.proofs.Asking.{arrived-append, numbered_after-append}

within_none : (ys : List (Seen × ℕ)) → IsWithin [] ys
within_none ys = tt

-- A list is within itself.
pub within_refl : (xs : List (Seen × ℕ)) → IsWithin xs xs
within_refl [] = tt
within_refl (x ∷ xs) = inl (refl, within_refl xs)

-- a list on both sides
within_append : (xs ys zs : List (Seen × ℕ)) → IsWithin xs ys → IsWithin (xs ++ zs) (ys ++ zs)
within_append [] [] zs h = within_refl zs
within_append [] (y ∷ ys) [] h = tt
within_append [] (y ∷ ys) (z ∷ zs) h = inr (within_append [] ys (z ∷ zs) tt)
within_append (x ∷ xs) [] zs h = absurd h
within_append (x ∷ xs) (y ∷ ys) zs (inl h) = inl (h.0, within_append xs ys zs h.1)
within_append (x ∷ xs) (y ∷ ys) zs (inr h) = inr (within_append (x ∷ xs) ys zs h)

within_tail : (x : Seen × ℕ) (xs ys : List (Seen × ℕ)) → IsWithin (x ∷ xs) ys → IsWithin xs ys
within_tail x [] ys h = tt
within_tail x (y ∷ xs) [] h = absurd h
within_tail x (y ∷ xs) (z ∷ ys) (inl h) = inr h.1
within_tail x (y ∷ xs) (z ∷ ys) (inr h) = inr (within_tail x (y ∷ xs) ys h)

within_trans_remove : (xs ys : List (Seen × ℕ)) (i : ℕ) → IsWithin xs ys → IsWithin (remove xs i) ys
within_trans_remove [] ys zero h = tt
within_trans_remove [] ys (suc i) h = tt
within_trans_remove (x ∷ xs) ys zero h = within_tail x xs ys h
within_trans_remove (x ∷ xs) [] (suc i) h = absurd h
within_trans_remove (x ∷ xs) (y ∷ ys) (suc i) (inl h) = inl (h.0, within_trans_remove xs ys i h.1)
within_trans_remove (x ∷ xs) (y ∷ ys) (suc i) (inr h) = inr (within_trans_remove (x ∷ xs) ys (suc i) h)

-- What came is what was taken and what is held.
pub record Account (all done : List (Seen × ℕ)) (s : EventStore) : Type 0 where
  pub once : IsPermutation all (done ++ s.held)
  pub within : IsWithin s.held all

arrives_account : (all done : List (Seen × ℕ)) (s m : EventStore) (zs : List SourceAnswer) → Account all done s → Arrives s zs m → Account (all ++ arrived s.arrivals zs) done m
arrives_account all done s m zs a h = record {
  once = subst (λ l. IsPermutation (all ++ arrived s.arrivals zs) l) (append_assoc done s.held (arrived s.arrivals zs) ∙ ap (λ l. done ++ l) (sym h.held))
      (IsPermutation-append_left (arrived s.arrivals zs) all (done ++ s.held) a.once);
  within = subst (λ l. IsWithin l (all ++ arrived s.arrivals zs)) (sym h.held) (within_append s.held all (arrived s.arrivals zs) a.within);
}

-- The same after a step that took more, and left this number.
abbrev pub Taken : List (Seen × ℕ) → List (Seen × ℕ) → EventStore → List (Seen × ℕ) → ℕ → Type 0
Taken all done t more n = Account all (done ++ more) t × (t.arrivals ≡ n)

-- Nothing is taken if nothing changes.
pub none_taken : (all done : List (Seen × ℕ)) (s t : EventStore) → t ≡ s → Account all done s → Taken all done t [] s.arrivals
none_taken all done s t e a = (subst (λ l. Account all l t) (sym (append-nil done)) (subst (λ (y : EventStore). Account all done y) (sym e) a), ap (λ (y : EventStore). y.arrivals) e)

take_account : (f : Seen → Bool) (all done : List (Seen × ℕ)) (s t : EventStore) (x : Option (Seen × ℕ)) → Account all done s → TakeReplies f s t x → Taken all done t (option_to_list x) s.arrivals
take_account f all done s t None a h = none_taken all done s t h.1 a
take_account f all done s t (Some x) a h =
    let b = position-Some (λ p. f p.0) s.held h.0 x h.1 in
    let g : Account all (done ++ x ∷ []) (record s { held = remove s.held h.0 }) = record {
      once = IsPermutation-more all done s.held h.0 x b.0 (sym h.2) a.once;
      within = within_trans_remove s.held all h.0 a.within;
    } in
    (subst (λ (y : EventStore). Account all (done ++ x ∷ []) y) (sym h.3) g, ap (λ (y : EventStore). y.arrivals) h.3)

poll_taken : (p : Result Bool ErrorKind) → taken (replied p ∷ []) ≡ []
poll_taken (Ok b) = refl
poll_taken (Err kind) = refl

came_taken : (x : Option (Seen × ℕ)) → taken (ToTake x ∷ []) ≡ option_to_list x
came_taken None = refl
came_taken (Some x) = refl

-- Of an equal reply the same was taken.
taken_so : (all done : List (Seen × ℕ)) (t : EventStore) (n : ℕ) (q r : Replied) → r ≡ q → Taken all done t (taken (q ∷ [])) n → Taken all done t (taken (r ∷ [])) n
taken_so all done t n q r e k = subst (λ (y : Replied). Taken all done t (taken (y ∷ [])) n) (sym e) k

came_account : (f : Seen → Bool) (all done : List (Seen × ℕ)) (m t : EventStore) (x : Option (Seen × ℕ)) (r : Replied) → Account all done m → TakeReplies f m t x → r ≡ ToTake x → Taken all done t (taken (r ∷ [])) m.arrivals
came_account f all done m t x r a h e =
    taken_so all done t m.arrivals (ToTake x) r e (subst (λ (l : List (Seen × ℕ)). Taken all done t l m.arrivals) (sym (came_taken x)) (take_account f all done m t x a h))

read_account : (f : Seen → Bool) (all done : List (Seen × ℕ)) (end : Result Bool ErrorKind) (m t : EventStore) (r : Replied) → Account all done m → ReadReplies f end m t r → Taken all done t (taken (r ∷ [])) m.arrivals
read_account f all done (Ok true) m t r a h = came_account f all done m t h.0 r a h.1 h.2
read_account f all done (Ok false) m t r a h = taken_so all done t m.arrivals (ToTake None) r h.1 (none_taken all done m t h.0 a)
read_account f all done (Err kind) m t r a h = taken_so all done t m.arrivals (Fault kind) r h.1 (none_taken all done m t h.0 a)

take_step : (f : Seen → Bool) (zs : List SourceAnswer) (all done : List (Seen × ℕ)) (s t : EventStore) (r : Replied) → Account all done s → TakeStep f zs s t r
    → Taken (all ++ arrived s.arrivals zs) done t (taken (r ∷ [])) (numbered_after s.arrivals zs)
take_step f zs all done s t r a h =
    let k = subst (λ l. Taken l done t (taken (r ∷ [])) s.arrivals) (sym (append-nil all)) (read_account f all done (Ok true) s t r a h.1) in
    subst (λ (l : List SourceAnswer). Taken (all ++ arrived s.arrivals l) done t (taken (r ∷ [])) (numbered_after s.arrivals l)) (sym h.0) k

-- what a poll, and then what is said of it, do to what came
poll_account : (f : Seen → Bool) (tries : Patience) (zs : List SourceAnswer) (all done : List (Seen × ℕ)) (s t : EventStore) (r : Result Bool ErrorKind) → Account all done s → PollStep tries f zs s t r
    → Account (all ++ arrived s.arrivals zs) done t × (t.arrivals ≡ numbered_after s.arrivals zs)
poll_account f tries zs all done s t r a h = (arrives_account all done s t zs a h.2, h.2.arrivals)

query_account : (f : Seen → Bool) (all done : List (Seen × ℕ)) (p : Result Bool ErrorKind) (m t : EventStore) (r : Replied) → Account all done m → QueryReplies f p m t r → Taken all done t (taken (r ∷ [])) m.arrivals
query_account f all done (Ok true) m t r a h = came_account f all done m t (Some h.0) r a h.1 h.2
query_account f all done (Ok false) m t r a h = taken_so all done t m.arrivals (Fault Other) r h.1 (none_taken all done m t h.0 a)
query_account f all done (Err kind) m t r a h = taken_so all done t m.arrivals (Fault kind) r h.1 (none_taken all done m t h.0 a)

asked_account : (f : Seen → Bool) (tries : Patience) (zs : List SourceAnswer) (all done : List (Seen × ℕ)) (s t : EventStore) (r : Replied) → Account all done s → QueryStep f tries zs s t r
    → Taken (all ++ arrived s.arrivals zs) done t (taken (r ∷ [])) (numbered_after s.arrivals zs)
asked_account f tries zs all done s t r a h =
    let p = poll_account f tries zs all done s h.0 h.1 a h.2 in
    subst (λ (n : ℕ). Taken (all ++ arrived s.arrivals zs) done t (taken (r ∷ [])) n) p.1 (query_account f (all ++ arrived s.arrivals zs) done h.1 h.0 t r p.0 h.3)

-- Nothing is left to be taken after these flags.
left_none : (all done : List (Seen × ℕ)) (x : Seen × ℕ) (m t : EventStore) (r : Replied) → Account all (done ++ x ∷ []) m → (t ≡ m) × (r ≡ ToQuery x None) → Taken all done t (taken (r ∷ [])) m.arrivals
left_none all done x m t r a h = taken_so all done t m.arrivals (ToQuery x None) r h.1 (subst (λ (y : EventStore). Account all (done ++ x ∷ []) y) (sym h.0) a, ap (λ (y : EventStore). y.arrivals) h.0)

left_account : (all done : List (Seen × ℕ)) (p : Result Bool ErrorKind) (x : Seen × ℕ) (m t : EventStore) (r : Replied) → Account all (done ++ x ∷ []) m → LeftReplies p x m t r → Taken all done t (taken (r ∷ [])) m.arrivals
left_account all done (Ok true) x m t r a h =
    let k = take_account is_attributes all (done ++ x ∷ []) m t (Some h.0) a h.1 in
    taken_so all done t m.arrivals (ToQuery x (Some h.0)) r h.2 (subst (λ l. Account all l t) (append_assoc done (x ∷ []) (h.0 ∷ [])) k.0, k.1)
left_account all done (Ok false) x m t r a h = left_none all done x m t r a h
left_account all done (Err kind) x m t r a h = left_none all done x m t r a h

abbrev AfterTaken : List SourceAnswer → List (Seen × ℕ) → List (Seen × ℕ) → EventStore → EventStore → List (Seen × ℕ) → Type 0
AfterTaken zs all done s t more = Taken (all ++ arrived s.arrivals zs) done t more (numbered_after s.arrivals zs)

nothing_after : (zs : List SourceAnswer) (all done : List (Seen × ℕ)) (s t : EventStore) (q r : Replied) → Taken all done s (taken (q ∷ [])) s.arrivals → IsAnswer zs q s t r → AfterTaken zs all done s t (taken (r ∷ []))
nothing_after zs all done s t q r k h =
    let a = subst (λ (y : EventStore). Taken all done y (taken (q ∷ [])) s.arrivals) (sym h.1) k in
    let b = subst (λ l. Taken l done t (taken (q ∷ [])) s.arrivals) (sym (append-nil all)) a in
    subst (λ (l : List SourceAnswer). AfterTaken l all done s t (taken (r ∷ []))) (sym h.0) (subst (λ (y : Replied). Taken (all ++ []) done t (taken (y ∷ [])) s.arrivals) (sym h.2) b)

after_account : (again : Patience) (zs : List SourceAnswer) (attributes : Bool) (x : Seen × ℕ) (all done : List (Seen × ℕ)) (s t : EventStore) (r : Replied) → Taken all done s (x ∷ []) s.arrivals → AfterReply again zs attributes x s t r
    → AfterTaken zs all done s t (taken (r ∷ []))
after_account again zs false x all done s t r k h =
    let p = poll_account is_attributes again zs all (done ++ x ∷ []) s h.0 h.1 k.0 h.2 in
    subst (λ (n : ℕ). Taken (all ++ arrived s.arrivals zs) done t (taken (r ∷ [])) n) p.1 (left_account (all ++ arrived s.arrivals zs) done h.1 x h.0 t r p.0 h.3)
after_account again zs true x all done s t r k h = nothing_after zs all done s t (ToTake (Some x)) r k h

flags_account : (again : Patience) (zs : List SourceAnswer) (q : Replied) (all done : List (Seen × ℕ)) (s t : EventStore) (r : Replied) → Taken all done s (taken (q ∷ [])) s.arrivals → FlagsReplies again zs q s t r → AfterTaken zs all done s t (taken (r ∷ []))
flags_account again zs q all done s t r k (inl h) =
    after_account again zs (is_attributes h.0.0) h.0 all done s t r (taken_so all done s s.arrivals q (ToTake (Some h.0)) (sym h.1) k) h.2
flags_account again zs q all done s t r k (inr h) = nothing_after zs all done s t (Fault h.0) r (taken_so all done s s.arrivals q (Fault h.0) (sym h.1) k) h.2

keyboard_account : (tries again : Patience) (zs : List SourceAnswer) (all done : List (Seen × ℕ)) (s t : EventStore) (r : Replied) → Account all done s → KeyboardStep tries again zs s t r
    → Taken (all ++ arrived s.arrivals zs) done t (taken (r ∷ [])) (numbered_after s.arrivals zs)
keyboard_account tries again zs all done s t r a h =
    let xs = h.0 in
    let ys = h.1 in
    let m = h.2 in
    let k = asked_account is_flags_reply tries xs all done s m h.3 a h.5 in
    let here : Taken (all ++ arrived s.arrivals xs) done m (taken (h.3 ∷ [])) m.arrivals = (k.0, refl) in
    let f = flags_account again ys h.3 (all ++ arrived s.arrivals xs) done m t r here h.6 in
    let more : (all ++ arrived s.arrivals xs) ++ arrived m.arrivals ys ≡ all ++ arrived s.arrivals (xs ++ ys) =
    append_assoc all (arrived s.arrivals xs) (arrived m.arrivals ys) ∙ ap (λ l. all ++ l) (ap (λ (i : ℕ). arrived s.arrivals xs ++ arrived i ys) k.1 ∙ sym (arrived-append s.arrivals xs ys)) in
    let count : numbered_after m.arrivals ys ≡ numbered_after s.arrivals (xs ++ ys) = ap (λ (i : ℕ). numbered_after i ys) k.1 ∙ sym (numbered_after-append s.arrivals xs ys) in
    subst (λ (l : List SourceAnswer). Taken (all ++ arrived s.arrivals l) done t (taken (r ∷ [])) (numbered_after s.arrivals l)) (sym h.4)
    (subst (λ l. Taken l done t (taken (r ∷ [])) (numbered_after s.arrivals (xs ++ ys))) more (subst (λ (n : ℕ). Taken ((all ++ arrived s.arrivals xs) ++ arrived m.arrivals ys) done t (taken (r ∷ [])) n) count f))

-- A step of any request.
pub step_account : (c : Request) (zs : List SourceAnswer) (all done : List (Seen × ℕ)) (s t : EventStore) (r : Replied) → Account all done s → Step c zs s t r
    → Taken (all ++ arrived s.arrivals zs) done t (taken (r ∷ [])) (numbered_after s.arrivals zs)
step_account (Poll tries f) zs all done s t r a h =
    let b = poll_account (admitted f) tries zs all done s t h.0 a h.1 in
    let k = none_taken (all ++ arrived s.arrivals zs) done t t refl b.0 in
    subst (λ (l : List (Seen × ℕ)). Taken (all ++ arrived s.arrivals zs) done t l (numbered_after s.arrivals zs)) (sym (ap (λ (y : Replied). taken (y ∷ [])) h.2 ∙ poll_taken h.0))
    (subst (λ (n : ℕ). Taken (all ++ arrived s.arrivals zs) done t [] n) b.1 k)
step_account (Read tries f) zs all done s t r a h =
    subst (λ (n : ℕ). Taken (all ++ arrived s.arrivals zs) done t (taken (r ∷ [])) n) h.3.arrivals
    (read_account (admitted f) (all ++ arrived s.arrivals zs) done h.0 h.1 t r (arrives_account all done s h.1 zs a h.3) h.4)
step_account (Take f) zs all done s t r a h = take_step (admitted f) zs all done s t r a h
step_account (Position tries) zs all done s t r a h = asked_account is_cursor_position tries zs all done s t r a h
step_account (Keyboard tries again) zs all done s t r a h = keyboard_account tries again zs all done s t r a h

taken_cons : (r : Replied) (rs : List Replied) → taken (r ∷ rs) ≡ taken (r ∷ []) ++ taken rs
taken_cons (ToTake None) rs = refl
taken_cons (ToTake (Some x)) rs = refl
taken_cons (ToQuery x None) rs = refl
taken_cons (ToQuery x (Some y)) rs = refl
taken_cons (ToPoll b) rs = refl
taken_cons (Fault kind) rs = refl

-- A step, and what follows it.
pub account_more : (zs ws : List SourceAnswer) (r : Replied) (rs : List Replied) (all done : List (Seen × ℕ)) (s m t : EventStore) → m.arrivals ≡ numbered_after s.arrivals zs
    → Account ((all ++ arrived s.arrivals zs) ++ arrived m.arrivals ws) ((done ++ taken (r ∷ [])) ++ taken rs) t → Account (all ++ arrived s.arrivals (zs ++ ws)) (done ++ taken (r ∷ rs)) t
account_more zs ws r rs all done s m t k n =
    let e : (all ++ arrived s.arrivals zs) ++ arrived m.arrivals ws ≡ all ++ arrived s.arrivals (zs ++ ws) =
    append_assoc all (arrived s.arrivals zs) (arrived m.arrivals ws)
    ∙ ap (λ l. all ++ l) (ap (λ (i : ℕ). arrived s.arrivals zs ++ arrived i ws) k ∙ sym (arrived-append s.arrivals zs ws)) in
    let d : (done ++ taken (r ∷ [])) ++ taken rs ≡ done ++ taken (r ∷ rs) = append_assoc done (taken (r ∷ [])) (taken rs) ∙ ap (λ l. done ++ l) (sym (taken_cons r rs)) in
    subst (λ l. Account l (done ++ taken (r ∷ rs)) t) e (subst (λ l. Account ((all ++ arrived s.arrivals zs) ++ arrived m.arrivals ws) l t) d n)

run_account : (cs : List Call) (zss : List (List SourceAnswer)) (rs : List Replied) (all done : List (Seen × ℕ)) (s t : EventStore) → Account all done s → Run s cs zss rs t
    → Account (all ++ arrived s.arrivals (all_answers zss)) (done ++ taken rs) t
run_account [] [] [] all done s t a h = subst (λ (y : EventStore). Account (all ++ []) (done ++ []) y) (sym h) (subst (λ l. Account l (done ++ []) s) (sym (append-nil all)) (subst (λ l. Account all l s) (sym (append-nil done)) a))
run_account [] [] (r ∷ rs) all done s t a h = absurd h
run_account [] (zs ∷ zss) rs all done s t a h = absurd h
run_account (c ∷ cs) [] rs all done s t a h = absurd h
run_account (c ∷ cs) (zs ∷ zss) [] all done s t a h = absurd h
run_account (c ∷ cs) (zs ∷ zss) (r ∷ rs) all done s t a h =
    let k = step_account (request c) zs all done s h.0 r a h.1 in
    account_more zs (all_answers zss) r rs all done s h.0 t k.1 (run_account cs zss rs (all ++ arrived s.arrivals zs) (done ++ taken (r ∷ [])) h.0 t k.0 h.2)

arrived_gave : (n : ℕ) (zs : List SourceAnswer) → arrived n zs ≡ numbered n (gave zs)
arrived_gave n [] = refl
arrived_gave n (Gave x ∷ zs) = ap (λ l. (x, n) ∷ l) (arrived_gave (next_number n) zs)
arrived_gave n (Nothing ∷ zs) = arrived_gave n zs
arrived_gave n (Failed kind ∷ zs) = arrived_gave n zs

-- What is taken and held if these answers came from the beginning on.
pub accounted : (device_answers : List DeviceAnswer) (answers : List SourceAnswer) (done : List (Seen × ℕ)) (t : EventStore) → Answered device_answers answers → Account (arrived 0 answers) done t
    → IsAccounted device_answers done t.held
accounted device_answers answers done t latest k =
    let f = answered_front device_answers answers latest in
    let numbers = arrived_gave 0 answers in
    record {
      all = f.0;
      front = gave answers;
      rest = f.1;
      happened = f.2;
      first = f.3;
      once = subst (λ l. IsPermutation l (done ++ t.held)) numbers k.once;
      in_order = subst (λ l. IsWithin t.held l) numbers k.within;
    }

pub accounts : (device_answers : List DeviceAnswer) (calls : List Call) (said : List Said) (held : List Seen) → Plays device_answers calls said held → Accounts device_answers said held
accounts device_answers calls said held p =
    let start : Account [] [] empty = record { once = IsPermutation-refl []; within = tt } in
    record {
      replies = p.replies;
      kept = p.last.held;
      shows = p.shows;
      left = p.left;
      accounted = accounted device_answers (all_answers p.drawn) (taken p.replies) p.last p.answered (run_account calls p.drawn p.replies [] [] empty p.last start p.run);
    }
