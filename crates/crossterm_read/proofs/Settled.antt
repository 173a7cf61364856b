-- What a call draws and replies is settled by what its source may answer, if memory isn't refused.
use Rattle.std.proofs.Common.{◌≡◌, ◌≢◌, ◌⊎◌, ◌≤◌, ◌<◌, inl, inr, arith, ℕ, zero, suc, Bool, true, false, List, [], ◌∷◌, ◌++◌, length, Option, Some, None, Result, Ok, Err, get_or, refl, ap, sym, subst, ◌∙◌, append_assoc}
use Rattle.std.proofs.lemmas.List.{append_cancel_left}
use Rattle.std.proofs.lemmas.List.Quantifiers.{position-Some}
use Rattle.std.specs.Prelude.{is_some}
use Rattle.std.specs.List.{AllByRecursion, remove}
use Rattle.std.specs.declared.io.ErrorKind.{ErrorKind}
use Rattle.std.specs.declared.io.ErrorKind.TheVariants.{OutOfMemory, Interrupted}
use Rattle.crossterm_types.specs.Admitting.{admitted, is_attributes, is_cursor_position, is_flags_reply}
use Rattle.crossterm_types.specs.Seen.{Seen}
use Rattle.crossterm_types.proofs.Lists.{all_append}
use Rattle.crossterm_read.specs.Answers.{SourceAnswer, Gave, Nothing, Failed}
use Rattle.crossterm_read.specs.Calls.{Run, Step, all_answers, request}
use Rattle.crossterm_read.specs.OneResult.{IsUnrefused}
use Rattle.crossterm_read.specs.Queries.{QueryReplies, QueryStep, AfterReply, LeftReplies, FlagsReplies, KeyboardStep}
use Rattle.crossterm_read.specs.Replies.{Replied, ToTake, ToQuery, Fault, replied}
use Rattle.crossterm_read.specs.Steps.{Passes, UpTo, Asks, PollReplies, PollStep, ReadReplies, ReadStep, TakeReplies, first_admitted}
use Rattle.crossterm_read.specs.Store.{EventStore, Arrives}
use Rattle.crossterm_read.specs.declared.read.call.Call.{Call}
use Rattle.crossterm_read.specs.declared.read.call.Call.TheVariants as call
use Rattle.crossterm_read.specs.declared.read.reader.AtWake.{AtWake}
use Rattle.crossterm_read.specs.declared.read.reader.AtWake.TheVariants.{Stops, GoesOn}
use Rattle.crossterm_read.proofs.Fronts.{IsClean, AreClean}

woken_not_refused : Interrupted ≡ OutOfMemory → ⊥
woken_not_refused e = cc

-- ---- asking

-- A call didn't end for want of memory.
abbrev IsSound : Result Bool ErrorKind → Type 0
IsSound (Ok true) = Unit {0}
IsSound (Ok false) = Unit {0}
IsSound (Err kind) = kind ≢ OutOfMemory

not_both : (o : Option ℕ) → is_some o ≡ true → o ≡ None → ⊥
not_both None h e = cc
not_both (Some n) h e = cc

module _ (wake : AtWake) (f : Seen → Bool) where
  -- an answer at which asking ends so
  abbrev EndsWith : SourceAnswer → Result Bool ErrorKind → Type 0
  EndsWith (Gave x) (Ok true) = f x ≡ true
  EndsWith (Gave x) (Ok false) = ⊥
  EndsWith (Gave x) (Err kind) = ⊥
  EndsWith Nothing end = ⊥
  EndsWith (Failed kind) (Ok true) = ⊥
  EndsWith (Failed kind) (Ok false) = ⊥
  EndsWith (Failed kind) (Err why) = (why ≡ kind) × (wake ≡ GoesOn → kind ≢ Interrupted)

  -- asking goes on over these answers, with so many tries left, and ends so
  abbrev Goes : ℕ → List SourceAnswer → Result Bool ErrorKind → Type 0
  Goes n [] (Ok true) = ⊥
  Goes n [] (Ok false) = n ≡ 0
  Goes n [] (Err kind) = ⊥
  Goes zero (z ∷ zs) end = ⊥
  Goes (suc n) (z ∷ zs) end = (Passes wake f z × Goes n zs end) ⊎ ((zs ≡ []) × EndsWith z end)

  passes_on : (z : SourceAnswer) (end : Result Bool ErrorKind) → Passes wake f z → EndsWith z end → ⊥
  passes_on (Gave x) (Ok true) p e = let h : true ≡ false = sym e ∙ p in cc
  passes_on (Gave x) (Ok false) p e = e
  passes_on (Gave x) (Err kind) p e = e
  passes_on Nothing end p e = e
  passes_on (Failed kind) (Ok true) p e = e
  passes_on (Failed kind) (Ok false) p e = e
  passes_on (Failed kind) (Err why) p e = e.1 p.0 p.1

  one_end : (z : SourceAnswer) (c d : Result Bool ErrorKind) → EndsWith z c → EndsWith z d → c ≡ d
  one_end (Gave x) (Ok true) (Ok true) a b = refl
  one_end (Gave x) (Ok true) (Ok false) a b = absurd b
  one_end (Gave x) (Ok true) (Err kind) a b = absurd b
  one_end (Gave x) (Ok false) d a b = absurd a
  one_end (Gave x) (Err kind) d a b = absurd a
  one_end Nothing c d a b = absurd a
  one_end (Failed kind) (Ok true) d a b = absurd a
  one_end (Failed kind) (Ok false) d a b = absurd a
  one_end (Failed kind) (Err why) (Ok true) a b = absurd b
  one_end (Failed kind) (Err why) (Ok false) a b = absurd b
  one_end (Failed kind) (Err why) (Err reason) a b = ap Err (a.0 ∙ sym b.0)

  goes_alike : (n : ℕ) (zs ys a b : List SourceAnswer) (c d : Result Bool ErrorKind) → Goes n zs c → Goes n ys d → zs ++ a ≡ ys ++ b → (zs ≡ ys) × (c ≡ d)
  goes_alike n [] [] a b (Ok false) (Ok false) g h e = (refl, refl)
  goes_alike n [] [] a b (Ok false) (Ok true) g h e = absurd h
  goes_alike n [] [] a b (Ok false) (Err kind) g h e = absurd h
  goes_alike n [] ys a b (Ok true) d g h e = absurd g
  goes_alike n [] ys a b (Err kind) d g h e = absurd g
  goes_alike zero [] (y ∷ ys) a b (Ok false) d g h e = absurd h
  goes_alike (suc n) [] (y ∷ ys) a b (Ok false) d g h e = absurd (let w : suc n ≡ 0 = g in omega arith)
  goes_alike zero (z ∷ zs) ys a b c d g h e = absurd g
  goes_alike (suc n) (z ∷ zs) [] a b c (Ok true) g h e = absurd h
  goes_alike (suc n) (z ∷ zs) [] a b c (Ok false) g h e = absurd (let w : suc n ≡ 0 = h in omega arith)
  goes_alike (suc n) (z ∷ zs) [] a b c (Err kind) g h e = absurd h
  goes_alike (suc n) (z ∷ zs) (y ∷ ys) a b c d (inl g) (inl h) e =
      let head : z ≡ y = cc in
      let tail : zs ++ a ≡ ys ++ b = cc in
      let later = goes_alike n zs ys a b c d g.1 h.1 tail in
      (ap (λ (x : SourceAnswer). x ∷ zs) head ∙ ap (λ (l : List SourceAnswer). y ∷ l) later.0, later.1)
  goes_alike (suc n) (z ∷ zs) (y ∷ ys) a b c d (inl g) (inr h) e = let head : z ≡ y = cc in absurd (passes_on y d (subst (Passes wake f) head g.0) h.1)
  goes_alike (suc n) (z ∷ zs) (y ∷ ys) a b c d (inr g) (inl h) e = let head : z ≡ y = cc in absurd (passes_on y c h.0 (subst (λ (x : SourceAnswer). EndsWith x c) head g.1))
  goes_alike (suc n) (z ∷ zs) (y ∷ ys) a b c d (inr g) (inr h) e =
      let head : z ≡ y = cc in
      (ap (λ (x : SourceAnswer). x ∷ zs) head ∙ ap (λ (l : List SourceAnswer). y ∷ l) (g.0 ∙ sym h.0), one_end y c d (subst (λ (x : SourceAnswer). EndsWith x c) head g.1) h.1)

  ends_goes : (n : ℕ) (before : List SourceAnswer) (z : SourceAnswer) (end : Result Bool ErrorKind) → AllByRecursion (Passes wake f) before → EndsWith z end → length (before ++ z ∷ []) ≤ n → Goes n (before ++ z ∷ []) end
  ends_goes zero [] z end all e l = absurd (omega arith)
  ends_goes (suc n) [] z end all e l = inr (refl, e)
  ends_goes zero (y ∷ ys) z end all e l = absurd (omega arith)
  ends_goes (suc n) (y ∷ ys) z end all e l = inl (all.0, ends_goes n ys z end all.1 e (omega arith))

  tried_goes : (n : ℕ) (zs : List SourceAnswer) → AllByRecursion (Passes wake f) zs → length zs ≡ n → Goes n zs (Ok false)
  tried_goes n [] all e = sym e
  tried_goes zero (z ∷ zs) all e = absurd (omega arith)
  tried_goes (suc n) (z ∷ zs) all e = inl (all.0, tried_goes n zs all.1 (omega arith))

  passes_clean : (z : SourceAnswer) → Passes wake f z → IsClean z
  passes_clean (Gave x) p = tt
  passes_clean Nothing p = tt
  passes_clean (Failed kind) p = λ e. woken_not_refused (sym p.1 ∙ e)

  end_clean : (z : SourceAnswer) (end : Result Bool ErrorKind) → IsSound end → EndsWith z end → IsClean z
  end_clean (Gave x) end s e = tt
  end_clean Nothing end s e = tt
  end_clean (Failed kind) (Ok true) s e = absurd e
  end_clean (Failed kind) (Ok false) s e = absurd e
  end_clean (Failed kind) (Err why) s e = λ h. s (e.0 ∙ h)

  goes_clean : (n : ℕ) (zs : List SourceAnswer) (end : Result Bool ErrorKind) → IsSound end → Goes n zs end → AreClean zs
  goes_clean n [] end s g = tt
  goes_clean zero (z ∷ zs) end s g = absurd g
  goes_clean (suc n) (z ∷ zs) end s (inl g) = (passes_clean z g.0, goes_clean n zs end s g.1)
  goes_clean (suc n) (z ∷ zs) end s (inr g) = (end_clean z end s g.1, subst AreClean (sym g.0) tt)

  -- an admitted event is held, or asking goes on
  abbrev Went : ℕ → List (Seen × ℕ) → List SourceAnswer → Result Bool ErrorKind → Type 0
  Went n held zs end = ((is_some (first_admitted f held) ≡ true) × (zs ≡ []) × (end ≡ Ok true)) ⊎ ((first_admitted f held ≡ None) × Goes n zs end)

  went : (n : ℕ) (held : List (Seen × ℕ)) (zs : List SourceAnswer) (end : Result Bool ErrorKind) → IsSound end → Asks wake f (UpTo n) held zs end → Went n held zs end
  went n held zs (Ok true) s (inl a) = inl (a.0, a.1, refl)
  went n held zs (Ok true) s (inr a) =
      inr (a.0, subst (λ (l : List SourceAnswer). Goes n l (Ok true)) (sym a.1.all) (ends_goes n a.1.before (Gave a.1.event) (Ok true) a.1.passed a.1.admitted (subst (λ (l : List SourceAnswer). length l ≤ n) a.1.all a.2)))
  went n held zs (Ok false) s a = inr (a.0, tried_goes n zs a.1 a.2)
  went n held zs (Err kind) s a = elim a.1 [
    | inl b ↦ inr (
      a.0,
      subst (λ (l : List SourceAnswer). Goes n l (Err kind)) (sym b.0.all)
          (ends_goes n b.0.before (Failed kind) (Err kind) b.0.passed (refl, b.0.stops) (subst (λ (l : List SourceAnswer). length l ≤ n) b.0.all b.1)),
    )
    | inr b ↦ absurd (s b.0)
  ]

  went_alike : (n : ℕ) (held : List (Seen × ℕ)) (zs ys a b : List SourceAnswer) (c d : Result Bool ErrorKind) → Went n held zs c → Went n held ys d → zs ++ a ≡ ys ++ b → (zs ≡ ys) × (c ≡ d)
  went_alike n held zs ys a b c d (inl g) (inl h) e = (g.1 ∙ sym h.1, g.2 ∙ sym h.2)
  went_alike n held zs ys a b c d (inl g) (inr h) e = absurd (not_both (first_admitted f held) g.0 h.0)
  went_alike n held zs ys a b c d (inr g) (inl h) e = absurd (not_both (first_admitted f held) h.0 g.0)
  went_alike n held zs ys a b c d (inr g) (inr h) e = goes_alike n zs ys a b c d g.1 h.1 e

  went_clean : (n : ℕ) (held : List (Seen × ℕ)) (zs : List SourceAnswer) (end : Result Bool ErrorKind) → IsSound end → Went n held zs end → AreClean zs
  went_clean n held zs end s (inl g) = subst AreClean (sym g.1) tt
  went_clean n held zs end s (inr g) = goes_clean n zs end s g.1

-- ---- what is held and taken

one_store : (s t u : EventStore) (zs ys : List SourceAnswer) → zs ≡ ys → Arrives s zs t → Arrives s ys u → t ≡ u
one_store s t u zs ys e a b =
    let c = subst (λ (l : List SourceAnswer). Arrives s l t) e a in
    λ i. record { held = (c.held ∙ sym b.held) i; arrivals = (c.arrivals ∙ sym b.arrivals) i }

one_read : {X : Type 0} (xs : List X) (i : ℕ) (a b : X) → i < length xs → get_or xs i a ≡ get_or xs i b
one_read [] i a b l = absurd (omega arith)
one_read (x ∷ xs) zero a b l = refl
one_read (x ∷ xs) (suc i) a b l = one_read xs i a b (omega arith)

module _ (f : Seen → Bool) where
  one_taken : (s t u : EventStore) (x y : Option (Seen × ℕ)) → TakeReplies f s t x → TakeReplies f s u y → (x ≡ y) × (t ≡ u)
  one_taken s t u None None a b = (refl, a.1 ∙ sym b.1)
  one_taken s t u None (Some y) a b = absurd (let h : None ≡ Some b.0 = sym a.0 ∙ b.1 in cc)
  one_taken s t u (Some x) None a b = absurd (let h : None ≡ Some a.0 = sym b.0 ∙ a.1 in cc)
  one_taken s t u (Some x) (Some y) a b =
      let both : Some a.0 ≡ Some b.0 = sym a.1 ∙ b.1 in
      let place : a.0 ≡ b.0 = cc in
      let within = (position-Some (λ h. f h.0) s.held a.0 x a.1).0 in
      let event : x ≡ y = sym a.2 ∙ one_read s.held a.0 x y within ∙ ap (λ (i : ℕ). get_or s.held i y) place ∙ b.2 in
      (ap Some event, a.3 ∙ ap (λ (i : ℕ). record s { held = remove s.held i }) place ∙ sym b.3)

-- ---- polls, reads and queries

-- A poll didn't fail for want of memory.
abbrev IsFine : Result Bool ErrorKind → Type 0
IsFine (Ok b) = Unit {0}
IsFine (Err kind) = kind ≢ OutOfMemory

poll_sound : (end : Result Bool ErrorKind) (r : Result Bool ErrorKind) → PollReplies end r → IsFine r → IsSound end
poll_sound (Ok true) r h fine = tt
poll_sound (Ok false) r h fine = tt
poll_sound (Err kind) r (inl h) fine = λ e. woken_not_refused (sym h.0 ∙ e)
poll_sound (Err kind) r (inr h) fine = subst IsFine h.1 fine

one_poll : (end : Result Bool ErrorKind) (r p : Result Bool ErrorKind) → PollReplies end r → PollReplies end p → r ≡ p
one_poll (Ok true) r p a b = a ∙ sym b
one_poll (Ok false) r p a b = a ∙ sym b
one_poll (Err kind) r p (inl a) (inl b) = a.1 ∙ sym b.1
one_poll (Err kind) r p (inl a) (inr b) = absurd (b.0 a.0)
one_poll (Err kind) r p (inr a) (inl b) = absurd (a.0 b.0)
one_poll (Err kind) r p (inr a) (inr b) = a.1 ∙ sym b.1

-- What two such calls drew is one, and so is what is held then, and the reply.
record Settles {R : Type 0} (zs ys : List SourceAnswer) (t u : EventStore) (r q : R) : Type 0 where
  drawn : zs ≡ ys
  store : t ≡ u
  reply : r ≡ q

module _ (n : ℕ) (f : Seen → Bool) where
  poll_clean : (zs : List SourceAnswer) (s t : EventStore) (r : Result Bool ErrorKind) → PollStep (UpTo n) f zs s t r → IsFine r → AreClean zs
  poll_clean zs s t r a fine =
      let sound = poll_sound a.0 r a.3 fine in
      went_clean Stops f n s.held zs a.0 sound (went Stops f n s.held zs a.0 sound a.1)

  poll_settles : (zs ys a b : List SourceAnswer) (s t u : EventStore) (r q : Result Bool ErrorKind) → PollStep (UpTo n) f zs s t r → IsFine r → PollStep (UpTo n) f ys s u q → IsFine q → zs ++ a ≡ ys ++ b
      → Settles zs ys t u r q
  poll_settles zs ys a b s t u r q x fine y good e =
      let both = went_alike Stops f n s.held zs ys a b x.0 y.0
      (went Stops f n s.held zs x.0 (poll_sound x.0 r x.3 fine) x.1) (went Stops f n s.held ys y.0 (poll_sound y.0 q y.3 good) y.1) e in
      record {
        drawn = both.0;
        store = one_store s t u zs ys both.0 x.2 y.2;
        reply = one_poll y.0 r q (subst (λ (end : Result Bool ErrorKind). PollReplies end r) both.1 x.3) y.3;
      }

  read_sound : (end : Result Bool ErrorKind) (s t : EventStore) (r : Replied) → ReadReplies f end s t r → IsUnrefused r → IsSound end
  read_sound (Ok true) s t r h fine = tt
  read_sound (Ok false) s t r h fine = tt
  read_sound (Err kind) s t r h fine = subst IsUnrefused h.1 fine

  one_read_reply : (end : Result Bool ErrorKind) (s t u : EventStore) (r q : Replied) → ReadReplies f end s t r → ReadReplies f end s u q → (t ≡ u) × (r ≡ q)
  one_read_reply (Ok true) s t u r q a b =
      let both = one_taken f s t u a.0 b.0 a.1 b.1 in
      (both.1, a.2 ∙ ap ToTake both.0 ∙ sym b.2)
  one_read_reply (Ok false) s t u r q a b = (a.0 ∙ sym b.0, a.1 ∙ sym b.1)
  one_read_reply (Err kind) s t u r q a b = (a.0 ∙ sym b.0, a.1 ∙ sym b.1)

  read_clean : (zs : List SourceAnswer) (s t : EventStore) (r : Replied) → ReadStep (UpTo n) f zs s t r → IsUnrefused r → AreClean zs
  read_clean zs s t r a fine =
      let sound = read_sound a.0 a.1 t r a.4 fine in
      went_clean GoesOn f n s.held zs a.0 sound (went GoesOn f n s.held zs a.0 sound a.2)

  read_settles : (zs ys a b : List SourceAnswer) (s t u : EventStore) (r q : Replied) → ReadStep (UpTo n) f zs s t r → IsUnrefused r → ReadStep (UpTo n) f ys s u q → IsUnrefused q → zs ++ a ≡ ys ++ b
      → Settles zs ys t u r q
  read_settles zs ys a b s t u r q x fine y good e =
      let both = went_alike GoesOn f n s.held zs ys a b x.0 y.0
      (went GoesOn f n s.held zs x.0 (read_sound x.0 x.1 t r x.4 fine) x.2) (went GoesOn f n s.held ys y.0 (read_sound y.0 y.1 u q y.4 good) y.2) e in
      let store = one_store s x.1 y.1 zs ys both.0 x.3 y.3 in
      let replies = one_read_reply y.0 y.1 t u r q (subst (λ (m : EventStore). ReadReplies f y.0 m t r) store (subst (λ (end : Result Bool ErrorKind). ReadReplies f end x.1 t r) both.1 x.4)) y.4 in
      record { drawn = both.0; store = replies.0; reply = replies.1 }

  query_fine : (p : Result Bool ErrorKind) (m t : EventStore) (r : Replied) → QueryReplies f p m t r → IsUnrefused r → IsFine p
  query_fine (Ok b) m t r h fine = tt
  query_fine (Err kind) m t r h fine = subst IsUnrefused h.1 fine

  one_query : (p : Result Bool ErrorKind) (m t u : EventStore) (r q : Replied) → QueryReplies f p m t r → QueryReplies f p m u q → (t ≡ u) × (r ≡ q)
  one_query (Ok true) m t u r q a b =
      let both = one_taken f m t u (Some a.0) (Some b.0) a.1 b.1 in
      (both.1, a.2 ∙ ap ToTake both.0 ∙ sym b.2)
  one_query (Ok false) m t u r q a b = (a.0 ∙ sym b.0, a.1 ∙ sym b.1)
  one_query (Err kind) m t u r q a b = (a.0 ∙ sym b.0, a.1 ∙ sym b.1)

  query_clean : (zs : List SourceAnswer) (s t : EventStore) (r : Replied) → QueryStep f (UpTo n) zs s t r → IsUnrefused r → AreClean zs
  query_clean zs s t r a fine = poll_clean zs s a.0 a.1 a.2 (query_fine a.1 a.0 t r a.3 fine)

  query_settles : (zs ys a b : List SourceAnswer) (s t u : EventStore) (r q : Replied) → QueryStep f (UpTo n) zs s t r → IsUnrefused r → QueryStep f (UpTo n) ys s u q → IsUnrefused q → zs ++ a ≡ ys ++ b
      → Settles zs ys t u r q
  query_settles zs ys a b s t u r q x fine y good e =
      let polls = poll_settles zs ys a b s x.0 y.0 x.1 y.1 x.2 (query_fine x.1 x.0 t r x.3 fine) y.2 (query_fine y.1 y.0 u q y.3 good) e in
      let replies = one_query y.1 y.0 t u r q (subst (λ (m : EventStore). QueryReplies f y.1 m t r) polls.store (subst (λ (p : Result Bool ErrorKind). QueryReplies f p x.0 t r) polls.reply x.3)) y.3 in
      record { drawn = polls.drawn; store = replies.0; reply = replies.1 }

-- ---- the query for the keyboard's flags

module _ (n : ℕ) where
  -- the second poll found the attributes
  left_found : (p : Result Bool ErrorKind) (x : Seen × ℕ) (m t : EventStore) (r : Replied) → LeftReplies p x m t r → IsUnrefused r → p ≡ Ok true
  left_found (Ok true) x m t r h fine = refl
  left_found (Ok false) x m t r h fine = absurd (subst IsUnrefused h.1 fine)
  left_found (Err kind) x m t r h fine = absurd (subst IsUnrefused h.1 fine)

  left_fine : (p : Result Bool ErrorKind) → p ≡ Ok true → IsFine p
  left_fine p e = subst IsFine (sym e) tt

  after_clean : (zs : List SourceAnswer) (first : Bool) (x : Seen × ℕ) (s t : EventStore) (r : Replied) → AfterReply (UpTo n) zs first x s t r → IsUnrefused r → AreClean zs
  after_clean zs true x s t r a fine = subst AreClean (sym a.0) tt
  after_clean zs false x s t r a fine = poll_clean n is_attributes zs s a.0 a.1 a.2 (left_fine a.1 (left_found a.1 x a.0 t r a.3 fine))

  after_settles : (zs ys a b : List SourceAnswer) (first : Bool) (x : Seen × ℕ) (s t u : EventStore) (r q : Replied) → AfterReply (UpTo n) zs first x s t r → IsUnrefused r → AfterReply (UpTo n) ys first x s u q → IsUnrefused q
      → zs ++ a ≡ ys ++ b → Settles zs ys t u r q
  after_settles zs ys a b true x s t u r q v fine w good e = record { drawn = v.0 ∙ sym w.0; store = v.1 ∙ sym w.1; reply = v.2 ∙ sym w.2 }
  after_settles zs ys a b false x s t u r q v fine w good e =
      let here = left_found v.1 x v.0 t r v.3 fine in
      let there = left_found w.1 x w.0 u q w.3 good in
      let polls = poll_settles n is_attributes zs ys a b s v.0 w.0 v.1 w.1 v.2 (left_fine v.1 here) w.2 (left_fine w.1 there) e in
      let mine : LeftReplies (Ok true) x w.0 t r = subst (λ (m : EventStore). LeftReplies (Ok true) x m t r) polls.store (subst (λ (p : Result Bool ErrorKind). LeftReplies p x v.0 t r) here v.3) in
      let other : LeftReplies (Ok true) x w.0 u q = subst (λ (p : Result Bool ErrorKind). LeftReplies p x w.0 u q) there w.3 in
      let taken = one_taken is_attributes w.0 t u (Some mine.0) (Some other.0) mine.1 other.1 in
      record { drawn = polls.drawn; store = taken.1; reply = mine.2 ∙ ap (λ (y : Option (Seen × ℕ)). ToQuery x y) taken.0 ∙ sym other.2 }

  flags_fine : (zs : List SourceAnswer) (p : Replied) (s t : EventStore) (r : Replied) → FlagsReplies (UpTo n) zs p s t r → IsUnrefused r → IsUnrefused p
  flags_fine zs p s t r (inl a) fine = subst IsUnrefused (sym a.1) tt
  flags_fine zs p s t r (inr a) fine = subst IsUnrefused (sym a.1) (subst IsUnrefused a.2.2 fine)

  flags_clean : (zs : List SourceAnswer) (p : Replied) (s t : EventStore) (r : Replied) → FlagsReplies (UpTo n) zs p s t r → IsUnrefused r → AreClean zs
  flags_clean zs p s t r (inl a) fine = after_clean zs (is_attributes a.0.0) a.0 s t r a.2 fine
  flags_clean zs p s t r (inr a) fine = subst AreClean (sym a.2.0) tt

  flags_settle : (zs ys a b : List SourceAnswer) (p : Replied) (s t u : EventStore) (r q : Replied) → FlagsReplies (UpTo n) zs p s t r → IsUnrefused r → FlagsReplies (UpTo n) ys p s u q → IsUnrefused q
      → zs ++ a ≡ ys ++ b → Settles zs ys t u r q
  flags_settle zs ys a b p s t u r q (inl v) fine (inl w) good e =
      let both : ToTake (Some v.0) ≡ ToTake (Some w.0) = sym v.1 ∙ w.1 in
      let same : v.0 ≡ w.0 = cc in
      let mine = subst (λ (x : Seen × ℕ). AfterReply (UpTo n) zs (is_attributes x.0) x s t r) same v.2 in
      after_settles zs ys a b (is_attributes w.0.0) w.0 s t u r q mine fine w.2 good e
  flags_settle zs ys a b p s t u r q (inl v) fine (inr w) good e = absurd (let h : ToTake (Some v.0) ≡ Fault w.0 = sym v.1 ∙ w.1 in cc)
  flags_settle zs ys a b p s t u r q (inr v) fine (inl w) good e = absurd (let h : ToTake (Some w.0) ≡ Fault v.0 = sym w.1 ∙ v.1 in cc)
  flags_settle zs ys a b p s t u r q (inr v) fine (inr w) good e =
      let both : Fault v.0 ≡ Fault w.0 = sym v.1 ∙ w.1 in
      record { drawn = v.2.0 ∙ sym w.2.0; store = v.2.1 ∙ sym w.2.1; reply = v.2.2 ∙ both ∙ sym w.2.2 }

  keyboard_clean : (zs : List SourceAnswer) (s t : EventStore) (r : Replied) → KeyboardStep (UpTo n) (UpTo n) zs s t r → IsUnrefused r → AreClean zs
  keyboard_clean zs s t r a fine = subst AreClean (sym a.4)
      (all_append IsClean a.0 a.1 (query_clean n is_flags_reply a.0 s a.2 a.3 a.5 (flags_fine a.1 a.3 a.2 t r a.6 fine)) (flags_clean a.1 a.3 a.2 t r a.6 fine))

  keyboard_settles : (zs ys a b : List SourceAnswer) (s t u : EventStore) (r q : Replied) → KeyboardStep (UpTo n) (UpTo n) zs s t r → IsUnrefused r → KeyboardStep (UpTo n) (UpTo n) ys s u q → IsUnrefused q
      → zs ++ a ≡ ys ++ b → Settles zs ys t u r q
  keyboard_settles zs ys a b s t u r q v fine w good e =
      let whole : v.0 ++ (v.1 ++ a) ≡ w.0 ++ (w.1 ++ b) =
      sym (append_assoc v.0 v.1 a) ∙ ap (λ (l : List SourceAnswer). l ++ a) (sym v.4) ∙ e ∙ ap (λ (l : List SourceAnswer). l ++ b) w.4 ∙ append_assoc w.0 w.1 b in
      let first = query_settles n is_flags_reply v.0 w.0 (v.1 ++ a) (w.1 ++ b) s v.2 w.2 v.3 w.3 v.5 (flags_fine v.1 v.3 v.2 t r v.6 fine) w.5 (flags_fine w.1 w.3 w.2 u q w.6 good) whole in
      let rest : v.1 ++ a ≡ w.1 ++ b = append_cancel_left w.0 (v.1 ++ a) (w.1 ++ b) (ap (λ (l : List SourceAnswer). l ++ (v.1 ++ a)) (sym first.drawn) ∙ whole) in
      let mine = subst (λ (m : EventStore). FlagsReplies (UpTo n) v.1 w.3 m t r) first.store (subst (λ (p : Replied). FlagsReplies (UpTo n) v.1 p v.2 t r) first.reply v.6) in
      let after = flags_settle v.1 w.1 a b w.3 w.2 t u r q mine fine w.6 good rest in
      record {
        drawn = v.4 ∙ ap (λ (l : List SourceAnswer). l ++ v.1) first.drawn ∙ ap (λ (l : List SourceAnswer). w.0 ++ l) after.drawn ∙ sym w.4;
        store = after.store;
        reply = after.reply;
      }

-- ---- steps and runs

poll_fine : (p : Result Bool ErrorKind) (r : Replied) → r ≡ replied p → IsUnrefused r → IsFine p
poll_fine (Ok b) r e fine = tt
poll_fine (Err kind) r e fine = subst IsUnrefused e fine

step_clean : (c : Call) (zs : List SourceAnswer) (s t : EventStore) (r : Replied) → Step (request c) zs s t r → IsUnrefused r → AreClean zs
step_clean (call.Poll tries f) zs s t r a fine = poll_clean tries (admitted f) zs s t a.0 a.1 (poll_fine a.0 r a.2 fine)
step_clean (call.Read tries f) zs s t r a fine = read_clean tries (admitted f) zs s t r a fine
step_clean (call.Take f) zs s t r a fine = subst AreClean (sym a.0) tt
step_clean (call.Position tries) zs s t r a fine = query_clean tries is_cursor_position zs s t r a fine
step_clean (call.Keyboard tries) zs s t r a fine = keyboard_clean tries zs s t r a fine

step_settles : (c : Call) (zs ys a b : List SourceAnswer) (s t u : EventStore) (r q : Replied) → Step (request c) zs s t r → IsUnrefused r → Step (request c) ys s u q → IsUnrefused q → zs ++ a ≡ ys ++ b
    → Settles zs ys t u r q
step_settles (call.Poll tries f) zs ys a b s t u r q v fine w good e =
    let polls = poll_settles tries (admitted f) zs ys a b s t u v.0 w.0 v.1 (poll_fine v.0 r v.2 fine) w.1 (poll_fine w.0 q w.2 good) e in
    record { drawn = polls.drawn; store = polls.store; reply = v.2 ∙ ap replied polls.reply ∙ sym w.2 }
step_settles (call.Read tries f) zs ys a b s t u r q v fine w good e = read_settles tries (admitted f) zs ys a b s t u r q v fine w good e
step_settles (call.Take f) zs ys a b s t u r q v fine w good e =
    let replies = one_read_reply 0 (admitted f) (Ok true) s t u r q v.1 w.1 in
    record { drawn = v.0 ∙ sym w.0; store = replies.0; reply = replies.1 }
step_settles (call.Position tries) zs ys a b s t u r q v fine w good e = query_settles tries is_cursor_position zs ys a b s t u r q v fine w good e
step_settles (call.Keyboard tries) zs ys a b s t u r q v fine w good e = keyboard_settles tries zs ys a b s t u r q v fine w good e

pub run_clean : (calls : List Call) (zss : List (List SourceAnswer)) (rs : List Replied) (s t : EventStore) → Run s calls zss rs t → AllByRecursion IsUnrefused rs → AreClean (all_answers zss)
run_clean [] [] [] s t h fine = tt
run_clean [] (zs ∷ zss) rs s t h fine = absurd h
run_clean [] [] (r ∷ rs) s t h fine = absurd h
run_clean (c ∷ cs) [] rs s t h fine = absurd h
run_clean (c ∷ cs) (zs ∷ zss) [] s t h fine = absurd h
run_clean (c ∷ cs) (zs ∷ zss) (r ∷ rs) s t h fine =
    all_append IsClean zs (all_answers zss) (step_clean c zs s h.0 r h.1 fine.0) (run_clean cs zss rs h.0 t h.2 fine.1)

-- Two runs over fronts of the same answers have one result.
pub run_settles : (calls : List Call) (zss yss : List (List SourceAnswer)) (rs qs : List Replied) (a b : List SourceAnswer) (s t u : EventStore) → Run s calls zss rs t → AllByRecursion IsUnrefused rs
    → Run s calls yss qs u → AllByRecursion IsUnrefused qs → all_answers zss ++ a ≡ all_answers yss ++ b → (rs ≡ qs) × (t ≡ u)
run_settles [] [] [] [] [] a b s t u h fine k good e = (refl, h ∙ sym k)
run_settles [] (zs ∷ zss) yss rs qs a b s t u h fine k good e = absurd h
run_settles [] [] yss (r ∷ rs) qs a b s t u h fine k good e = absurd h
run_settles [] [] (ys ∷ yss) [] qs a b s t u h fine k good e = absurd k
run_settles [] [] [] [] (q ∷ qs) a b s t u h fine k good e = absurd k
run_settles (c ∷ cs) [] yss rs qs a b s t u h fine k good e = absurd h
run_settles (c ∷ cs) (zs ∷ zss) yss [] qs a b s t u h fine k good e = absurd h
run_settles (c ∷ cs) (zs ∷ zss) [] (r ∷ rs) qs a b s t u h fine k good e = absurd k
run_settles (c ∷ cs) (zs ∷ zss) (ys ∷ yss) (r ∷ rs) [] a b s t u h fine k good e = absurd k
run_settles (c ∷ cs) (zs ∷ zss) (ys ∷ yss) (r ∷ rs) (q ∷ qs) a b s t u h fine k good e =
    let whole : zs ++ (all_answers zss ++ a) ≡ ys ++ (all_answers yss ++ b) = sym (append_assoc zs (all_answers zss) a) ∙ e ∙ append_assoc ys (all_answers yss) b in
    let first = step_settles c zs ys (all_answers zss ++ a) (all_answers yss ++ b) s h.0 k.0 r q h.1 fine.0 k.1 good.0 whole in
    let rest : all_answers zss ++ a ≡ all_answers yss ++ b = append_cancel_left ys (all_answers zss ++ a) (all_answers yss ++ b) (ap (λ (l : List SourceAnswer). l ++ (all_answers zss ++ a)) (sym first.drawn) ∙ whole) in
    let later = run_settles cs zss yss rs qs a b k.0 t u (subst (λ (m : EventStore). Run m cs zss rs t) first.store h.2) fine.1 k.2 good.1 rest in
    (ap (λ (x : Replied). x ∷ rs) first.reply ∙ ap (λ (l : List Replied). q ∷ l) later.0, later.1)
