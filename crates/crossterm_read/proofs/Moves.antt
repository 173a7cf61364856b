-- Each step keeps the rule of the slot.
use Rattle.std.proofs.Common.{◌≡◌, ◌≢◌, ◌⊎◌, ℕ, zero, suc, ◌+◌, ◌^◌, ◌<◌, ◌≤◌, List, [], ◌∷◌, ◌++◌, length, set, Some, true, false, refl, sym, ap, ◌∙◌, subst, inl, inr, ⊎_elim, arith, append-nil, length-append}
use mathlib.Core.Option.{some, some-ne-none}
use lib.ListN.{get_elem?, length-set}
use Rattle.std.specs.Prelude.{⊤}
use Rattle.std.proofs.lemmas.Bool.{false_from_ne_true}
use Rattle.crossbeam_queue.specs.Fifo.{Pushes, Pops, Forks, Learns, Merges}
use Rattle.crossbeam_queue.proofs.Lists.{at_set, set_here, set_else, set_again, at_longer}
use Rattle.crossterm_read.specs.Answers.{SourceAnswer}
use Rattle.crossterm_read.specs.Store.{ReaderState}
use Rattle.crossterm_read.specs.History.{Entry, Known, Meeting, StartsWith, Runs, are_of, calls_by}
use Rattle.crossterm_read.specs.inside.Numbers.{IsOrderly}
use Rattle.crossterm_read.specs.inside.Slot.{newcomer, first_pass, one_less, one_more, longer, taught, Agrees, Nobody, Holder, Open, SlotRule, Took, ProducesCall, Put, Learnt}
use Rattle.crossterm_read.proofs.Histories.{runs_front, runs_snoc}
use Rattle.crossterm_read.proofs.Slotting.{head_same, tail_same, off, some_of, none_not, calls_by-append, calls_by-mine, calls_by-other, below, at_end, some_at, are_snoc, are_more, are_front, none_past, none_more, same_or_not, starts_on, first_there, longer_starts, longer_ours, longer_theirs, longer_whole, longer_calls}

module _ {S : Type 0} (drawn : S → List SourceAnswer → S → Type 0) where
  abbrev All : (ℕ → Known S → Type 0) → List (Known S) → Type 0
  All F views = (by : ℕ) (v : Known S) → get_elem? views by ≡ some v → F by v

  all_set : (F : ℕ → Known S → Type 0) (views : List (Known S)) (by : ℕ) (w : Known S) → F by w → ((j : ℕ) (u : Known S) → j ≢ by → get_elem? views j ≡ some u → F j u) → All F (set views by w)
  all_set F views by w mine others j u e =
      ⊎_elim
      (λ (x : (j ≡ by) × (w ≡ u)). subst (λ (y : ℕ × Known S). F y.0 y.1) (λ i. (sym x.0 i, x.1 i)) mine)
      (λ (x : (j ≢ by) × (get_elem? views j ≡ some u)). others j u x.0 x.1)
      (at_set views by j w u e)

  -- The rule before the reader is put in.
  pub begins : SlotRule drawn [] (newcomer ∷ [])
  begins = inl (refl, refl)

  -- What a pass that was opened knows, of a rule that is kept.
  known : (items : List (ReaderState S)) (views : List (Known S)) (by : ℕ) (v : Known S) (o : ReaderState S) → v.opening ≡ Some o → SlotRule drawn items views → get_elem? views by ≡ some v → Open drawn items views
  known items views by v o is (inl h) at = absurd (none_not o (sym (ap (λ (u : Known S). u.opening) (only views by h.1 at)) ∙ is))
    where
      at_one : (j : ℕ) → get_elem? (newcomer ∷ []) j ≡ some v → v ≡ newcomer
      at_one zero e = sym (some_at _ _ e)
      at_one (suc j) e = absurd (some-ne-none v (sym e))

      only : (l : List (Known S)) (j : ℕ) → l ≡ newcomer ∷ [] → get_elem? l j ≡ some v → v ≡ newcomer
      only l j e a = at_one j (subst (λ (k : List (Known S)). get_elem? k j ≡ some v) e a)
  known items views by v o is (inr h) at = h

  -- There are no more passes than the reader was opened for.
  within : (items : List (ReaderState S)) (views : List (Known S)) (by : ℕ) (v : Known S) → get_elem? views by ≡ some v → (h : Open drawn items views) → length views ≤ h.passes
  within items views by v at h = let first = first_there views by v at in let c = h.count first.0 first.1 in omega arith

  -- The count stays if a pass changes that represents as many as before.
  still_counted : (items : List (ReaderState S)) (views : List (Known S)) (by : ℕ) (v w : Known S) (h : Open drawn items views) → get_elem? views by ≡ some v → w.spare ≡ v.spare
      → (u : Known S) → get_elem? (set views by w) 0 ≡ some u → length (set views by w) + u.spare ≡ h.passes
  still_counted items views by v w h at same u e =
      let long = length-set views by w in
      ⊎_elim
      (λ (q : (0 ≡ by) × (w ≡ u)). let c = h.count v (subst (λ j. get_elem? views j ≡ some v) (sym q.0) at) in let d = ap (λ (y : Known S). y.spare) q.1 in omega arith)
      (λ (q : (0 ≢ by) × (get_elem? views 0 ≡ some u)). let c = h.count u q.1 in omega arith)
      (at_set views by 0 w u e)

  -- The slot of a reader that was opened just now.
  opens_from : (x : ReaderState S) (others : ℕ) → IsOrderly x.store.held x.store.arrivals → x.store.arrivals < 2 ^ 64 → Open drawn (x ∷ []) (first_pass x others others ∷ [])
  opens_from x others orderly fits = record {
    opening = x;
    passes = suc others;
    log = [];
    now = x;
    orderly = orderly;
    fits = fits;
    runs = refl;
    whole = (0, first_pass x others others, refl, refl);
    place = inl (refl, one (λ _ u. u.has ≡ false) refl);
    each = one (Agrees drawn x (suc others) []) record {
      number = refl;
      passes_so = refl;
      spare = λ q. absurd (q refl);
      opening = refl;
      seen = ([], refl);
      mine = refl;
      all_mine = refl;
      has = λ h. absurd (off h);
      met = λ m e. absurd (none_not m e);
    };
    count = λ v e. one (λ _ u. 1 + u.spare ≡ suc others) (omega arith) 0 v e;
    callers = refl;
  }
    where
      one : (F : ℕ → Known S → Type 0) → F 0 (first_pass x others others) → All F (first_pass x others others ∷ [])
      one F here zero v e = subst (F 0) (some_at _ _ e) here
      one F here (suc by) v e = absurd (some-ne-none v (sym e))

  -- The reader is put in by the first pass.
  opens : (n by : ℕ) (v : Known S) (x : ReaderState S) (others : ℕ) → v ≡ newcomer → IsOrderly x.store.held x.store.arrivals → x.store.arrivals < 2 ^ 64 → Pushes (SlotRule drawn) n by v x (λ w. w ≡ first_pass x others others)
  opens n by v x others new orderly fits items views room (inl h) at =
      (first_pass x others others, inr (subst (λ (is : List (ReaderState S)). Open drawn (is ++ x ∷ []) (set views by (first_pass x others others))) (sym h.0) (here views by h.1 at)), refl)
    where
      at_one : (j : ℕ) → get_elem? (newcomer ∷ []) j ≡ some v → Open drawn (x ∷ []) (set (newcomer ∷ []) j (first_pass x others others))
      at_one zero e = opens_from x others orderly fits
      at_one (suc j) e = absurd (some-ne-none v (sym e))

      here : (l : List (Known S)) (j : ℕ) → l ≡ newcomer ∷ [] → get_elem? l j ≡ some v → Open drawn (x ∷ []) (set l j (first_pass x others others))
      here l j e a = subst (λ (k : List (Known S)). Open drawn (x ∷ []) (set k j (first_pass x others others))) (sym e) (at_one j (subst (λ (k : List (Known S)). get_elem? k j ≡ some v) e a))
  opens n by v x others new orderly fits items views room (inr h) at = absurd (none_not h.opening (sym (ap (λ (u : Known S). u.opening) new) ∙ (h.each by v at).opening))

  -- The pass takes the reader out.
  takes_it : (by : ℕ) (v : Known S) (o : ReaderState S) → v.opening ≡ Some o → Pops (SlotRule drawn) by v (λ x w. Took drawn v x w)
  takes_it by v o is x items views kept at =
      let h = known (x ∷ items) views by v o is kept at in
      let mine = h.each by v at in
      let between : List Entry = mine.seen.0 in
      let log : h.log ≡ v.seen ++ between = mine.seen.1 in
      let w : Known S = record v { seen = v.seen ++ between; has = true } in
      let there : get_elem? (set views by w) by ≡ some w = set_here views by w (below views by v at) in
      let full : (x ∷ items ≡ h.now ∷ []) × Nobody drawn views = ⊎_elim (λ p. p) (λ (p : (x ∷ items ≡ []) × Holder drawn views). absurd (cons_not p.0)) h.place in
      let least = within (x ∷ items) views by v at h in
      let ran : Runs drawn h.opening (v.seen ++ between) x = subst (λ (t : ReaderState S). Runs drawn h.opening (v.seen ++ between) t) (sym (head_same full.0)) (subst (λ l. Runs drawn h.opening l h.now) log h.runs) in (
        w,
        inr record {
          opening = h.opening;
          passes = h.passes;
          log = h.log;
          now = h.now;
          orderly = h.orderly;
          fits = h.fits;
          runs = h.runs;
          whole = (by, w, there, sym log);
          place = inr (
            tail_same full.0,
            record {
              by = by;
              v = w;
              there = there;
              has = refl;
              alone = all_set (λ j u. u.has ≡ true → j ≡ by) views by w (λ _. refl) (λ j u apart e has. absurd (off (sym (full.1 j u e) ∙ has)));
            },
          );
          each = all_set (Agrees drawn h.opening h.passes h.log) views by w record {
            number = mine.number;
            passes_so = mine.passes_so;
            spare = mine.spare;
            opening = mine.opening;
            seen = ([], log ∙ sym (append-nil (v.seen ++ between)));
            mine = ap (calls_by by) (sym log) ∙ mine.all_mine;
            all_mine = mine.all_mine;
            has = λ _. sym log;
            met = λ m e. let p = mine.met m e in (starts_on v.seen between m.ours p.0, starts_on v.seen between m.theirs p.1, p.2);
          } (λ j u apart e. h.each j u e);
          count = still_counted (x ∷ items) views by v w h at refl;
          callers = are_more (length views) (length (set views by w)) h.log (let long = length-set views by w in omega arith) h.callers;
        },
        record {
          opening = h.opening;
          between = between;
          opened = mine.opening;
          orderly = h.orderly;
          fits = h.fits;
          runs = ran;
          others = subst (λ k. calls_by k between ≡ []) (sym mine.number) (none_more (calls_by by v.seen) (calls_by by between)
              (sym (calls_by-append by v.seen between) ∙ ap (calls_by by) (sym log) ∙ mine.all_mine ∙ sym mine.mine));
          callers = are_more (length views) v.passes (v.seen ++ between) (let same = mine.passes_so in omega arith) (subst (λ l. are_of (length views) l ≡ true) log h.callers);
          after = refl;
        },
      )
    where
      cons_not : {A : Type 0} {y : A} {ys : List A} → y ∷ ys ≡ [] → ⊥
      cons_not e = absurd (cc)

  -- Who has the reader puts it back, after one call from the state in which it was taken.
  puts_it : (n by : ℕ) (v : Known S) (x : ReaderState S) (made : ReaderState S → Entry → ReaderState S → Type 0) → ProducesCall drawn made v x → Pushes (SlotRule drawn) n by v x (λ w. Put drawn made v x w)
  puts_it n by v x made b items views room kept at =
      let e : Entry = b.call in
      let h = known items views by v b.opening b.opened kept at in
      let mine = h.each by v at in
      let same : h.opening ≡ b.opening = some_of _ _ (sym mine.opening ∙ b.opened) in
      let whole : v.seen ≡ h.log = mine.has b.has in
      let log : List Entry = v.seen ++ e ∷ [] in
      let w : Known S = record v { seen = log; mine = v.mine ++ e ∷ []; has = false } in
      let is_mine : e.by ≡ by = b.by ∙ mine.number in
      let there : get_elem? (set views by w) by ≡ some w = set_here views by w (below views by v at) in
      let ran : Runs drawn b.opening log x = runs_snoc drawn b.opening b.found x v.seen e b.runs b.makes in
      let out : (items ≡ []) × Holder drawn views = ⊎_elim (λ (p : (items ≡ h.now ∷ []) × Nobody drawn views). absurd (off (sym (p.1 by v at) ∙ b.has))) (λ p. p) h.place in
      let holder : by ≡ out.1.by = out.1.alone by v at b.has in
      let log_is : (j : ℕ) → calls_by j log ≡ calls_by j h.log ++ calls_by j (e ∷ []) = λ j. calls_by-append j v.seen (e ∷ []) ∙ ap (λ l. calls_by j l ++ calls_by j (e ∷ [])) whole in
      let own : calls_by by log ≡ v.mine ++ e ∷ [] = log_is by ∙ ap (λ l. calls_by by h.log ++ l) (calls_by-mine by e is_mine) ∙ ap (λ l. l ++ e ∷ []) mine.all_mine in
      let others : (j : ℕ) → j ≢ by → calls_by j log ≡ calls_by j h.log = λ j apart. log_is j ∙ ap (λ l. calls_by j h.log ++ l) (calls_by-other j e (λ q. apart (sym q ∙ is_mine))) ∙ append-nil _ in
      let grown : (es : List Entry) → StartsWith h.log es → StartsWith log es = λ es p. subst (λ l. StartsWith (l ++ e ∷ []) es) (sym whole) (starts_on h.log (e ∷ []) es p) in (
        w,
        inr record {
          opening = h.opening;
          passes = h.passes;
          log = log;
          now = x;
          orderly = h.orderly;
          fits = h.fits;
          runs = subst (λ (s : ReaderState S). Runs drawn s log x) (sym same) ran;
          whole = (by, w, there, refl);
          place = inl (
            ap (λ (l : List (ReaderState S)). l ++ x ∷ []) out.0,
            all_set (λ j u. u.has ≡ false) views by w refl (λ j u apart at'. false_from_ne_true u.has (λ q. apart (out.1.alone j u at' q ∙ sym holder))),
          );
          each = all_set (Agrees drawn h.opening h.passes log) views by w
              record {
                number = mine.number;
                passes_so = mine.passes_so;
                spare = mine.spare;
                opening = mine.opening;
                seen = ([], sym (append-nil log));
                mine = own;
                all_mine = own;
                has = λ q. absurd (off q);
                met = λ m q. let p = mine.met m q in (starts_on v.seen (e ∷ []) m.ours p.0, starts_on v.seen (e ∷ []) m.theirs p.1, p.2);
              }
              (λ j u apart at'. let old = h.each j u at' in record {
                number = old.number;
                passes_so = old.passes_so;
                spare = old.spare;
                opening = old.opening;
                seen = grown u.seen old.seen;
                mine = old.mine;
                all_mine = others j apart ∙ old.all_mine;
                has = λ q. absurd (apart (out.1.alone j u at' q ∙ sym holder));
                met = old.met;
              });
          count = still_counted items views by v w h at refl;
          callers = let long = length-set views by w in let low = below views by v at in
              are_snoc (length (set views by w)) v.seen e (are_more (length views) (length (set views by w)) v.seen (omega arith) (subst (λ l. are_of (length views) l ≡ true) (sym whole) h.callers)) (omega arith);
        },
        (b, refl),
      )

  -- If a pass has the reader, the slot is empty.
  has_room : (by : ℕ) (v : Known S) (o : ReaderState S) → v.opening ≡ Some o → v.has ≡ true → Learns (SlotRule drawn) by v (λ items. items ≡ [])
  has_room by v o is has items views kept at =
      let h = known items views by v o is kept at in
      ⊎_elim (λ (p : (items ≡ h.now ∷ []) × Nobody drawn views). absurd (off (sym (p.1 by v at) ∙ has))) (λ (p : (items ≡ []) × Holder drawn views). p.0) h.place

  -- The first pass makes another.
  forks_first : (by : ℕ) (o : ReaderState S) (others left : ℕ) → Forks (SlotRule drawn) by (first_pass o others (suc left)) (first_pass o others left) (one_more (first_pass o others (suc left)))
  forks_first by o others left items views kept at =
      let v : Known S = first_pass o others (suc left) in
      let w : Known S = first_pass o others left in
      let r : Known S = one_more v in
      let h = known items views by v o refl kept at in
      let mine = h.each by v at in
      let first : by ≡ 0 = is_first by mine.spare in
      let at_0 : get_elem? views 0 ≡ some v = subst (λ j. get_elem? views j ≡ some v) first at in
      let count : length views + suc left ≡ h.passes = h.count v at_0 in
      let passes : suc others ≡ h.passes = mine.passes_so in
      let long = length-set views by w in
      let longer' = length-append (set views by w) (r ∷ []) in
      let back : All (λ j u. (u ≡ w) ⊎ ((j ≢ by) × (get_elem? views j ≡ some u))) (set views by w) =
      all_set (λ j u. (u ≡ w) ⊎ ((j ≢ by) × (get_elem? views j ≡ some u))) views by w (inl refl) (λ j u apart e. inr (apart, e)) in
      inr record {
        opening = h.opening;
        passes = h.passes;
        log = h.log;
        now = h.now;
        orderly = h.orderly;
        fits = h.fits;
        runs = h.runs;
        whole = ⊎_elim
            (λ (q : h.whole.0 ≡ by). (by, w, at_longer (set views by w) (r ∷ []) by w (set_here views by w (below views by v at)), ap (λ (y : Known S). y.seen) (some_at v h.whole.1 (sym at ∙ subst (λ j. get_elem? views j ≡ some h.whole.1) q h.whole.2)) ∙ h.whole.3))
            (λ (q : h.whole.0 ≢ by). (h.whole.0, h.whole.1, at_longer (set views by w) (r ∷ []) h.whole.0 h.whole.1 (set_else views by h.whole.0 w q ∙ h.whole.2), h.whole.3))
            (same_or_not h.whole.0 by);
        place = ⊎_elim
            (λ (p : (items ≡ h.now ∷ []) × Nobody drawn views). inl (p.0, every (λ j u. u.has ≡ false) w r refl refl (λ j u apart e. p.1 j u e)))
            (λ (p : (items ≡ []) × Holder drawn views). inr (
              p.0,
              record {
                by = p.1.by;
                v = p.1.v;
                there = at_longer (set views by w) (r ∷ []) p.1.by p.1.v (set_else views by p.1.by w (λ q. off (ap (λ (y : Known S). y.has) (some_at v p.1.v (sym at ∙ subst (λ j. get_elem? views j ≡ some p.1.v) q p.1.there)) ∙ p.1.has)) ∙ p.1.there);
                has = p.1.has;
                alone = every (λ j u. u.has ≡ true → j ≡ p.1.by) w r (λ q. absurd (off q)) (λ q. absurd (off q)) (λ j u apart e q. p.1.alone j u e q);
              },
            ))
            h.place;
        each = every (Agrees drawn h.opening h.passes h.log) w r
            record {
              number = mine.number;
              passes_so = mine.passes_so;
              spare = λ q. absurd (q first);
              opening = mine.opening;
              seen = mine.seen;
              mine = refl;
              all_mine = mine.all_mine;
              has = λ q. absurd (off q);
              met = λ m e. absurd (none_not m e);
            }
            record {
              number = omega arith;
              passes_so = mine.passes_so;
              spare = λ q. refl;
              opening = mine.opening;
              seen = mine.seen;
              mine = refl;
              all_mine = none_past (length views) (length (set views by w)) h.log h.callers (omega arith);
              has = λ q. absurd (off q);
              met = λ m e. absurd (none_not m e);
            }
            (λ j u apart e. h.each j u e);
        count = λ u e. let s : u.spare ≡ left = spare_left u (subst (λ j. get_elem? (set views j w ++ r ∷ []) 0 ≡ some u) first e) (below views 0 v at_0) in omega arith;
        callers = are_more (length views) (length (set views by w ++ r ∷ [])) h.log (omega arith) h.callers;
      }
    where
      is_first : (j : ℕ) → (j ≢ 0 → suc left ≡ 0) → j ≡ 0
      is_first zero n = refl
      is_first (suc j) n = absurd (let q = n (λ e. absurd (omega arith)) in omega arith)

      every : (F : ℕ → Known S → Type 0) (w r : Known S) → F by w → F (length (set views by w)) r → ((j : ℕ) (u : Known S) → j ≢ by → get_elem? views j ≡ some u → F j u) → All F (set views by w ++ r ∷ [])
      every F w r here last else j u e = ⊎_elim
          (λ (was : get_elem? (set views by w) j ≡ some u). all_set F views by w here else j u was)
          (λ (q : (j ≡ length (set views by w)) × (r ≡ u)). subst (λ (y : ℕ × Known S). F y.0 y.1) (λ i. (sym q.0 i, q.1 i)) last)
          (at_end (set views by w) r u j e)

      spare_left : (u : Known S) → get_elem? (set views 0 (first_pass o others left) ++ one_more (first_pass o others (suc left)) ∷ []) 0 ≡ some u → 0 < length views → u.spare ≡ left
      spare_left u e some_views = ap (λ (y : Known S). y.spare)
          (some_at u (first_pass o others left) (sym e ∙ at_longer (set views 0 (first_pass o others left)) (one_more (first_pass o others (suc left)) ∷ []) 0 (first_pass o others left) (set_here views 0 (first_pass o others left) some_views)))

  pub forks : (by : ℕ) (v : Known S) (o : ReaderState S) (others left : ℕ) → v ≡ first_pass o others (suc left) → Forks (SlotRule drawn) by v (one_less v) (one_more v)
  forks by v o others left is = subst (λ (y : Known S). Forks (SlotRule drawn) by y (one_less y) (one_more y)) (sym is) (forks_first by o others left)

  -- A pass takes in what another has seen.
  pub meets : (by : ℕ) (v : Known S) (k : ℕ) (w : Known S) (o : ReaderState S) → v.opening ≡ Some o → Merges (SlotRule drawn) by v k w (taught v w) w
  meets by v k w o is items views kept at two at' =
      let h = known items views by v o is kept at in
      let both : Known S = taught v w in
      let mine = h.each by v at in
      let was : get_elem? views k ≡ some w = ⊎_elim (λ (x : (k ≡ by) × (both ≡ w)). absurd (two x.0)) (λ (x : (k ≢ by) × (get_elem? views k ≡ some w)). x.1) (at_set views by k both w at') in
      let theirs = h.each k w was in
      let there : get_elem? (set views by both) by ≡ some both = set_here views by both (below views by v at) in
      let long = length-set views by both in
      inr (subst (λ (l : List (Known S)). Open drawn items l) (sym (set_again (set views by both) k w at')) record {
        opening = h.opening;
        passes = h.passes;
        log = h.log;
        now = h.now;
        orderly = h.orderly;
        fits = h.fits;
        runs = h.runs;
        whole = ⊎_elim
            (λ (q : h.whole.0 ≡ by). (
              by,
              both,
              there,
              longer_whole h.log v.seen w.seen theirs.seen
                  (ap (λ (y : Known S). y.seen) (some_at v h.whole.1 (sym at ∙ subst (λ j. get_elem? views j ≡ some h.whole.1) q h.whole.2)) ∙ h.whole.3),
            ))
            (λ (q : h.whole.0 ≢ by). (h.whole.0, h.whole.1, set_else views by h.whole.0 both q ∙ h.whole.2, h.whole.3))
            (same_or_not h.whole.0 by);
        place = ⊎_elim
            (λ (p : (items ≡ h.now ∷ []) × Nobody drawn views). inl (p.0, all_set (λ j u. u.has ≡ false) views by both (p.1 by v at) (λ j u apart e. p.1 j u e)))
            (λ (p : (items ≡ []) × Holder drawn views). inr (p.0, holds_still p.1))
            h.place;
        each = all_set (Agrees drawn h.opening h.passes h.log) views by both record {
          number = mine.number;
          passes_so = mine.passes_so;
          spare = mine.spare;
          opening = mine.opening;
          seen = longer_starts h.log v.seen w.seen mine.seen theirs.seen;
          mine = longer_calls h.log v.seen w.seen by v.mine mine.seen theirs.seen mine.mine mine.all_mine;
          all_mine = mine.all_mine;
          has = λ q. longer_whole h.log v.seen w.seen theirs.seen (mine.has q);
          met = λ m q. let is_m : record { other = w.number; theirs = w.seen; ours = v.seen } ≡ m = some_of _ _ q in
              subst (λ (y : Meeting). StartsWith (longer v.seen w.seen) y.ours × StartsWith (longer v.seen w.seen) y.theirs × (v.number ≢ y.other)) is_m
              (longer_ours h.log v.seen w.seen mine.seen theirs.seen, longer_theirs h.log v.seen w.seen mine.seen theirs.seen, λ q. two (sym theirs.number ∙ sym q ∙ mine.number));
        } (λ j u apart e. h.each j u e);
        count = still_counted items views by v both h at refl;
        callers = are_more (length views) (length (set views by both)) h.log (omega arith) h.callers;
      })
    where
      holds_still : Holder drawn views → Holder drawn (set views by (taught v w))
      holds_still p = ⊎_elim
          (λ (q : p.by ≡ by). record {
            by = by;
            v = taught v w;
            there = set_here views by (taught v w) (below views by v at);
            has = ap (λ (y : Known S). y.has) (some_at v p.v (sym at ∙ subst (λ j. get_elem? views j ≡ some p.v) q p.there)) ∙ p.has;
            alone = all_set (λ j u. u.has ≡ true → j ≡ by) views by (taught v w) (λ _. refl) (λ j u apart e has. p.alone j u e has ∙ q);
          })
          (λ (q : p.by ≢ by). record {
            by = p.by;
            v = p.v;
            there = set_else views by p.by (taught v w) q ∙ p.there;
            has = p.has;
            alone = all_set (λ j u. u.has ≡ true → j ≡ p.by) views by (taught v w) (λ has. p.alone by v at has) (λ j u apart e has. p.alone j u e has);
          })
          (same_or_not p.by by)

  -- What a pass has seen is a legal history.
  pub learns : (by : ℕ) (v : Known S) (o : ReaderState S) → v.opening ≡ Some o → Learns (SlotRule drawn) by v (λ items. Learnt drawn v)
  learns by v o is items views kept at =
      let h = known items views by v o is kept at in
      let mine = h.each by v at in
      let front = runs_front drawn h.opening h.now v.seen mine.seen.0 (subst (λ l. Runs drawn h.opening l h.now) mine.seen.1 h.runs) in
      let least = within items views by v at h in
      record {
        opening = h.opening;
        left = front.0;
        opened = mine.opening;
        orderly = h.orderly;
        runs = front.1;
        mine = subst (λ j. calls_by j v.seen ≡ v.mine) (sym mine.number) mine.mine;
        callers = are_more (length views) v.passes v.seen (let same = mine.passes_so in omega arith) (are_front (length views) v.seen mine.seen.0 (subst (λ l. are_of (length views) l ≡ true) mine.seen.1 h.callers));
        met = mine.met;
      }

  -- What a put asks, a take, and the first put: both ways that each may answer.
  pub puts_as : (n by : ℕ) (v : Known S) (x : ReaderState S) (made : ReaderState S → Entry → ReaderState S → Type 0) → ProducesCall drawn made v x
      → Pushes (SlotRule drawn) n by v x (λ w. Put drawn made v x w) × Learns (SlotRule drawn) by v (λ items. items ≡ [])
  puts_as n by v x made b = (puts_it n by v x made b, has_room by v b.opening b.opened b.has)

  pub takes_as : (by : ℕ) (v : Known S) (o : ReaderState S) → v.opening ≡ Some o → Pops (SlotRule drawn) by v (λ x w. Took drawn v x w) × Learns (SlotRule drawn) by v (λ items. ⊤)
  takes_as by v o is = (takes_it by v o is, λ items views kept at. tt)

  pub opens_as : (n by : ℕ) (v : Known S) (x : ReaderState S) (others : ℕ) → v ≡ newcomer → IsOrderly x.store.held x.store.arrivals → x.store.arrivals < 2 ^ 64
      → Pushes (SlotRule drawn) n by v x (λ w. w ≡ first_pass x others others) × Learns (SlotRule drawn) by v (λ items. items ≡ [])
  opens_as n by v x others new orderly fits = (opens n by v x others new orderly fits, room)
    where
      room : Learns (SlotRule drawn) by v (λ items. items ≡ [])
      room items views (inl h) at = h.0
      room items views (inr h) at = absurd (none_not h.opening (sym (ap (λ (u : Known S). u.opening) new) ∙ (h.each by v at).opening))
