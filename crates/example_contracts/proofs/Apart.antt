-- Two reads are at two places, and took two events.
use Rattle.std.proofs.Common.{◌≡◌, ◌≢◌, ◌⊎◌, ℕ, zero, suc, ◌<◌, ◌≤◌, ◌==◌, ◌&&◌, Bool, true, false, true≢false, cond, nat_lt, eq-eqb, ne_eqb, ltb-true, List, [], ◌∷◌, ◌++◌, length, map, Option, Some, None, refl, sym, ap, ◌∙◌, subst, inl, inr, ⊎_elim, arith, append_assoc}
use Rattle.std.proofs.lemmas.Bool.{and_parts}
use Rattle.std.specs.List.{AllByRecursion, slice_get}
use Rattle.std.specs.List.Sorted.{IsPermutation}
use Rattle.std.proofs.lemmas.List.Sorted.{IsPermutation-refl, IsPermutation-trans, IsPermutation-append_left, IsPermutation-append_right, IsPermutation-append_comm}
use Rattle.crossterm_types.specs.Seen.{Seen}
use Rattle.crossterm_read.specs.Answers.{SourceAnswer}
use Rattle.crossterm_read.specs.Calls.{taken}
use Rattle.crossterm_read.specs.History.{Entry, Known, Differ, Extends, Meets, Sits, StartsWith, all_events, are_of, calls_by, taken_by}
use Rattle.crossterm_read.specs.Replies.{Replied, Said, ToPoll, ToTake, ToQuery, Fault, shown}
use Rattle.crossterm_read.specs.Store.{ReaderState}
use Rattle.crossterm_read.proofs.Slotting.{some_of, none_not, same_or_not}
use Rattle.example_contracts.specs.Apart.{ReadApart}

there : (xs ys : List Entry) (e : Entry) → slice_get (xs ++ e ∷ ys) (length xs) ≡ Some e
there [] ys e = refl
there (x ∷ xs) ys e = there xs ys e

last_of_front : (log seen front rest : List Entry) (e : Entry) → seen ≡ front ++ e ∷ [] → log ≡ seen ++ rest → slice_get log (length front) ≡ Some e
last_of_front log seen front rest e p q =
    subst (λ (l : List Entry). slice_get l (length front) ≡ Some e) (sym (q ∙ ap (λ l. l ++ rest) p ∙ append_assoc front (e ∷ []) rest)) (there front rest e)

all_after : (P : Seen × ℕ → Type 0) (xs ys : List (Seen × ℕ)) → AllByRecursion P (xs ++ ys) → AllByRecursion P ys
all_after P [] ys a = a
all_after P (x ∷ xs) ys a = all_after P xs ys a.1

differ_after : (xs ys : List (Seen × ℕ)) → Differ (xs ++ ys) → Differ ys
differ_after [] ys d = d
differ_after (x ∷ xs) ys d = differ_after xs ys d.1

-- What one reply takes comes before what the others take.
taken_first : (r : Replied) (rs : List Replied) → taken (r ∷ rs) ≡ taken (r ∷ []) ++ taken rs
taken_first (ToTake (Some x)) rs = refl
taken_first (ToTake None) rs = refl
taken_first (ToQuery x (Some y)) rs = refl
taken_first (ToQuery x None) rs = refl
taken_first (ToPoll ready) rs = refl
taken_first (Fault kind) rs = refl

-- What a call took later differs from what was taken before.
later : (P : Seen × ℕ → Type 0) (log : List Entry) (j : ℕ) (e : Entry) (y : Seen × ℕ) → AllByRecursion P (taken_by log) → slice_get log j ≡ Some e → e.reply ≡ ToTake (Some y) → P y
later P [] j e y a at took = absurd (none_not e at)
later P (d ∷ log) zero e y a at took = (subst (λ (r : Replied). AllByRecursion P (taken (r ∷ map (λ c. c.reply) log))) (ap (λ (c : Entry). c.reply) (some_of d e at) ∙ took) a).0
later P (d ∷ log) (suc j) e y a at took = later P log j e y (all_after P (taken (d.reply ∷ [])) (taken_by log) (subst (AllByRecursion P) (taken_first d.reply (map (λ c. c.reply) log)) a)) at took

in_order : (log : List Entry) (i j : ℕ) (d e : Entry) (x y : Seen × ℕ) → Differ (taken_by log) → i < j → slice_get log i ≡ Some d → slice_get log j ≡ Some e → d.reply ≡ ToTake (Some x) → e.reply ≡ ToTake (Some y) → x.1 ≢ y.1
in_order [] i j d e x y differ less at_i at_j p q = absurd (none_not d at_i)
in_order (c ∷ log) zero zero d e x y differ less at_i at_j p q = absurd (omega arith)
in_order (c ∷ log) zero (suc j) d e x y differ less at_i at_j p q =
    let first : Differ (x ∷ taken_by log) = subst (λ (r : Replied). Differ (taken (r ∷ map (λ b. b.reply) log))) (ap (λ (b : Entry). b.reply) (some_of c d at_i) ∙ p) differ in
    later (λ z. x.1 ≢ z.1) log j e y first.0 at_j q
in_order (c ∷ log) (suc i) zero d e x y differ less at_i at_j p q = absurd (omega arith)
in_order (c ∷ log) (suc i) (suc j) d e x y differ less at_i at_j p q =
    in_order log i j d e x y (differ_after (taken (c.reply ∷ [])) (taken_by log) (subst Differ (taken_first c.reply (map (λ b. b.reply) log)) differ)) (omega arith) at_i at_j p q

either : (i j : ℕ) → i ≢ j → (i < j) ⊎ (j < i)
either zero zero n = absurd (n refl)
either zero (suc j) n = inl (omega arith)
either (suc i) zero n = inr (omega arith)
either (suc i) (suc j) n = ⊎_elim (λ (h : i < j). inl (omega arith)) (λ (h : j < i). inr (omega arith)) (either i j (λ e. n (ap suc e)))

mine_first : (p : ℕ) (e : Entry) (es : List Entry) → e.by ≡ p → calls_by p (e ∷ es) ≡ e ∷ calls_by p es
mine_first p e es is = ap (λ b. cond b (e ∷ calls_by p es) (calls_by p es)) (eq-eqb e.by p is)

others_first : (p : ℕ) (e : Entry) (es : List Entry) → e.by ≢ p → calls_by p (e ∷ es) ≡ calls_by p es
others_first p e es n = ap (λ b. cond b (e ∷ calls_by p es) (calls_by p es)) (ne_eqb e.by p n)

-- What two passes took is together what was taken, if there are no others.
by_two : (p q : ℕ) (log : List Entry) → p < 2 → q < 2 → p ≢ q → are_of 2 log ≡ true → IsPermutation (taken_by log) (taken_by (calls_by p log) ++ taken_by (calls_by q log))
by_two p q [] low_p low_q differ of_two = IsPermutation-refl []
by_two p q (e ∷ es) low_p low_q differ of_two =
    let both = and_parts (nat_lt e.by 2) (are_of 2 es) of_two in
    let low = ltb-true e.by 2 both.0 in
    let rest = by_two p q es low_p low_q differ both.1 in
    let T = taken (e.reply ∷ []) in
    let P = taken_by (calls_by p es) in
    let Q = taken_by (calls_by q es) in
    let all : IsPermutation (taken_by (e ∷ es)) (T ++ (P ++ Q)) =
    subst (λ l. IsPermutation l (T ++ (P ++ Q))) (sym (taken_first e.reply (map (λ b. b.reply) es))) (IsPermutation-append_right T (taken_by es) (P ++ Q) rest) in
    ⊎_elim
    (λ (is : e.by ≡ p).
    let own : taken_by (calls_by p (e ∷ es)) ≡ T ++ P = ap taken_by (mine_first p e es is) ∙ taken_first e.reply (map (λ b. b.reply) (calls_by p es)) in
    let none : taken_by (calls_by q (e ∷ es)) ≡ Q = ap taken_by (others_first q e es (λ r. differ (sym is ∙ r))) in
    subst (λ l. IsPermutation (taken_by (e ∷ es)) l) (sym (append_assoc T P Q) ∙ ap (λ l. l ++ Q) (sym own) ∙ ap (λ l. taken_by (calls_by p (e ∷ es)) ++ l) (sym none)) all)
    (λ (n : e.by ≢ p).
    let is : e.by ≡ q = the_other e.by p q low low_p low_q n differ in
    let own : taken_by (calls_by q (e ∷ es)) ≡ T ++ Q = ap taken_by (mine_first q e es is) ∙ taken_first e.reply (map (λ b. b.reply) (calls_by q es)) in
    let none : taken_by (calls_by p (e ∷ es)) ≡ P = ap taken_by (others_first p e es n) in
    let turned : IsPermutation (T ++ (P ++ Q)) (P ++ (T ++ Q)) =
    subst (λ (l : List (Seen × ℕ) × List (Seen × ℕ)). IsPermutation l.0 l.1) (λ i. (append_assoc T P Q i, append_assoc P T Q i)) (IsPermutation-append_left Q (T ++ P) (P ++ T) (IsPermutation-append_comm T P)) in
    subst (λ l. IsPermutation (taken_by (e ∷ es)) l) (ap (λ l. P ++ l) (sym own) ∙ ap (λ l. l ++ taken_by (calls_by q (e ∷ es))) (sym none)) (IsPermutation-trans (taken_by (e ∷ es)) (T ++ (P ++ Q)) (P ++ (T ++ Q)) all turned))
    (same_or_not e.by p)
  where
    the_other : (a p q : ℕ) → a < 2 → p < 2 → q < 2 → a ≢ p → p ≢ q → a ≡ q
    the_other zero zero q la lp lq n d = absurd (n refl)
    the_other zero (suc p) zero la lp lq n d = refl
    the_other zero (suc p) (suc q) la lp lq n d = absurd (d (omega arith))
    the_other (suc a) zero zero la lp lq n d = absurd (d refl)
    the_other (suc a) zero (suc q) la lp lq n d = omega arith
    the_other (suc a) (suc p) q la lp lq n d = absurd (n (omega arith))

module _ {S : Type 0} (drawn : S → List SourceAnswer → S → Type 0) where
  pub apart : (P Q : ReaderState S → Entry → ReaderState S → Type 0) (r s : Replied) (a b : Said) → ((o : ReaderState S) (e : Entry) (t : ReaderState S) → P o e t → e.reply ≡ r) → ((o : ReaderState S) (e : Entry) (t : ReaderState S) → Q o e t → e.reply ≡ s)
      → a ≡ shown r → b ≡ shown s → (v v' w w' u : Known S) → v.number < v.passes → w.number < w.passes → v.passes ≡ w.passes → Sits u → Extends drawn P v v' → Extends drawn Q w w' → Meets drawn v' w' u → ReadApart drawn v w a b
  apart P Q r s a b is_p is_q said_a said_b v v' w w' u low_v low_w alike sits x y m =
      let i = length (v.seen ++ x.between) in
      let j = length (w.seen ++ y.between) in
      let ours_seen : v'.seen ≡ (v.seen ++ x.between) ++ x.call ∷ [] = ap (λ (k : Known S). k.seen) x.after in
      let theirs_seen : w'.seen ≡ (w.seen ++ y.between) ++ y.call ∷ [] = ap (λ (k : Known S). k.seen) y.after in
      let at_i : slice_get u.seen i ≡ Some x.call = last_of_front u.seen v'.seen (v.seen ++ x.between) m.ours.0 x.call ours_seen m.ours.1 in
      let at_j : slice_get u.seen j ≡ Some y.call = last_of_front u.seen w'.seen (w.seen ++ y.between) m.theirs.0 y.call theirs_seen m.theirs.1 in
      let number_v : v'.number ≡ v.number = ap (λ (k : Known S). k.number) x.after in
      let number_w : w'.number ≡ w.number = ap (λ (k : Known S). k.number) y.after in
      let places : i ≢ j = λ same. m.apart (number_v ∙ sym x.by ∙ ap (λ (e : Entry). e.by) (some_of x.call y.call (sym at_i ∙ ap (slice_get u.seen) same ∙ at_j)) ∙ y.by ∙ sym number_w) in
      let reply_r : x.call.reply ≡ r = is_p x.found x.call x.left x.such in
      let reply_s : y.call.reply ≡ s = is_q y.found y.call y.left y.such in
      record {
        opening = m.opening;
        log = u.seen;
        left = m.left;
        runs = m.runs;
        each_once = m.each_once;
        ours = begins u.seen v.seen v'.seen (x.between ++ x.call ∷ []) (ours_seen ∙ append_assoc v.seen x.between (x.call ∷ [])) m.ours;
        theirs = begins u.seen w.seen w'.seen (y.between ++ y.call ∷ []) (theirs_seen ∙ append_assoc w.seen y.between (y.call ∷ [])) m.theirs;
        place = i;
        other_place = j;
        call = x.call;
        other_call = y.call;
        apart = places;
        there = at_i;
        other_there = at_j;
        said = said_a ∙ ap shown (sym reply_r);
        other_said = said_b ∙ ap shown (sym reply_s);
        numbers = λ low p q took other. ⊎_elim
            (λ (h : i < j). in_order u.seen i j x.call y.call p q (m.each_once.differ low) h at_i at_j took other)
            (λ (h : j < i). λ e. in_order u.seen j i y.call x.call q p (m.each_once.differ low) h at_j at_i other took (sym e))
            (either i j places);
        none_lost = λ two.
            let passes : u.passes ≡ 2 = ap (λ (k : Known S). k.passes) m.kept ∙ ap (λ (k : Known S). k.passes) x.after ∙ two in
            let differ : v.number ≢ w.number = λ e. m.apart (number_v ∙ e ∙ sym number_w) in
            let both = by_two v.number w.number u.seen (omega arith) (omega arith) differ (subst (λ n. are_of n u.seen ≡ true) passes sits.of_passes) in
            IsPermutation-trans (all_events m.opening u.seen) (taken_by u.seen ++ m.left.store.held) ((taken_by (calls_by v.number u.seen) ++ taken_by (calls_by w.number u.seen)) ++ m.left.store.held)
            m.each_once.once (IsPermutation-append_left m.left.store.held (taken_by u.seen) (taken_by (calls_by v.number u.seen) ++ taken_by (calls_by w.number u.seen)) both);
      }
    where
      begins : (log seen grown more : List Entry) → grown ≡ seen ++ more → StartsWith log grown → StartsWith log seen
      begins log seen grown more is p = (more ++ p.0, p.1 ∙ ap (λ l. l ++ p.0) is ∙ append_assoc seen more p.0)
