-- In a legal history each event is taken once or held.
use Rattle.std.proofs.Common.{◌≡◌, ◌≢◌, ℕ, ◌<◌, ◌==◌, Bool, false, List, [], ◌∷◌, ◌++◌, subst, arith}
use Rattle.std.specs.List.{IsDistinct}
use Rattle.std.specs.List.Sorted.{IsPermutation}
use Rattle.std.proofs.lemmas.Bool.{eqb-false}
use Rattle.std.proofs.lemmas.Map.Keys.{IsDistinct-IsPermutation}
use Rattle.crossterm_types.specs.Seen.{Seen}
use Rattle.crossterm_read.specs.Answers.{SourceAnswer}
use Rattle.crossterm_read.specs.History.{Entry, Runs, Differ, EachOnce, all_events, answers_of, taken_by}
use Rattle.crossterm_read.specs.Store.{IsLow, ReaderState}
use Rattle.crossterm_read.specs.inside.Numbers.{Rise, IsOrderly}
use Rattle.crossterm_read.proofs.Histories.{history_account}
use Rattle.crossterm_read.proofs.Rising.{orderly_arrived}
use Rattle.crossterm_read.proofs.Takes.{rise}
use Rattle.crossterm_types.proofs.Lists.{all_front, all_map}

abbrev same_number : Seen × ℕ → Seen × ℕ → Bool
same_number x y = x.1 == y.1

-- rising numbers differ
rise_distinct : (xs : List (Seen × ℕ)) → Rise xs → IsDistinct same_number xs
unfolding IsDistinct
rise_distinct [] r = tt
rise_distinct (x ∷ xs) r = (all_map (λ y. x.1 < y.1) (λ y. same_number x y ≡ false) xs (λ y l. grind (arith)) r.0, rise_distinct xs r.1)

distinct_front : (xs ys : List (Seen × ℕ)) → IsDistinct same_number (xs ++ ys) → Differ xs
unfolding IsDistinct
distinct_front [] ys d = tt
distinct_front (x ∷ xs) ys d =
    (all_map (λ y. same_number x y ≡ false) (λ y. x.1 ≢ y.1) xs (λ y h. eqb-false x.1 y.1 h) (all_front (λ y. same_number x y ≡ false) xs ys d.0), distinct_front xs ys d.1)

-- if all numbers rise, those that were taken differ
differ : (all done held : List (Seen × ℕ)) → Rise all → IsPermutation all (done ++ held) → Differ done
differ all done held r p = distinct_front done held (IsDistinct-IsPermutation same_number (λ x y. grind (arith)) all (done ++ held) p (rise_distinct all r))

-- Each event of a legal history is taken once or held, in order, and the numbers of those that one filter takes rise.
pub each_once : {S : Type 0} (drawn : S → List SourceAnswer → S → Type 0) (o t : ReaderState S) (log : List Entry) → IsOrderly o.store.held o.store.arrivals → Runs drawn o log t → EachOnce o log t
each_once drawn o t log orderly h =
    let a = history_account drawn o t log h in record {
      once = a.0.once;
      in_order = a.0.within;
      arrivals = a.1;
      differ = λ low. differ (all_events o log) (taken_by log) t.store.held (orderly_arrived o.store.held o.store.arrivals (answers_of log) orderly (subst IsLow a.1 low)).rise a.0.once;
      rise = rise drawn o t log orderly h;
    }
