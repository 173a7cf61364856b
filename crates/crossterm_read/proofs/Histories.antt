-- Legal histories: their fronts, what they add up to, and how the numbers grow.
use Rattle.std.proofs.Common.{ℕ, ◌^◌, ◌<◌, ◌≤◌, List, [], ◌∷◌, ◌++◌, refl, sym, ap, subst, ◌∙◌, append-nil, map, arith}
use Rattle.std.proofs.lemmas.List.Sorted.{IsPermutation-refl}
use Rattle.crossterm_types.specs.Seen.{Seen}
use Rattle.crossterm_read.specs.Answers.{SourceAnswer, Gave, Nothing, Failed}
use Rattle.crossterm_read.specs.History.{Entry, Makes, Runs, answers_of, taken_by}
use Rattle.crossterm_read.specs.Store.{ReaderState, arrived, reader_capacity, numbered_after, next_number}
use Rattle.crossterm_read.proofs.Accounting.{Account, Taken, within_refl, none_taken, step_account, account_more}
use Rattle.crossterm_read.proofs.Asking.{numbered_after-append}

-- Numbers that fit a u64 grow, and still fit.
never_less : (n : ℕ) (zs : List SourceAnswer) → n < 2 ^ 64 → (n ≤ numbered_after n zs) × (numbered_after n zs < 2 ^ 64)
never_less n [] h = (omega arith, h)
never_less n (Gave x ∷ zs) h = let k = never_less (next_number n) zs (omega arith) in (let l = k.0 in omega arith, k.1)
never_less n (Nothing ∷ zs) h = never_less n zs h
never_less n (Failed kind ∷ zs) h = never_less n zs h

module _ {S : Type 0} (drawn : S → List SourceAnswer → S → Type 0) where
  -- The front of a history is one, and the rest goes on from the state that it leads to.
  pub runs_front : (o t : ReaderState S) (xs ys : List Entry) → Runs drawn o (xs ++ ys) t → (m : ReaderState S) × Runs drawn o xs m × Runs drawn m ys t
  runs_front o t [] ys h = (o, refl, h)
  runs_front o t (e ∷ xs) ys h = let k = runs_front h.0 t xs ys h.2 in (k.0, (h.0, h.1, k.1), k.2)

  -- One call more.
  pub runs_snoc : (o m t : ReaderState S) (log : List Entry) (e : Entry) → Runs drawn o log m → Makes drawn e m t → Runs drawn o (log ++ e ∷ []) t
  runs_snoc o m t [] e h k = (t, subst (λ (y : ReaderState S). Makes drawn e y t) (sym h) k, refl)
  runs_snoc o m t (d ∷ log) e h k = (h.0, h.1, runs_snoc h.0 m t log e h.2 k)

  -- No room is lost in a history.
  pub runs_room : (o t : ReaderState S) (log : List Entry) → Runs drawn o log t → reader_capacity o ≤ reader_capacity t
  runs_room o t [] h = subst (λ (y : ReaderState S). reader_capacity o ≤ reader_capacity y) h (omega arith)
  runs_room o t (e ∷ log) h = let first = h.1.2 in let last = runs_room h.0 t log h.2 in omega arith

  -- What came before a history and in it is what was taken before it and in it, and what is held.
  runs_account : (all done : List (Seen × ℕ)) (s t : ReaderState S) (log : List Entry) → Account all done s.store → Runs drawn s log t
      → Taken (all ++ arrived s.store.arrivals (answers_of log)) done t.store (taken_by log) (numbered_after s.store.arrivals (answers_of log))
  runs_account all done s t [] a h =
      none_taken (all ++ []) done s.store t.store (sym (ap (λ (y : ReaderState S). y.store) h)) (subst (λ l. Account l done s.store) (sym (append-nil all)) a)
  runs_account all done s t (e ∷ es) a h =
      let m = h.0 in
      let k = step_account e.call e.answers all done s.store m.store e.reply a h.1.1 in
      let n = runs_account (all ++ arrived s.store.arrivals e.answers) (done ++ taken_by (e ∷ [])) m t es k.0 h.2 in (
        account_more e.answers (answers_of es) e.reply (map (λ d. d.reply) es) all done s.store m.store t.store k.1 n.0,
        n.1 ∙ ap (λ (i : ℕ). numbered_after i (answers_of es)) k.1 ∙ sym (numbered_after-append s.store.arrivals e.answers (answers_of es)),
      )

  -- What was held at first and came in a history is what was taken in it and what is held.
  pub history_account : (o t : ReaderState S) (log : List Entry) → Runs drawn o log t
      → Taken (o.store.held ++ arrived o.store.arrivals (answers_of log)) [] t.store (taken_by log) (numbered_after o.store.arrivals (answers_of log))
  history_account o t log h = runs_account o.store.held [] o t log (record { once = IsPermutation-refl o.store.held; within = within_refl o.store.held }) h

  -- No event that had arrived is missing later.
  pub not_fewer : (o t : ReaderState S) (seen between : List Entry) → o.store.arrivals < 2 ^ 64 → Runs drawn o (seen ++ between) t → numbered_after o.store.arrivals (answers_of seen) ≤ t.store.arrivals
  not_fewer o t seen between fits h =
      let f = runs_front o t seen between h in
      let m = f.0 in
      let first = (history_account o m seen f.1).1 in
      let last = (history_account m t between f.2).1 in
      let grows = never_less m.store.arrivals (answers_of between) (let k = (never_less o.store.arrivals (answers_of seen) fits).1 in omega arith) in
      let l = grows.0 in
      omega arith
