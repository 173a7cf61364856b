-- Runs that go on.
use Rattle.std.proofs.Common.{◌≡◌, ℕ, ◌+◌, ◌<◌, List, [], ◌∷◌, ◌++◌, length, take, map, refl, sym, ap, subst, ◌∙◌, append-nil, get_or}
use Rattle.std.proofs.lemmas.List.Concat.{flat_map-append}
use Rattle.std.proofs.lemmas.List.{map-append, take_more}
use Rattle.crossterm_read.specs.Answers.{SourceAnswer}
use Rattle.crossterm_read.specs.declared.read.call.Call.{Call}
use Rattle.crossterm_read.specs.declared.read.call.Reply.{Reply}
use Rattle.crossterm_read.specs.Store.{EventStore, ReaderState}
use Rattle.crossterm_read.specs.Replies.{Said, Replied, shown}
use Rattle.crossterm_read.specs.Calls.{Step, request, Run, all_answers, said}

run_more : (s m t : EventStore) (cs : List Call) (c : Call) (zss : List (List SourceAnswer)) (zs : List SourceAnswer) (rs : List Replied) (r : Replied) → Run s cs zss rs m → Step (request c) zs m t r
    → Run s (cs ++ c ∷ []) (zss ++ zs ∷ []) (rs ++ r ∷ []) t
run_more s m t [] c [] zs [] r run step = (t, subst (λ (y : EventStore). Step (request c) zs y t r) run step, refl)
run_more s m t [] c [] zs (x ∷ rs) r run step = absurd run
run_more s m t [] c (ys ∷ zss) zs rs r run step = absurd run
run_more s m t (d ∷ cs) c [] zs rs r run step = absurd run
run_more s m t (d ∷ cs) c (ys ∷ zss) zs [] r run step = absurd run
run_more s m t (d ∷ cs) c (ys ∷ zss) zs (x ∷ rs) r run step = (run.0, run.1, run_more run.0 m t cs c zss zs rs r run.2 step)

joined_more : (zss : List (List SourceAnswer)) (zs : List SourceAnswer) → all_answers (zss ++ zs ∷ []) ≡ all_answers zss ++ zs
joined_more zss zs = flat_map-append (λ zs. zs) zss (zs ∷ []) ∙ ap (λ (l : List SourceAnswer). all_answers zss ++ l) (append-nil zs)

module _ {S : Type 0} (drawn : S → List SourceAnswer → S → Type 0) where
  -- the calls so far
  pub record Played (s : ReaderState S) (cs : List Call) (rs : List Said) (t : ReaderState S) : Type 0 where
    pub answers : List (List SourceAnswer)
    pub replies : List Replied
    pub drawn_so : drawn s.source (all_answers answers) t.source
    pub run : Run s.store cs answers replies t.store
    pub said_so : rs ≡ map shown replies

  pub played_none : ((s : S) → drawn s [] s) → (s : ReaderState S) → Played s [] [] s
  played_none law s = record { answers = []; replies = []; drawn_so = law s.source; run = refl; said_so = refl }

  pub played_more : ((s t u : S) (xs ys : List SourceAnswer) → drawn s xs t → drawn t ys u → drawn s (xs ++ ys) u)
      → {A : Type 0} (s m t : ReaderState S) (cs : List Call) (i : ℕ) (d0 : Call) (rs : List (Reply A)) (r : Reply A) (q : Replied) (zs : List SourceAnswer) → i < length cs → Played s (take i cs) (map said rs) m
      → drawn m.source zs t.source → Step (request (get_or cs i d0)) zs m.store t.store q → said r ≡ shown q → Played s (take (i + 1) cs) (map said (rs ++ r ∷ [])) t
  played_more on {A} s m t cs i d0 rs r q zs h p d step same = record {
    answers = p.answers ++ zs ∷ [];
    drawn_so = subst (λ (l : List SourceAnswer). drawn s.source l t.source) (sym (joined_more p.answers zs)) (on s.source m.source t.source (all_answers p.answers) zs p.drawn_so d);
    replies = p.replies ++ q ∷ [];
    run = subst (λ (l : List Call). Run s.store l (p.answers ++ zs ∷ []) (p.replies ++ q ∷ []) t.store) (sym (take_more cs i d0 h))
        (run_more s.store m.store t.store (take i cs) (get_or cs i d0) p.answers zs p.replies q p.run step);
    said_so = map-append said rs (r ∷ []) ∙ ap (λ (l : List Said). l ++ said r ∷ []) p.said_so ∙ ap (λ (x : Said). map shown p.replies ++ x ∷ []) same ∙ sym (map-append shown p.replies (q ∷ []));
  }
