-- Ends of features, one after another.
use Rattle.std.specs.Prelude.{ℕ, List, [], ◌∷◌, ◌++◌, Option, Some, None, Result, Ok, Err, OnErr, OnOk}
use Rattle.std.specs.Io.KnownBytes.{Appends, Keeps}
use Rattle.std.specs.Result.{result_and}
use Rattle.std.proofs.Common.{append-nil, sym, ◌∙◌}
use Rattle.std.proofs.KnownBytes.{Appends-trans, Keeps-trans}
use Rattle.crossterm_command.specs.Writing.{AppendsFront}
use Rattle.own_terminal.specs.Features.{EndsOffered}
use Rattle.own_terminal.specs.declared.feature.Feature.{Feature}

appended_kept : (a b c : Option (List ℕ)) (bs : List ℕ) → Appends a b bs → Keeps b c → Appends a c bs
appended_kept None b c bs p q = tt
appended_kept (Some x) None c bs p q = absurd p
appended_kept (Some x) (Some y) None bs p q = absurd q
appended_kept (Some x) (Some y) (Some z) bs p q = q ∙ p

-- Whatever was answered, a beginning was taken.
pub front_taken : {X E : Type 0} (r : Result X E) (a b : Option (List ℕ)) (text : List ℕ) → OnOk r (Appends a b text) → OnErr r (AppendsFront a b text) → AppendsFront a b text
front_taken (Ok x) a b text p q = record { front = text; rest = []; split = sym (append-nil text); grown = p }
front_taken (Err e) a b text p q = q

-- What both took whole was taken whole.
pub both_taken : {X Y E : Type 0} (r : Result X E) (s : Result Y E) (a b c : Option (List ℕ)) (xs ys : List ℕ) → OnOk r (Appends a b xs) → OnOk s (Appends b c ys)
    → OnOk (result_and r s) (Appends a c (xs ++ ys))
both_taken (Ok x) (Ok y) a b c xs ys p q = Appends-trans a b c xs ys p q
both_taken (Ok x) (Err e) a b c xs ys p q = tt
both_taken (Err e) s a b c xs ys p q = tt

-- What is kept afterwards was offered all the same.
pub offered_kept : (fs : List Feature) (a b c : Option (List ℕ)) → EndsOffered fs a b → Keeps b c → EndsOffered fs a c
offered_kept [] a b c p k = Keeps-trans a b c p k
offered_kept (f ∷ fs) a b c p k = (p.0, p.1, record { front = p.2.front; rest = p.2.rest; split = p.2.split; grown = appended_kept p.0 b c p.2.front p.2.grown k })
