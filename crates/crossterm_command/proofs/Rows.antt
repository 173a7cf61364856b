-- The texts of a list, one after another.
use Rattle.std.proofs.Common.{◌≡◌, ◌≢◌, ℕ, ◌+◌, ◌<◌, ◌≤◌, arith, List, [], ◌∷◌, ◌++◌, Option, Some, sym, ap, ◌∙◌, append_assoc, append-nil, subst, take_all, length, get_or, take, drop, take-append-drop, flat_map}
use Rattle.std.proofs.lemmas.List.{take_more}
use Rattle.std.proofs.lemmas.List.Concat.{flat_map-append}
use Rattle.std.specs.Io.KnownBytes.{Appends}
use Rattle.std.proofs.KnownBytes.{Appends-trans}
use Rattle.crossterm_command.specs.declared.fault.CommandFault.{CommandFault}
use Rattle.crossterm_command.specs.declared.fault.CommandFault.TheVariants.{Writer, Text, Both, Flush}
use Rattle.crossterm_command.specs.Faults.{Stopped}
use Rattle.crossterm_command.specs.Writing.{AppendsFront}

-- the texts before a place and the text at it
grown_at : {X : Type 0} (f : X → List ℕ) (xs : List X) (i : ℕ) (x : X) → i < length xs → get_or xs i x ≡ x → flat_map f (take (i + 1) xs) ≡ flat_map f (take i xs) ++ f x
grown_at f xs i x l e =
    ap (flat_map f) (take_more xs i x l ∙ ap (λ y. take i xs ++ (y ∷ [])) e)
    ∙ flat_map-append f (take i xs) (x ∷ []) ∙ ap (λ h. flat_map f (take i xs) ++ h) (append-nil (f x))

-- After all texts before a place, the text at it is taken.
pub more_taken : {X : Type 0} (f : X → List ℕ) (xs : List X) (i : ℕ) (x : X) (a b c : Option (List ℕ)) → i < length xs → get_or xs i x ≡ x
    → Appends a b (flat_map f (take i xs)) → Appends b c (f x) → Appends a c (flat_map f (take (i + 1) xs))
more_taken f xs i x a b c l e p q = subst (Appends a c) (sym (grown_at f xs i x l e)) (Appends-trans a b c (flat_map f (take i xs)) (f x) p q)

-- the texts before a place, the text at it, and some more are the whole
whole_at : {X : Type 0} (f : X → List ℕ) (xs : List X) (i : ℕ) (x : X) → i < length xs → get_or xs i x ≡ x
    → flat_map f xs ≡ flat_map f (take i xs) ++ (f x ++ flat_map f (drop (i + 1) xs))
whole_at {X} f xs i x l e =
    ap (flat_map f) (sym (take-append-drop (i + 1) xs)) ∙ flat_map-append f (take (i + 1) xs) (drop (i + 1) xs)
    ∙ ap (λ h. h ++ flat_map f (drop (i + 1) xs)) (grown_at f xs i x l e)
    ∙ append_assoc (flat_map f (take i xs)) (f x) (flat_map f (drop (i + 1) xs))

-- A beginning of a first text is a beginning of both.
pub front_of_first : (a b : Option (List ℕ)) (x y : List ℕ) → AppendsFront a b x → AppendsFront a b (x ++ y)
front_of_first a b x y p = record { front = p.front; rest = p.rest ++ y; split = ap (λ l. l ++ y) p.split ∙ append_assoc p.front p.rest y; grown = p.grown }

-- A whole first text and then a beginning of the second are a beginning of both.
pub front_of_second : (a b c : Option (List ℕ)) (x y : List ℕ) → Appends a b x → AppendsFront b c y → AppendsFront a c (x ++ y)
front_of_second a b c x y p q = record {
  front = x ++ q.front;
  rest = q.rest;
  split = ap (λ l. x ++ l) q.split ∙ sym (append_assoc x q.front q.rest);
  grown = Appends-trans a b c x q.front p q.grown;
}

-- After all texts before a place, a beginning of the text at it is a beginning of all.
pub front_at : {X : Type 0} (f : X → List ℕ) (xs : List X) (i : ℕ) (x : X) (a b c : Option (List ℕ)) → i < length xs → get_or xs i x ≡ x
    → Appends a b (flat_map f (take i xs)) → AppendsFront b c (f x) → AppendsFront a c (flat_map f xs)
front_at f xs i x a b c l e p q =
    let before = flat_map f (take i xs) in
    let after = flat_map f (drop (i + 1) xs) in
    record {
      front = before ++ q.front;
      rest = q.rest ++ after;
      split = whole_at f xs i x l e ∙ ap (λ h. before ++ (h ++ after)) q.split ∙ ap (λ h. before ++ h) (append_assoc q.front q.rest after) ∙ sym (append_assoc before q.front (q.rest ++ after));
      grown = Appends-trans a b c before q.front p q.grown;
    }

-- A list that has something at a place isn't empty.
not_empty : {X : Type 0} (xs : List X) (i : ℕ) → i < length xs → xs ≢ []
not_empty xs i l none = omega (arith, l, ap length none)

-- After all texts before a place, what stops at it stops the list.
pub stopped_in : {X : Type 0} (f : X → List ℕ) (xs : List X) (i : ℕ) (x : X) (failed : Type 0) (a b c : Option (List ℕ)) → i < length xs → get_or xs i x ≡ x
    → Appends a b (flat_map f (take i xs)) → (fault : CommandFault) → Stopped fault (Some (f x)) failed b c → Stopped fault (Some (flat_map f xs)) (xs ≢ []) a c
stopped_in f xs i x failed a b c l e p (Writer fault) q = front_at f xs i x a b c l e p q
stopped_in f xs i x failed a b c l e p Text q = not_empty xs i l
stopped_in f xs i x failed a b c l e p (Both fault) q = not_empty xs i l
stopped_in f xs i x failed a b c l e p (Flush fault) q = absurd q

pub all_taken : {X : Type 0} (f : X → List ℕ) (xs : List X) (i : ℕ) (a b : Option (List ℕ)) → length xs ≤ i → Appends a b (flat_map f (take i xs)) → Appends a b (flat_map f xs)
all_taken f xs i a b l p = subst (λ ys. Appends a b (flat_map f ys)) (take_all i xs l) p
