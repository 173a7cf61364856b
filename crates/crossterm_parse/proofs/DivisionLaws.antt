-- Lists cut into whole parts.
use Rattle.std.proofs.Common.{◌≡◌, ◌⊎◌, inl, inr, List, [], ◌∷◌, ◌++◌, length, take, refl, ap, sym, ◌∙◌, subst, arith, append_assoc}
use Rattle.std.proofs.lemmas.List.{append-nil, append_cancel_left, take-append-le, take_all, length_push}
use Rattle.std.proofs.lemmas.Bool.{cases_lt}
use Rattle.std.proofs.lemmas.Grind.{flat_map-append}
use Rattle.std.specs.List.{flat_map}
use Rattle.crossterm_parse.specs.Division.{IsUndecided, Divides, IsPrefixFree, UniqueDivision, SomeDivision}
use Rattle.crossterm_types.proofs.Lists.{all_append, all_push}

-- of two fronts of one list, one is a front of the other
pub two_fronts : {X : Type 0} (p q a b : List X) → p ++ a ≡ q ++ b → ((x : List X) × (q ≡ p ++ x)) ⊎ ((x : List X) × (p ≡ q ++ x))
two_fronts [] q a b e = inl (q, refl)
two_fronts (x ∷ p) [] a b e = inr (x ∷ p, refl)
two_fronts {X} (x ∷ p) (y ∷ q) a b e =
    let heads : x ≡ y = cc in
    let tails : p ++ a ≡ q ++ b = cc in
    elim (two_fronts p q a b tails) [
      | inl w ↦ inl (w.0, let h : q ≡ p ++ w.0 = w.1 in cc)
      | inr w ↦ inr (w.0, let h : p ≡ q ++ w.0 = w.1 in cc)
    ]

-- no front of an undecided list is whole
pub not_front : {X : Type 0} (W : List X → Type 0) (p a rest : List X) → rest ≡ p ++ a → W p → IsUndecided W rest → ⊥
not_front W p a rest e w h = h (length p) (subst W (sym (ap (take (length p)) e ∙ take-append-le (length p) p a (omega arith) ∙ take_all (length p) p (omega arith))) w)

not_cons : {X : Type 0} (x : X) (xs : List X) → x ∷ xs ≡ [] → ⊥
not_cons x xs e = cc

pub unique_division : {X : Type 0} (W : List X → Type 0) → (W [] → ⊥) → IsPrefixFree W → UniqueDivision W
unique_division W n c list [] [] rest other d e = (refl, sym d.joined ∙ e.joined)
unique_division W n c list [] (q ∷ qs) rest other d e =
    absurd (not_front W q (flat_map (λ part. part) qs ++ other) rest (sym d.joined ∙ e.joined ∙ append_assoc q (flat_map (λ part. part) qs) other) e.whole.0 d.undecided)
unique_division W n c list (p ∷ ps) [] rest other d e =
    absurd (not_front W p (flat_map (λ part. part) ps ++ rest) other (sym e.joined ∙ d.joined ∙ append_assoc p (flat_map (λ part. part) ps) rest) d.whole.0 e.undecided)
unique_division {X} W n c list (p ∷ ps) (q ∷ qs) rest other d e =
    let after_p = flat_map (λ (part : List X). part) ps ++ rest in
    let after_q = flat_map (λ (part : List X). part) qs ++ other in
    let both : p ++ after_p ≡ q ++ after_q = sym (append_assoc p _ rest) ∙ sym d.joined ∙ e.joined ∙ append_assoc q _ other in
    let same : p ≡ q = elim (two_fronts p q after_p after_q both) [
      | inl w ↦ let more : w.0 ≡ [] = c p w.0 d.whole.0 (subst W w.1 e.whole.0) in let is : q ≡ p ++ w.0 = w.1 in sym (is ∙ ap (λ (x : List X). p ++ x) more ∙ append-nil p)
      | inr w ↦ let more : w.0 ≡ [] = c q w.0 e.whole.0 (subst W w.1 d.whole.0) in let is : p ≡ q ++ w.0 = w.1 in is ∙ ap (λ (x : List X). q ++ x) more ∙ append-nil q
    ] in
    let rests : after_p ≡ after_q = append_cancel_left q after_p after_q (ap (λ (x : List X). x ++ after_p) (sym same) ∙ both) in
    let later = unique_division W n c after_p ps qs rest other
    (record { joined = refl; whole = d.whole.1; undecided = d.undecided })
    (record { joined = rests; whole = e.whole.1; undecided = e.undecided }) in
    (let tails : ps ≡ qs = later.0 in cc, later.1)

pub nil_undecided : {X : Type 0} (W : List X → Type 0) → (W [] → ⊥) → IsUndecided W []
nil_undecided W n k w = n (subst W (take_all k [] (omega arith)) w)

-- one more element that completes nothing
pub still_undecided : {X : Type 0} (W : List X → Type 0) (rest : List X) (m : X) → IsUndecided W rest → (W (rest ++ m ∷ []) → ⊥) → IsUndecided W (rest ++ m ∷ [])
still_undecided W rest m h n k w = elim (cases_lt (length rest) k) [
  | inl g ↦ n (subst W (take_all k (rest ++ m ∷ []) (omega (arith, length_push rest m))) w)
  | inr l ↦ h k (subst W (take-append-le k rest (m ∷ []) l) w)
]

-- one more element completes a part
pub divide_whole : {X : Type 0} (W : List X → Type 0) → (W [] → ⊥) → (list : List X) (parts : List (List X)) (rest : List X) (m : X)
    → Divides W list parts rest → W (rest ++ m ∷ []) → Divides W (list ++ m ∷ []) (parts ++ (rest ++ m ∷ []) ∷ []) []
divide_whole {X} W n list parts rest m d w = record {
  joined = rw d.joined (simp (flat_map-append, append-nil, append_assoc));
  whole = all_push W parts (rest ++ m ∷ []) d.whole w;
  undecided = nil_undecided W n;
}

-- one more element completes nothing
pub divide_open : {X : Type 0} (W : List X → Type 0) → (list : List X) (parts : List (List X)) (rest : List X) (m : X)
    → Divides W list parts rest → (W (rest ++ m ∷ []) → ⊥) → Divides W (list ++ m ∷ []) parts (rest ++ m ∷ [])
divide_open {X} W list parts rest m d w = record {
  joined = rw d.joined (simp append_assoc);
  whole = d.whole;
  undecided = still_undecided W rest m d.undecided w;
}

-- the division of a list that goes on
pub divide_on : {X : Type 0} (W : List X → Type 0) → (W [] → ⊥) → ((list : List X) → W list ⊎ (W list → ⊥)) → (more list : List X) (parts : List (List X)) (rest : List X)
    → Divides W list parts rest → (all : List (List X)) × (last : List X) × Divides W (list ++ more) all last
divide_on W n decide [] list parts rest d = (parts, rest, rw append-nil d)
divide_on W n decide (m ∷ more) list parts rest d = elim (decide (rest ++ m ∷ [])) [
  | inl w ↦ rw (← append_assoc list (m ∷ []) more) (divide_on W n decide more (list ++ m ∷ []) (parts ++ (rest ++ m ∷ []) ∷ []) [] (divide_whole W n list parts rest m d w))
  | inr w ↦ rw (← append_assoc list (m ∷ []) more) (divide_on W n decide more (list ++ m ∷ []) parts (rest ++ m ∷ []) (divide_open W list parts rest m d w))
]

pub some_division : {X : Type 0} (W : List X → Type 0) → (W [] → ⊥) → ((list : List X) → W list ⊎ (W list → ⊥)) → SomeDivision W
some_division W n decide list = divide_on W n decide list [] [] [] (record { joined = refl; whole = tt; undecided = nil_undecided W n })

-- what is divided in two goes is divided in one
pub divide_join : {X : Type 0} (W : List X → Type 0) → (list more : List X) (parts others : List (List X)) (rest last : List X)
    → Divides W list parts rest → Divides W (rest ++ more) others last → Divides W (list ++ more) (parts ++ others) last
divide_join {X} W list more parts others rest last d e = record {
  joined = rw (d.joined, append_assoc, e.joined) (simp (flat_map-append, append_assoc));
  whole = all_append W parts others d.whole e.whole;
  undecided = e.undecided;
}
