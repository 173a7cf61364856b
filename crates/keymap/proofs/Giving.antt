-- What is given place by place is what is given of all.
use Rattle.std.proofs.Common.{◌≡◌, ℕ, zero, suc, ◌+◌, ◌-◌, ◌<◌, ◌≤◌, true, false, List, [], ◌∷◌, ◌++◌, Option, length, take, drop, slice_index_or, add-one, refl, sym, ap, ◌∙◌, subst, arith}
use Rattle.std.proofs.lemmas.List.{length-drop, append-nil, take-append-le, drop-take}
use Rattle.crossterm_types.specs.declared.event.key.KeyEvent.{KeyEvent}
use Rattle.std.specs.List.{AllByRecursion}
use Rattle.keymap.specs.Bindings.{AreShort, Binding, bound_of}
use Rattle.keymap.specs.Chords.{Bound, longest, is_begun}
use Rattle.keymap.specs.Cut.{cut_keys, given, left, outcome_of, more_of}
use Rattle.keymap.specs.Matching.{Matching, IsFed, IsFlushed}
use Rattle.keymap.specs.Outcomes.{SeenOutcome}
use Rattle.keymap.specs.declared.inside.Match.{Match}
use Rattle.keymap.specs.inside.Giving.{after_first, first_outcomes}
use Rattle.keymap.proofs.Cutting.{first, goes_on, begun_short}

-- Of so many keys the first are gone past.
pub past_is : (n c : ℕ) (keys : List KeyEvent) → c ≤ n → n ≤ length keys → take (n - c) (drop c keys ++ take c keys) ≡ drop c (take n keys)
past_is n c keys h g =
    let short : n - c ≤ length (drop c keys) = omega (arith, length-drop c keys) in
    let sum : c + (n - c) ≡ n = omega arith in
    take-append-le (n - c) (drop c keys) (take c keys) short ∙ sym (drop-take c (n - c) keys) ∙ ap (λ m. drop c (take m keys)) sum

-- Some keys are the first one and the rest.
pub first_and_rest : (keys : List KeyEvent) (d : KeyEvent) → 0 < length keys → keys ≡ slice_index_or keys 0 d ∷ drop 1 keys
first_and_rest [] d h = absurd (omega arith)
first_and_rest (k ∷ ks) d h = refl

pub take_short : (n : ℕ) (keys : List KeyEvent) → length (take n keys) ≤ n
take_short n [] = take_of_nil n
  where
    take_of_nil : (n : ℕ) → length (take {A = KeyEvent} n []) ≤ n
    take_of_nil zero = omega arith
    take_of_nil (suc n) = omega arith
take_short zero (k ∷ ks) = omega arith
take_short (suc n) (k ∷ ks) = let t = take_short n ks in omega arith

short_lists : (bound : Bound) → AreShort bound → AllByRecursion (λ chords. length chords ≤ 8) bound
short_lists [] s = tt
short_lists (chords ∷ bound) s = (s.0.1, short_lists bound s.1)

-- Keys that a short list goes beyond are fewer than eight.
pub few : (bound : Bound) (keys : List KeyEvent) → AreShort bound → is_begun bound keys ≡ true → length keys < 8
few bound keys s u = begun_short 8 bound keys (short_lists bound s) u

module _ (bound : Bound) where
  pub within : (keys : List KeyEvent) → 0 < length keys → more_of (longest bound keys) + 1 ≤ length keys
  within [] h = absurd (omega arith)
  within (k ∷ ks) h = let w = (first bound k ks).within in omega arith

  pub after_is : (keys : List KeyEvent) → 0 < length keys → drop (more_of (longest bound keys) + 1) keys ≡ after_first bound keys
  after_is [] h = absurd (omega arith)
  after_is (k ∷ ks) h = rw add-one refl

  -- The outcome of the first key comes first.
  pub outcome_is : (keys remaining rest : List KeyEvent) (key : KeyEvent) (found : Option Match) (t : SeenOutcome) → t ≡ outcome_of key found → found ≡ longest bound remaining → remaining ≡ key ∷ rest → remaining ≡ keys → t ∷ [] ≡ first_outcomes bound keys
  outcome_is keys remaining rest key found t e f s r =
      ap (λ x. x ∷ []) e ∙ ap (λ g. outcome_of key g ∷ []) (f ∙ ap (longest bound) s) ∙ ap (first_outcomes bound) (sym s ∙ r)

  pub fewer : (keys : List KeyEvent) → 0 < length keys → length (after_first bound keys) < length keys
  fewer [] h = absurd (omega arith)
  fewer (k ∷ ks) h = omega (arith, length-drop (more_of (longest bound (k ∷ ks))) ks)

  pub cut_on : (keys : List KeyEvent) → 0 < length keys → cut_keys bound keys ≡ first_outcomes bound keys ++ cut_keys bound (after_first bound keys)
  cut_on [] h = absurd (omega arith)
  cut_on (k ∷ ks) h = (first bound k ks).is_cut

  pub given_on : (keys : List KeyEvent) → 0 < length keys → is_begun bound keys ≡ false → given bound keys ≡ first_outcomes bound keys ++ given bound (after_first bound keys)
  given_on [] h u = absurd (omega arith)
  given_on (k ∷ ks) h u = (first bound k ks).is_given u

  pub left_on : (keys : List KeyEvent) → 0 < length keys → is_begun bound keys ≡ false → left bound keys ≡ left bound (after_first bound keys)
  left_on [] h u = absurd (omega arith)
  left_on (k ∷ ks) h u = (first bound k ks).is_left u

  pub none_given : (keys : List KeyEvent) → is_begun bound keys ≡ true → given bound keys ≡ []
  none_given [] u = refl
  none_given (k ∷ ks) u = (first bound k ks).none_given u

  pub all_left : (keys : List KeyEvent) → is_begun bound keys ≡ true → left bound keys ≡ keys
  all_left [] u = refl
  all_left (k ∷ ks) u = (first bound k ks).all_left u

-- A matcher that gave what is decided is fed.
pub fed : (m n : Matching) (key : KeyEvent) → n.keymap ≡ m.keymap → n.passes ≡ m.passes → length n.undecided < 8 → n.waiting ≡ m.waiting ++ given (bound_of m.keymap) (m.undecided ++ key ∷ [])
    → n.undecided ≡ left (bound_of m.keymap) (m.undecided ++ key ∷ []) → IsFed m key n
fed m n key same alike short w u = record {
  keymap = same;
  passes = alike;
  few = short;
  gives = λ keys represents.
      let bound = bound_of m.keymap in
      let g = goes_on 0 bound keys (key ∷ []) (omega arith) in
      record {
        more = given bound (m.undecided ++ key ∷ []);
        waiting = w;
        grows = g.given ∙ ap (λ v. given bound keys ++ given bound (v ++ key ∷ [])) (sym represents);
        represents = subst (λ (map : List Binding). n.undecided ≡ left (bound_of map) (keys ++ key ∷ [])) (sym same) (u ∙ ap (λ v. left bound (v ++ key ∷ [])) represents ∙ sym g.kept);
      };
}

-- A matcher that gave all is flushed.
pub flushed : (m n : Matching) → n.keymap ≡ m.keymap → n.passes ≡ m.passes → n.waiting ≡ m.waiting ++ cut_keys (bound_of m.keymap) m.undecided → n.undecided ≡ [] → IsFlushed m n
flushed m n same alike w u = record {
  keymap = same;
  passes = alike;
  gives = λ keys represents.
      let bound = bound_of m.keymap in
      record {
        more = cut_keys bound m.undecided;
        waiting = w;
        grows = rest bound keys ∙ ap (λ v. given bound keys ++ cut_keys bound v) (sym represents);
        represents = u;
      };
}
  where
    rest : (bound : Bound) (keys : List KeyEvent) → cut_keys bound keys ≡ given bound keys ++ cut_keys bound (left bound keys)
    rest bound keys =
        let g = goes_on 0 bound keys [] (omega arith) in
        ap (cut_keys bound) (sym (append-nil keys)) ∙ g.cut ∙ ap (λ v. given bound keys ++ cut_keys bound v) (append-nil (left bound keys))
