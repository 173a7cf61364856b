-- The events that wait, and the places of typed characters among them.
use Rattle.std.proofs.Common.{◌≡◌, ◌≤◌, ℕ, ◌+◌, ◌-◌, arith, List, [], ◌∷◌, ◌++◌, drop, length, map, take, ap, refl, sym, ◌∙◌}
use Rattle.std.proofs.lemmas.List.{append-nil, drop-append-le, drop-take, length-take-le, map-append}
use Rattle.std.proofs.lemmas.Simd.{map-map}
use Rattle.crossterm_types.specs.Seen.{Seen}
use Rattle.crossterm_parse.specs.Meaning.{seen_meaning, typed}
use Rattle.crossterm_parse.specs.inside.Queue.{typed_seen}

module _ {X : Type 0} where
  -- those from one place up to another
  between : (xs : List X) (at end : ℕ) → at ≤ end → take (end - at) (drop at xs) ≡ drop at (take end xs)
  between xs at end l = let on : at + (end - at) ≡ end = omega (arith, l) in sym (drop-take at (end - at) xs) ∙ ap (λ n. drop at (take n xs)) on

  -- more were put behind them
  pub more_between : (xs ys more : List X) (at end count : ℕ) → at ≤ end → end ≤ length xs → take (end + count) ys ≡ take end xs ++ more
      → take (end + count - at) (drop at ys) ≡ take (end - at) (drop at xs) ++ more
  more_between xs ys more at end count l fits is =
      between ys at (end + count) (omega (arith, l)) ∙ ap (λ zs. drop at zs) is ∙ drop-append-le at (take end xs) more (omega (arith, l, length-take-le end xs fits))
      ∙ ap (λ zs. zs ++ more) (sym (between xs at end l))

nothing : (events : List Seen) → length events ≡ 0 → events ≡ []
nothing [] none = refl
nothing (e ∷ es) none = absurd (omega (arith, none))

-- letters behind typed characters, if no other event waits
pub letters_behind : (ts letters : List ℕ) (events : List Seen) → length events ≡ 0
    → map typed_seen (ts ++ letters) ++ events ≡ (map typed_seen ts ++ events) ++ map seen_meaning (map typed letters)
letters_behind ts letters events none =
    let alone = λ (xs : List Seen). ap (λ (es : List Seen). xs ++ es) (nothing events none) ∙ append-nil xs in
    alone (map typed_seen (ts ++ letters)) ∙ map-append typed_seen ts letters
    ∙ ap (λ (xs : List Seen). map typed_seen ts ++ xs) (sym (map-map seen_meaning typed letters))
    ∙ ap (λ (xs : List Seen). xs ++ map seen_meaning (map typed letters)) (sym (alone (map typed_seen ts)))
