-- Nothing is left out that has room.
use Rattle.std.proofs.Common.{◌≡◌, ℕ, ◌+◌, ◌-◌, ◌≤◌, true, List, [], ◌∷◌, ◌++◌, length, reverse, refl, sym, subst, ap, ◌∙◌, inl, inr, arith, append_assoc, leb}
use Rattle.std.proofs.lemmas.Bool.{cases_Bool, le-leb}
use Rattle.std.proofs.lemmas.List.{length-reverse, reverse-append, reverse-reverse}
use Rattle.line_editor.specs.Edits.{IsSettled}
use Rattle.line_editor.specs.Splits.{Split}
use Rattle.line_editor.specs.Places.{is_between}
use Rattle.line_editor.specs.Views.{Start, width_of, columns_of, furthest, last_seen, place_or, start, start_or}

pub columns-append : (a b : List ℕ) → width_of (a ++ b) ≡ width_of a + width_of b
columns-append [] b = omega arith
columns-append (c ∷ a) b = omega (arith, columns-append a b)

pub columns-reverse : (text : List ℕ) → width_of (reverse text) ≡ width_of text
columns-reverse [] = refl
columns-reverse (c ∷ text) = ap width_of (reverse-append (c ∷ []) text) ∙ omega (arith, columns-append (reverse text) (c ∷ []), columns-reverse text)

-- ---- before the cursor

or-back : (s best : Start) (n : ℕ) → length s.place.before ≤ n → length best.place.before ≤ n → length (start_or s best).place.before ≤ n
or-back s best n a b = elim (cases_Bool (is_between s.place.before s.place.after)) [ inl here ↦ rw here a | inr not_here ↦ rw not_here b ]

or-from : (s best : Start) (n : ℕ) → n ≤ length s.place.before → n ≤ length best.place.before → n ≤ length (start_or s best).place.before
or-from s best n a b = elim (cases_Bool (is_between s.place.before s.place.after)) [ inl here ↦ rw here a | inr not_here ↦ rw not_here b ]

or-here : (s best : Start) → IsSettled s.place → (start_or s best).place ≡ s.place
or-here s best h = rw h refl

-- A start is never nearer than the one that was there.
furthest-back : (room used : ℕ) (before after : List ℕ) (best : Start) (n : ℕ) → length before ≤ n → length best.place.before ≤ n
    → length (furthest room used before after best).place.before ≤ n
furthest-back room used [] after best n a b = b
furthest-back room used (c ∷ before) after best n a b =
    let s : Start = record { place = record { before = before; after = c ∷ after }; column = used + columns_of c } in
    let less : length before ≤ n = omega (arith, a) in
    elim (cases_Bool (leb (used + columns_of c) room)) [
      | inl here ↦ rw here (furthest-back room (used + columns_of c) before (c ∷ after) (start_or s best) n less (or-back s best n less b))
      | inr not_here ↦ rw not_here b
    ]

-- The furthest start is as far back as any place between clusters from which there is room.
furthest-far : (room used : ℕ) (between before after : List ℕ) (best : Start)
    → (IsSettled (record { before = between ++ before; after = after }) → best.place ≡ record { before = between ++ before; after = after })
    → IsSettled (record { before = before; after = reverse between ++ after }) → used + width_of between ≤ room
    → length (furthest room used (between ++ before) after best).place.before ≤ length before
furthest-far room used [] before after best b h le =
    let here = b h in
    furthest-back room used before after best (length before) (omega arith) (omega (arith, ap (λ (x : Split). length x.before) here))
furthest-far room used (c ∷ between) before after best b h le =
    let s : Start = record { place = record { before = between ++ before; after = c ∷ after }; column = used + columns_of c } in
    let room_for : leb (used + columns_of c) room ≡ true = le-leb (used + columns_of c) room (omega (arith, le)) in
    let same : reverse (c ∷ between) ++ after ≡ reverse between ++ (c ∷ after) =
    ap (λ t. t ++ after) (reverse-append (c ∷ []) between) ∙ append_assoc (reverse between) (c ∷ []) after in
    let P : List ℕ → Type 0 = λ t. IsSettled (record { before = before; after = t }) in
    rw room_for (furthest-far room (used + columns_of c) between before (c ∷ after) (start_or s best) (or-here s best) (subst P same h) (omega (arith, le)))

pub start-far : (room : ℕ) (d : Split) (front part : List ℕ) → reverse d.before ≡ front ++ part → is_between (reverse front) (part ++ d.after) ≡ true
    → width_of part ≤ room - 1 → length (start room d).place.before ≤ length front
start-far room d front part e h le =
    let split : d.before ≡ reverse part ++ reverse front = sym (reverse-reverse d.before) ∙ ap reverse e ∙ reverse-append front part in
    let P : List ℕ → Type 0 = λ t. length (furthest (room - 1) 0 t d.after (record { place = record { before = t; after = d.after }; column = 0 })).place.before ≤ length (reverse front) in
    let Q : List ℕ → Type 0 = λ t. IsSettled (record { before = reverse front; after = t }) in
    let settled : IsSettled (record { before = reverse front; after = reverse (reverse part) ++ d.after }) =
    subst Q (ap (λ t. t ++ d.after) (sym (reverse-reverse part))) h in
    let far = furthest-far (room - 1) 0 (reverse part) (reverse front) d.after
    (record { place = record { before = reverse part ++ reverse front; after = d.after }; column = 0 }) (λ _. refl) settled (omega (arith, le, columns-reverse part)) in
    let all : P d.before = subst P (sym split) far in
    omega (arith, all, length-reverse front)

-- ---- behind the cursor

place-on : (q best : Split) (n : ℕ) → length q.after ≤ n → length best.after ≤ n → length (place_or q best).after ≤ n
place-on q best n a b = elim (cases_Bool (is_between q.before q.after)) [ inl here ↦ rw here a | inr not_here ↦ rw not_here b ]

place-here : (q best : Split) → IsSettled q → place_or q best ≡ q
place-here q best h = rw h refl

last_seen-on : (room used : ℕ) (before after : List ℕ) (best : Split) (n : ℕ) → length after ≤ n → length best.after ≤ n
    → length (last_seen room used before after best).after ≤ n
last_seen-on room used before [] best n a b = b
last_seen-on room used before (c ∷ after) best n a b =
    let q : Split = record { before = c ∷ before; after = after } in
    let less : length after ≤ n = omega (arith, a) in
    elim (cases_Bool (leb (used + columns_of c) room)) [
      | inl here ↦ rw here (last_seen-on room (used + columns_of c) (c ∷ before) after (place_or q best) n less (place-on q best n less b))
      | inr not_here ↦ rw not_here b
    ]

-- The last place seen is as far on as any place between clusters up to which there is room.
pub last_seen-far : (room used : ℕ) (before part after : List ℕ) (best : Split)
    → (IsSettled (record { before = before; after = part ++ after }) → best ≡ record { before = before; after = part ++ after })
    → IsSettled (record { before = reverse part ++ before; after = after }) → used + width_of part ≤ room
    → length (last_seen room used before (part ++ after) best).after ≤ length after
last_seen-far room used before [] after best b h le =
    let here = b h in
    last_seen-on room used before after best (length after) (omega arith) (omega (arith, ap (λ (x : Split). length x.after) here))
last_seen-far room used before (c ∷ part) after best b h le =
    let q : Split = record { before = c ∷ before; after = part ++ after } in
    let room_for : leb (used + columns_of c) room ≡ true = le-leb (used + columns_of c) room (omega (arith, le)) in
    let same : reverse (c ∷ part) ++ before ≡ reverse part ++ (c ∷ before) =
    ap (λ t. t ++ before) (reverse-append (c ∷ []) part) ∙ append_assoc (reverse part) (c ∷ []) before in
    let P : List ℕ → Type 0 = λ t. IsSettled (record { before = t; after = after }) in
    rw room_for (last_seen-far room (used + columns_of c) (c ∷ before) part after (place_or q best) (place-here q best) (subst P same h) (omega (arith, le)))
