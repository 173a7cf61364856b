-- Texts that are counted and then printed.
use Rattle.std.proofs.Common.{◌≡◌, ℕ, zero, suc, ◌+◌, ◌-◌, ◌<◌, ◌≤◌, nat_le, Bool, true, false, cond, List, [], ◌∷◌, refl, ap, ◌∙◌, arith}
use Rattle.std.proofs.lemmas.Bool.Decides.{nat_tests}
use Rattle.screen.specs.Texts.{part_columns, text_columns, within}
use Rattle.screen.proofs.Prints.{no_room_by, room_by}

-- ---- how many columns a text takes

-- The parts before `rest` were read, and they take so many of the columns that the text takes.
pub record IsCounted (text rest : List (List ℕ)) (room count : ℕ) : Type 0 where
  pub fits : count ≤ room
  pub sum : text_columns (within room text) ≡ count + text_columns (within (room - count) rest)

pub counted_none : (text : List (List ℕ)) (room : ℕ) → IsCounted text text room 0
counted_none text room =
    let all : room ≡ room - 0 = omega arith in
    let same : text_columns (within room text) ≡ text_columns (within (room - 0) text) = ap (λ k. text_columns (within k text)) all in
    record { fits = omega arith; sum = omega (arith, same) }

-- A part that has room.
pub counted_more : (text rest back : List (List ℕ)) (p : List ℕ) (room count more : ℕ) → rest ≡ p ∷ back → more ≡ count + part_columns p → part_columns p ≤ room - count
    → IsCounted text rest room count → IsCounted text back room more
counted_more text rest back p room count more next sum le w =
    let taken : text_columns (within (room - count) rest) ≡ part_columns p + text_columns (within (room - count - part_columns p) back) =
    ap (λ l. text_columns (within (room - count) l)) next
    ∙ ap text_columns (room_by (nat_le (part_columns p) (room - count)) (room - count) p back refl le) in
    let left : text_columns (within (room - count - part_columns p) back) ≡ text_columns (within (room - more) back) =
    ap (λ k. text_columns (within k back)) (omega (arith, sum)) in
    record { fits = omega (arith, le, sum, w.fits); sum = omega (arith, w.sum, taken, left, sum) }

-- All was read, or the next part has no room.
pub counted_all : (text rest : List (List ℕ)) (room count : ℕ) → rest ≡ [] → IsCounted text rest room count → count ≡ text_columns (within room text)
counted_all text rest room count next w =
    let none : text_columns (within (room - count) rest) ≡ 0 = ap (λ l. text_columns (within (room - count) l)) next in
    omega (arith, w.sum, none)

pub counted_front : (text rest back : List (List ℕ)) (p : List ℕ) (room count : ℕ) → rest ≡ p ∷ back → room - count < part_columns p → IsCounted text rest room count → count ≡ text_columns (within room text)
counted_front text rest back p room count next full w =
    let none : text_columns (within (room - count) rest) ≡ 0 =
    ap (λ l. text_columns (within (room - count) l)) next
    ∙ ap text_columns (no_room_by (nat_le (part_columns p) (room - count)) (room - count) p back refl full) in
    omega (arith, w.sum, none)

-- ---- what is shown in fewer columns

less_by : (fits : Bool) (room less : ℕ) (c : List ℕ) (text : List (List ℕ)) → nat_le (part_columns c) room ≡ fits → less ≤ room
    → text_columns (cond fits (c ∷ within (room - part_columns c) text) []) ≤ less
    → (part_columns c ≤ room → text_columns (within (room - part_columns c) text) ≤ less - part_columns c → within (less - part_columns c) text ≡ within (room - part_columns c) text)
    → within less (c ∷ text) ≡ cond fits (c ∷ within (room - part_columns c) text) []
less_by true room less c text e le few rest =
    let fits : part_columns c ≤ room = grind (arith, nat_tests) in
    let sum : part_columns c + text_columns (within (room - part_columns c) text) ≤ less = few in
    room_by (nat_le (part_columns c) less) less c text refl (omega (arith, sum)) ∙ ap (λ l. c ∷ l) (rest fits (omega (arith, sum)))
less_by false room less c text e le few rest =
    let full : room < part_columns c = grind (arith, nat_tests) in
    no_room_by (nat_le (part_columns c) less) less c text refl (omega (arith, full, le))

-- What is shown in some columns is shown in fewer, if these are enough for it.
pub within_less : (text : List (List ℕ)) (room less : ℕ) → less ≤ room → text_columns (within room text) ≤ less → within less text ≡ within room text
within_less [] room less le few = refl
within_less (c ∷ text) room less le few =
    less_by (nat_le (part_columns c) room) room less c text refl le few (λ fits rest. within_less text (room - part_columns c) (less - part_columns c) (omega (arith, le)) rest)

-- A text that has room is shown whole.
pub within_whole : (text : List (List ℕ)) (room : ℕ) → text_columns text ≤ room → within room text ≡ text
within_whole [] room few = refl
within_whole (c ∷ text) room few =
    let sum : part_columns c + text_columns text ≤ room = few in
    room_by (nat_le (part_columns c) room) room c text refl (omega (arith, sum)) ∙ ap (λ l. c ∷ l) (within_whole text (room - part_columns c) (omega (arith, sum)))

-- A text that has room in so many columns from one on has room in the row.
pub shown_whole : (text : List (List ℕ)) (room before width x : ℕ) → before + text_columns (within room text) ≤ room → (0 < room → x + room ≤ width)
    → within (width - (x + before)) (within room text) ≡ within room text
shown_whole text zero before width x few fits = within_whole (within 0 text) (width - (x + before)) (omega (arith, few))
shown_whole text (suc n) before width x few fits = within_whole (within (suc n) text) (width - (x + before)) (omega (arith, few, fits (omega arith)))
