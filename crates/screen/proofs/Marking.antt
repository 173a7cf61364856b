-- Marks are no control characters.
use Rattle.std.proofs.Common.{◌≡◌, ℕ, ◌<◌, ◌≤◌, Bool, true, false, not, nat_lt, ◌&&◌, refl, sym, ap, ◌∙◌, arith}
use Rattle.std.proofs.lemmas.Bool.{and_parts}
use Rattle.std.proofs.lemmas.Bool.Decides.{nat_tests}
use Rattle.unicode_width.specs.Width.{char_width}
use Rattle.screen.specs.Marks.{is_joined, is_kept_with, is_mark_of, takes_none}

-- No character below U+00A0 takes no column.
pub low_takes_some : (c : ℕ) → c < 0xA0 → takes_none c ≡ false
unfolding char_width
low_takes_some c h = grind (arith, nat_tests)

-- No character below U+00A0 is a mark.
pub low_isnt_mark : (before c : ℕ) → c < 0xA0 → is_mark_of before c ≡ false
low_isnt_mark before c h = ap (λ b. (b && not (is_joined c)) && is_kept_with before c) (low_takes_some c h)

-- ---- what a mark is

pub mark_takes_none : (before c : ℕ) → is_mark_of before c ≡ true → takes_none c ≡ true
mark_takes_none before c e =
    (and_parts (takes_none c) (not (is_joined c)) (and_parts (takes_none c && not (is_joined c)) (is_kept_with before c) e).0).0

high_by : (c : ℕ) (b : Bool) → nat_lt c 0xA0 ≡ b → takes_none c ≡ true → 0xA0 ≤ c
high_by c true l e =
    let low : c < 0xA0 = grind (arith, nat_tests) in
    let no : false ≡ true = sym (low_takes_some c low) ∙ e in
    cc
high_by c false l e = grind (arith, nat_tests)

-- A character of no column isn't 0, ESC or another control character.
pub none_is_high : (c : ℕ) → takes_none c ≡ true → 0xA0 ≤ c
none_is_high c e = high_by c (nat_lt c 0xA0) refl e

-- A mark isn't 0, ESC or another control character.
pub mark_is_high : (before c : ℕ) → is_mark_of before c ≡ true → 0xA0 ≤ c
mark_is_high before c e = none_is_high c (mark_takes_none before c e)
