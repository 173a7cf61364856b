-- Places in rows.
use Rattle.std.proofs.Common.{◌≡◌, ℕ, ◌+◌, ◌*◌, ◌/◌, ◌%◌, ◌<◌, arith}
use Rattle.std.proofs.lemmas.Nat.{div_below, mod_below}
use native.Mathlib.Nat.{div-add-mod'}

-- The width of cells that have a place.
some_width : (width height at : ℕ) → at < width * height → 0 < width
some_width width height at lt = grind (arith, lt)

pub row_below : (width height at : ℕ) → at < width * height → at / width < height
row_below width height at lt =
    let turned : width * height ≡ height * width = grind arith in
    div_below at width height (some_width width height at lt) (omega (arith, lt, turned))

pub column_below : (width height at : ℕ) → at < width * height → at % width < width
column_below width height at lt = mod_below at width (some_width width height at lt)

pub place_there : (width at : ℕ) → at / width * width + at % width ≡ at
place_there width at = div-add-mod' at width
