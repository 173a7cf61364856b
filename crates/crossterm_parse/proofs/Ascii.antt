-- The letters of ASCII.
use Rattle.std.proofs.Common.{◌≡◌, ◌<◌, ℕ, ◌&&◌, refl}
use Rattle.std.specs.Prelude.{nat_le}
use Rattle.std.specs.Bool.{beq}
use Rattle.unicode.proofs.BinaryLemmas.{is_uppercase_stepped}
use Rattle.unicode.proofs.DerivedComputing.{ucd_derived}
use Rattle.unicode.proofs.Facts.{Stepped-below, same_from_beq}
use Rattle.unicode.specs.Binary.{is_uppercase}

-- Below DEL, the upper case letters are those from A to Z.
pub is_uppercase-ascii : (b : ℕ) → b < 127 → is_uppercase b ≡ nat_le 65 b && nat_le b 90
unfolding ucd_derived
is_uppercase-ascii b l = same_from_beq _ _ (Stepped-below is_uppercase is_uppercase_stepped (λ c v. beq v (nat_le 65 c && nat_le c 90)) 127 refl b l)
