-- A line's handle, as a kind of handle.
use mathlib.Core.Path.{refl}
use Rattle.handle.proofs.Lending.{Kind, Slot}
use Rattle.std.specs.Prelude.{Some}
use Rattle.line_c.specs.Lending.{with_value}
use Rattle.line_c.specs.contracts.lines.Lines as kept
use Rattle.line_c.specs.contracts.keeping.LineHandle as handle
use Rattle.line_c.specs.contracts.keeping.LineSlot as place

abbrev pub kind : Kind
kind = record {
  kept = kept.the_row;
  name = handle.the_type.name;
  D = handle.the_type.D;
  at = λ h. h.at;
  value = λ h. h.value;
  set = with_value;
  same_at = λ h w. refl;
  new_value = λ h w. refl;
  coded = handle.the_type.coded;
  shr_at = handle.the_type.shr_at;
}

-- Its place, as a place of that kind.
abbrev pub slot : Slot
slot = record {
  kept = kept.the_row;
  name = place.the_type.name;
  D = place.the_type.D;
  at = λ s. s.at;
  value = λ s. s.value;
  make = λ p w. record { at = p; value = Some w };
  same_at = λ p w. refl;
  new_value = λ p w. refl;
  coded = place.the_type.coded;
  shr_at = place.the_type.shr_at;
}
