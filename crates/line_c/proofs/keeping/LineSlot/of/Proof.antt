-- `of` hands what the parts own to the place.
use Rattle.handle.proofs.Lending.{slot_meets}
use Rattle.line_c.proofs.HandleKinds.{slot}
use Rattle.line_c.specs.contracts.keeping.LineSlot.of.Key.{name}
use Rattle.line_c.proofs.keeping.LineSlot.of.Statement.{statement}
use Rattle.line_c.proofs.keeping.LineSlot.of.Code as code

pub of_spec : {M : Type 1} → statement M
of_spec 𝓤 𝓛 𝓜 𝓡 wired = slot_meets slot 𝓛 𝓜 𝓡 name (code.unfolded 𝓤 𝓛.H 𝓜 𝓡 wired)
