-- `parts` hands on what the handle owns.
use Rattle.handle.proofs.Lending.{parts_meets}
use Rattle.line_c.proofs.HandleKinds.{kind}
use Rattle.line_c.specs.contracts.keeping.LineHandle.parts.Key.{name}
use Rattle.line_c.proofs.keeping.LineHandle.parts.Statement.{statement}
use Rattle.line_c.proofs.keeping.LineHandle.parts.Code as code

pub parts_spec : {M : Type 1} → statement M
parts_spec 𝓤 𝓛 𝓜 𝓡 wired = parts_meets kind 𝓛 𝓜 𝓡 name (code.unfolded 𝓤 𝓛.H 𝓜 𝓡 wired)
