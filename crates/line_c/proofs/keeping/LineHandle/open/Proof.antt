-- `open` lends what the handle keeps.
use Rattle.handle.proofs.Lending.{open_meets}
use Rattle.line_c.proofs.HandleKinds.{kind}
use Rattle.line_c.specs.contracts.keeping.LineHandle.open.Key.{name}
use Rattle.line_c.proofs.keeping.LineHandle.open.Statement.{statement}
use Rattle.line_c.proofs.keeping.LineHandle.open.Code as code

pub open_spec : {M : Type 1} → statement M
open_spec 𝓤 𝓛 𝓜 𝓡 wired = open_meets kind _ _ 𝓛 𝓜 𝓡 name (code.unfolded 𝓤 𝓛.H 𝓜 𝓡 wired)
