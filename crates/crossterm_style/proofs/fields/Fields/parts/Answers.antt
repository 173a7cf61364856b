use Rattle.crossterm_style.proofs.FieldLaws.{no_second, no_third}
use Rattle.crossterm_style.proofs.fields.Fields.parts.Goals as goal

pub returns-in_default : goal.returns-in_default
returns-in_default c r g b p = c.in_default.ensures r p.0 p.2

pub returns-in_default-byte : goal.returns-in_default-byte
returns-in_default-byte c = no_second _ _ _ c.in-Some.ensures c.in_default-byte.ensures

pub returns-in-None : goal.returns-in-None
returns-in-None c = no_third _ _ _ _ _ c.in-Some.ensures c.in-Some-byte.ensures c.in-None.ensures
