use Rattle.crossterm_style.proofs.FieldLaws.{sgr_after, no_ink, no_palette, no_rgb}
use Rattle.crossterm_style.proofs.fields.Fields.sgr.Goals as goal

pub returns-in_default : goal.returns-in_default
returns-in_default c = no_ink _ c.in_default.ensures

pub returns-in-None : goal.returns-in-None
returns-in-None c sgr p = no_palette _ _ c.in-5.is c.in-None.ensures sgr (sgr_after _ _ _ sgr c.in-Some.ensures p)

pub returns-in-None-parts : goal.returns-in-None-parts
returns-in-None-parts c sgr p = no_rgb _ _ c.in-2.is c.in-None-parts.ensures sgr (sgr_after _ _ _ sgr c.in-Some.ensures p)
