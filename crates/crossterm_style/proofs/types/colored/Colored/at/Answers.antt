use Rattle.std.proofs.Common.{inr, refl}
use Rattle.crossterm_style.proofs.ColorBack.{none_of}
use Rattle.crossterm_style.proofs.types.colored.Colored.at.Goals as goal

pub returns-in_default : goal.returns-in_default
returns-in_default g c = inr (refl, none_of c.args.place.now _ _ _ _ _ _ c.in_default.not-ForegroundColor c.in_default.not-BackgroundColor c.in_default.not-UnderlineColor)
