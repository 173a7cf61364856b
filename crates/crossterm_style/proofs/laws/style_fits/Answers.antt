use Rattle.crossterm_style.proofs.Fitting.{style_fits}
use Rattle.crossterm_style.proofs.laws.style_fits.Goals as goal

pub returns : goal.returns
returns c = style_fits c.args.style c.there_fits.ensures c.there_fits-2.ensures c.there_fits-3.ensures
