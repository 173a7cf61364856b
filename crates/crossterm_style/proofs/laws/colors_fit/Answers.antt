use Rattle.crossterm_style.proofs.Fitting.{colors_fit}
use Rattle.crossterm_style.proofs.laws.colors_fit.Goals as goal

pub returns : goal.returns
returns c = colors_fit c.args.colors.foreground c.args.colors.background c.there_fits.ensures c.there_fits-2.ensures
