use Rattle.std.proofs.Common.{◌∙◌}
use Rattle.cub_dnf.proofs.Parting.{all_fits, any_fits}
use Rattle.cub_dnf.proofs.formula.+fits.Goals as goal

pub fits-returns-in-All : goal.fits-returns-in-All
fits-returns-in-All t c = c.all_fit.ensures ∙ all_fits c.args.declared.now c.args.width c.as_slice.ensures c.in-All.is

pub fits-returns-in-Any : goal.fits-returns-in-Any
fits-returns-in-Any t c = c.all_fit-in-Any.ensures ∙ any_fits c.args.declared.now c.args.width c.as_slice-in-Any.ensures c.in-Any.is
