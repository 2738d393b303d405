use Rattle.cub_cube.proofs.Bounds.{replaced_bounded}
use Rattle.cub_cube.proofs.Replaced.{replaced_fits_wide}
use Rattle.cub_cube.proofs.form_laws.replaced_fits.Goals as goal

pub returns-clause-fits : goal.returns-clause-fits
returns-clause-fits c = replaced_fits_wide

pub returns-clause-bounded : goal.returns-clause-bounded
returns-clause-bounded c = replaced_bounded
