use Rattle.std.proofs.Common.{[], refl}
use Rattle.cub_cube.proofs.Bounds.{fold_bounded}
use Rattle.cub_cube.proofs.Form.{fold_fits}
use Rattle.cub_cube.proofs.form_laws.normal_form_fits.Goals as goal

pub returns-clause-fits : goal.returns-clause-fits
returns-clause-fits c sig width lits fits = fold_fits sig width [] lits refl fits

pub returns-clause-bounded : goal.returns-clause-bounded
returns-clause-bounded c sig limit lits bounded = fold_bounded sig limit [] lits refl bounded
