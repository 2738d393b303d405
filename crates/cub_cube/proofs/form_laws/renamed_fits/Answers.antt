use Rattle.cub_cube.proofs.RenamedFits.{renamed_all_fits, all_fits_within}
use Rattle.cub_cube.proofs.form_laws.renamed_fits.Goals as goal

pub returns-clause-within : goal.returns-clause-within
returns-clause-within c = all_fits_within

pub returns-clause-fits : goal.returns-clause-fits
returns-clause-fits c sig width r lits within fits = renamed_all_fits sig width r within lits fits
