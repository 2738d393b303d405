use Rattle.cub_cube.proofs.RenamedFits.{renamed_form_true}
use Rattle.cub_cube.proofs.form_laws.renamed_cube_is_at_composed_places.Goals as goal

pub returns : goal.returns
returns c = renamed_form_true
