use Rattle.cub_cube.proofs.Renames.{renamed_all_true}
use Rattle.cub_cube.proofs.form_laws.renamed_is_at_composed_places.Goals as goal

pub returns : goal.returns
returns c = renamed_all_true
