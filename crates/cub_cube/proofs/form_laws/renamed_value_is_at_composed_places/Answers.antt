use Rattle.cub_cube.proofs.Renames.{renamed_meaning}
use Rattle.cub_cube.proofs.form_laws.renamed_value_is_at_composed_places.Goals as goal

pub returns : goal.returns
returns c = renamed_meaning
