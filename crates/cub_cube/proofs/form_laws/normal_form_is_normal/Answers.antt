use Rattle.cub_cube.proofs.Form.{form_is_normal}
use Rattle.cub_cube.proofs.form_laws.normal_form_is_normal.Goals as goal

pub returns : goal.returns
returns c = form_is_normal
