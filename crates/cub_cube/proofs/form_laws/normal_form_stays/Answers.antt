use Rattle.cub_cube.proofs.Form.{form_stays}
use Rattle.cub_cube.proofs.form_laws.normal_form_stays.Goals as goal

pub returns : goal.returns
returns c = form_stays
