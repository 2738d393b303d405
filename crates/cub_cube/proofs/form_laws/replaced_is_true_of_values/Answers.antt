use Rattle.cub_cube.proofs.Replaced.{replaced_true}
use Rattle.cub_cube.proofs.form_laws.replaced_is_true_of_values.Goals as goal

pub returns : goal.returns
returns c p s places after others width value lit state distinct fits can agree takes =
    replaced_true p s places value after others state distinct width lit fits can agree takes
