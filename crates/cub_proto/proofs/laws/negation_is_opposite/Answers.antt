use Rattle.cub_proto.proofs.Opposite.{negated_is}
use Rattle.cub_proto.proofs.laws.negation_is_opposite.Goals as goal

pub returns : goal.returns
returns c = λ p s places lit state processes fits. negated_is p s places state processes lit fits
