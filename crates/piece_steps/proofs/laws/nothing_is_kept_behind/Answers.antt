use Rattle.piece_choices.proofs.Fitting.{its_transition}
use Rattle.piece_steps.proofs.Pruning.{nothing_behind}
use Rattle.piece_steps.proofs.laws.nothing_is_kept_behind.Goals as goal

pub returns : goal.returns
returns c p cube number t steps d at fits none = nothing_behind p cube number t steps d (its_transition p number t at) fits none
