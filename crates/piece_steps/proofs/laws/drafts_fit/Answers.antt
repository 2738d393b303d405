use Rattle.cub_base.proofs.Members.{contains_Has}
use Rattle.cub_proto.specs.StateOf.{signature_of}
use Rattle.piece_choices.proofs.Fitting.{its_transition}
use Rattle.piece_steps.specs.Steps.{extend}
use Rattle.piece_steps.proofs.Pruning.{stays, first_fits}
use Rattle.piece_steps.proofs.laws.drafts_fit.Goals as goal

pub returns-clause-first : goal.returns-clause-first
returns-clause-first c = first_fits

pub returns-clause-next : goal.returns-clause-next
returns-clause-next c p cube number t step steps d e at fits inside =
    (stays p cube t (its_transition p number t at) step steps d e fits (contains_Has (extend (signature_of p) t cube.width step d) e inside)).fits
