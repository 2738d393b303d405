use Rattle.cub_cube.proofs.KeptLemmas.{kept_from}
use Rattle.cub_base.proofs.Members.{contains_Has}
use Rattle.piece_choices.specs.Pieces.{candidates, IsPossible}
use Rattle.piece_choices.proofs.Limits.{piece_fits, piece_bounded}
use Rattle.piece_choices.proofs.Widths.{piece_wide}
use Rattle.piece_choices.proofs.laws.pieces_fit.Goals as goal

pub returns-clause-fit : goal.returns-clause-fit
returns-clause-fit c p cube pieces x fits are at =
    piece_fits p cube x fits (contains_Has (candidates p cube) x (kept_from (IsPossible p) (candidates p cube) pieces x are at).0)

pub returns-clause-wider : goal.returns-clause-wider
returns-clause-wider c p cube pieces x fits are at =
    piece_wide p cube x fits (contains_Has (candidates p cube) x (kept_from (IsPossible p) (candidates p cube) pieces x are at).0)

pub returns-clause-bounded : goal.returns-clause-bounded
returns-clause-bounded c p cube pieces x limit fits bounded large are at =
    piece_bounded p cube x limit fits bounded large (contains_Has (candidates p cube) x (kept_from (IsPossible p) (candidates p cube) pieces x are at).0)
