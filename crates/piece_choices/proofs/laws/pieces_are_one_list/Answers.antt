use Rattle.cub_cube.proofs.KeptLemmas.{kept_unique, kept_from, kept_has}
use Rattle.piece_choices.specs.Pieces.{candidates, IsPossible}
use Rattle.piece_choices.proofs.laws.pieces_are_one_list.Goals as goal

pub returns-clause-one : goal.returns-clause-one
returns-clause-one c p cube xs ys first second = kept_unique (IsPossible p) (candidates p cube) xs ys first second

pub returns-clause-inside : goal.returns-clause-inside
returns-clause-inside c p cube pieces x are =
    (λ at. kept_from (IsPossible p) (candidates p cube) pieces x are at, λ both. kept_has (IsPossible p) (candidates p cube) pieces x are both.0 both.1)
