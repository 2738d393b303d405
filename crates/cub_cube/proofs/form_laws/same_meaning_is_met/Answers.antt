use Rattle.cub_cube.proofs.Bounds.{same_meets, same_back}
use Rattle.cub_cube.proofs.form_laws.same_meaning_is_met.Goals as goal

pub returns : goal.returns
returns c p width lits others same s state = (same_meets p width lits others same s state, same_meets p width others lits (same_back p width lits others same) s state)
