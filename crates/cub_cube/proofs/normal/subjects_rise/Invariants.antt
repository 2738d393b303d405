use Rattle.std.proofs.Common.{◌≡◌, ◌-◌, drop}
use Rattle.cub_cube.proofs.Adjacent.{neighbours_rise}
use Rattle.cub_cube.proofs.normal.subjects_rise.Given as goal

abbrev pub invariant-loop-at : goal.invariant-loop-at
invariant-loop-at l = neighbours_rise (drop (l.at - 1) l.lits) ≡ neighbours_rise l.lits
