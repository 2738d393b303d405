use Rattle.std.proofs.Common.{◌≡◌, ◌++◌, take}
use Rattle.cub_cube.specs.Rename.{renamed_all}
use Rattle.updates.proofs.ways.push_renamed.Given as goal

abbrev pub invariant-loop-lit : goal.invariant-loop-lit
invariant-loop-lit l = l.lits ≡ l.fn.lits ++ renamed_all l.places (take l.lit-index l.more)
