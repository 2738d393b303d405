use Rattle.std.proofs.Common.{◌≡◌, ◌∷◌, [], ◌++◌, take}
use Rattle.cub_cube.specs.Rename.{renamed_all}
use Rattle.theory.proofs.scratch.push_at.Given as goal

abbrev pub invariant-loop-lit : goal.invariant-loop-lit
invariant-loop-lit l = l.all ≡ l.fn.all ++ renamed_all (l.q ∷ []) (take l.lit-index l.conj)
