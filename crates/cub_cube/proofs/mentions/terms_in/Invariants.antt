use Rattle.std.proofs.Common.{◌≡◌, take}
use Rattle.cub_cube.specs.Mentions.{terms_in}
use Rattle.cub_cube.proofs.mentions.terms_in.Given as goal

abbrev pub invariant-loop-lit : goal.invariant-loop-lit
invariant-loop-lit l = l.terms.items ≡ terms_in (take l.lit-index l.lits)
