use Rattle.std.proofs.Common.{◌≡◌, take}
use Rattle.cub_dnf.specs.Lists.{joins}
use Rattle.cub_dnf.proofs.measured.products.Given as goal

abbrev pub invariant-loop-conj : goal.invariant-loop-conj
invariant-loop-conj l = l.list ≡ joins (take l.conj-index l.left) l.right
