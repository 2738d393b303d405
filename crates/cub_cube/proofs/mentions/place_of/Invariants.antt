use Rattle.std.proofs.Common.{◌≡◌, ℕ, ◌<◌, get_or}
use Rattle.std.specs.declared.cmp.Ordering.TheVariants.{Greater}
use Rattle.cub_proto.specs.Order.{term_cmp}
use Rattle.cub_cube.proofs.mentions.place_of.Given as goal

abbrev pub invariant-loop-place : goal.invariant-loop-place
invariant-loop-place l = (k : ℕ) → k < l.place → term_cmp l.term (get_or l.terms k l.term) ≡ Greater
