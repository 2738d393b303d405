use Rattle.std.proofs.Common.{◌≡◌, ◌<◌, length}
use Rattle.std.specs.Prelude.{All, AllPairs}
use Rattle.std.specs.declared.cmp.Ordering.TheVariants.{Less}
use Rattle.cube_form.specs.Name.{place_cmp}
use Rattle.cube_form.proofs.naming.in_order.Given as goal

abbrev pub invariant-loop-place : goal.invariant-loop-place
invariant-loop-place l = record {
  size : length l.places ≡ l.place;
  rise : AllPairs (λ p q. place_cmp l.lits p q ≡ Less) l.places;
  below : All (λ p. p < l.place) l.places;
}
