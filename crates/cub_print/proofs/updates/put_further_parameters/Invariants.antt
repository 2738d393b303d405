use Rattle.std.proofs.Common.{◌≡◌, ◌++◌, ◌∷◌, [], ◌-◌}
use Rattle.std.specs.Prelude.{flat_map}
use Rattle.std.specs.List.{range_with_len}
use Rattle.cub_print.specs.Mark.{spelled, blank, name}
use Rattle.cub_print.specs.Terms.{place_name}
use Rattle.cub_print.proofs.updates.put_further_parameters.Given as goal

abbrev pub invariant-loop-place : goal.invariant-loop-place
invariant-loop-place l = l.out ≡ l.initial.out ++ spelled (flat_map (λ place. blank ∷ name (place_name l.params place) ∷ []) (range_with_len 1 (l.place - 1)))
