use Rattle.std.proofs.Common.{◌≡◌, ℕ, ◌-◌, [], ◌∷◌, map}
use Rattle.std.specs.List.{range_with_len}
use Rattle.sample_gen.specs.Sample.{is_on, is_not_on, step}
use Rattle.sample_gen.proofs.steps.transitions.Given as goal

abbrev pub invariant-loop-from : goal.invariant-loop-from
invariant-loop-from l =
    l.list ≡ step ((is_on 1 0 ∷ []) ∷ []) 0 ∷ step ((is_not_on l.top 1 1 ∷ []) ∷ []) 1 ∷ map (step ([] ∷ [])) (range_with_len 2 (l.from - 2))
