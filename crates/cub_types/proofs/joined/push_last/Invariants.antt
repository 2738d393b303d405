use Rattle.std.proofs.Common.{◌≡◌, ◌++◌, ◌∷◌, [], map, take}
use Rattle.cub_types.proofs.joined.push_last.Given as goal

abbrev pub invariant-loop-lit : goal.invariant-loop-lit
invariant-loop-lit l = l.branches ≡ l.fn.branches ++ map (λ x. record { cond = x ∷ []; value = l.value }) (take l.lit-index l.front)
