use Rattle.std.proofs.Common.{◌≡◌, drop, option_map}
use Rattle.std.specs.Prelude.{find}
use Rattle.cub_types.specs.Joined.{last_of, is_for}
use Rattle.cub_types.proofs.joined.last_for.Given as goal

abbrev pub invariant-loop-w : goal.invariant-loop-w
invariant-loop-w l = option_map (λ w. last_of l.params w.aim w.last) (find (is_for l.target) (drop l.w-index l.kept)) ≡ option_map (λ w. last_of l.params w.aim w.last) (find (is_for l.target) l.kept)
