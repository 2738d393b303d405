use Rattle.std.proofs.Common.{◌≡◌, take}
use Rattle.cub_types.specs.Joined.{branches_for}
use Rattle.cub_types.proofs.joined.branches_for.Given as goal

abbrev pub invariant-loop-w : goal.invariant-loop-w
invariant-loop-w l = l.branches ≡ branches_for l.params l.target (take l.w-index l.kept)
