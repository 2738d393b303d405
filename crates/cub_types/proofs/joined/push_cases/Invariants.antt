use Rattle.std.proofs.Common.{◌≡◌, ◌++◌, take}
use Rattle.std.specs.List.{flat_map}
use Rattle.cub_types.specs.Joined.{case_branches}
use Rattle.cub_types.proofs.joined.push_cases.Given as goal

abbrev pub invariant-loop-case : goal.invariant-loop-case
invariant-loop-case l = l.branches ≡ l.fn.branches ++ flat_map (case_branches l.front) (take l.case-index l.cases)
