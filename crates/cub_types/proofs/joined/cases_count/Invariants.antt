use Rattle.std.proofs.Common.{◌≡◌, ◌≤◌, ◌+◌, drop, min}
use Rattle.cub_types.specs.Joined.{cases_count}
use Rattle.cub_types.proofs.joined.cases_count.Given as goal

abbrev pub invariant-loop-case : goal.invariant-loop-case
invariant-loop-case l = record {
  small : l.total ≤ 65;
  count : min 65 (l.total + cases_count (drop l.case-index l.cases)) ≡ min 65 (cases_count l.cases);
}
