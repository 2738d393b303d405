use Rattle.std.proofs.Common.{◌≡◌, ◌≤◌, drop}
use Rattle.cub_names.specs.Checked.{first_of_all, appended}
use Rattle.cub_types.specs.Bodies.{goals_from}
use Rattle.cub_types.proofs.bodies.all_goals.Given as goal

abbrev pub invariant-loop-rest : goal.invariant-loop-rest
invariant-loop-rest l = record {
  small : l.total ≤ 4097;
  value : appended l.found (goals_from l.names l.total (drop l.rest-index l.rests)).value ≡ (goals_from l.names 0 l.rests).value;
  first : first_of_all l.first (goals_from l.names l.total (drop l.rest-index l.rests)).faults ≡ first_of_all l.fn.first (goals_from l.names 0 l.rests).faults;
}
