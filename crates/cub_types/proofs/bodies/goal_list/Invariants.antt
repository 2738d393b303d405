use Rattle.std.proofs.Common.{◌≡◌, map}
use Rattle.cub_types.specs.Bodies.{goal}
use Rattle.cub_types.proofs.bodies.goal_list.Given as goals

abbrev pub invariant-loop-lits : goals.invariant-loop-lits
invariant-loop-lits l = l.goals ≡ map (goal l.width) l.yielded
