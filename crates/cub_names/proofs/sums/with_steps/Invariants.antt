use Rattle.std.proofs.Common.{◌≡◌, ◌≤◌, drop}
use Rattle.std.specs.Prelude.{unsigned_abs}
use Rattle.cub_names.specs.Checked.{first_of_all}
use Rattle.cub_names.specs.Sides.{with_steps}
use Rattle.cub_names.proofs.sums.with_steps.Given as goal

abbrev pub invariant-loop-step : goal.invariant-loop-step
invariant-loop-step l = record {
  small : unsigned_abs l.so_far.total ≤ 1000000000;
  value : (with_steps l.names l.scope l.so_far (drop l.step-index l.steps)).summed ≡ (with_steps l.names l.scope l.fn.s l.steps).summed;
  first : first_of_all l.first (with_steps l.names l.scope l.so_far (drop l.step-index l.steps)).faults ≡ first_of_all l.fn.first (with_steps l.names l.scope l.fn.s l.steps).faults;
}
