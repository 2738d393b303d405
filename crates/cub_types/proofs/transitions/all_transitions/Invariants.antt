use Rattle.std.proofs.Common.{◌≡◌, drop}
use Rattle.cub_names.specs.Checked.{first_of_all, appended}
use Rattle.cub_types.specs.Typing.{transitions_of}
use Rattle.cub_types.proofs.transitions.all_transitions.Given as goal

abbrev pub invariant-loop-rest : goal.invariant-loop-rest
invariant-loop-rest l = record {
  value : appended l.found (transitions_of l.names (drop l.rest-index l.rests)).value ≡ (transitions_of l.names l.rests).value;
  first : first_of_all l.first (transitions_of l.names (drop l.rest-index l.rests)).faults ≡ first_of_all l.fn.first (transitions_of l.names l.rests).faults;
}
