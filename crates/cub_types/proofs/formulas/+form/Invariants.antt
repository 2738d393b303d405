use Rattle.std.proofs.Common.{◌≡◌, drop, map}
use Rattle.cub_names.specs.Checked.{first_of_all, each, appended}
use Rattle.cub_types.specs.Formulas.{form}
use Rattle.cub_types.proofs.formulas.+form.Given as goal

-- what is known so far before what is to come is all
abbrev pub invariant-typed_forms-loop-node : goal.invariant-typed_forms-loop-node
invariant-typed_forms-loop-node l = record {
  value : appended l.found (each (map (form l.init l.names l.scope) (drop l.node-index l.nodes))).value ≡ (each (map (form l.init l.names l.scope) l.nodes)).value;
  first : first_of_all l.first (each (map (form l.init l.names l.scope) (drop l.node-index l.nodes))).faults ≡ first_of_all l.fn.first (each (map (form l.init l.names l.scope) l.nodes)).faults;
}
