use Rattle.std.proofs.Common.{◌≡◌, ℕ, ℤ, List, ◌<◌, ◌≤◌, drop}
use Rattle.cub_proto.specs.declared.literal.Term.{Term}
use Rattle.theory_laws.specs.Chosen.{needed, needed_from}
use Rattle.theory.specs.Loaded.{table_values}
use Rattle.theory.proofs.chosen.processes_needed.Given as goal

abbrev pub invariant-loop-g : goal.invariant-loop-g
invariant-loop-g l = record {
  sum : (masks : List ℕ) (w : Term → ℤ) → needed_from (table_values masks l.classes w) l.most l.g (drop l.g l.protocol.globals) ≡ needed l.protocol l.width (table_values masks l.classes w);
  few : l.most ≤ 256;
  some : 0 < l.most;
}
