use Rattle.std.proofs.Common.{◌≡◌, ◌++◌, drop, IsTrue}
use Rattle.cub_proto.specs.StateOf.{signature_of}
use Rattle.cub_cube.specs.Rename.{renamed_all}
use Rattle.updates.specs.Ways.{failing}
use Rattle.updates.specs.Allowed.{are_failures}
use Rattle.updates.proofs.ways.push_failing.Given as goal

abbrev pub invariant-loop-at : goal.invariant-loop-at
invariant-loop-at l = record {
  left : IsTrue (are_failures (drop l.at l.branches) (drop l.at l.fails));
  so_far : l.lits ++ renamed_all l.places (failing (signature_of l.protocol) (drop l.at l.branches) (drop l.at l.fails))
      ≡ l.fn.lits ++ renamed_all l.places (failing (signature_of l.protocol) l.branches l.fails);
}
