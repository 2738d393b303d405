use Rattle.std.proofs.Common.{◌-◌, List, length}
use Rattle.cub_proto.specs.declared.protocol.Protocol.{Protocol}
use Rattle.cub_cube.specs.declared.cube.Cube.{Cube}
use Rattle.cert_check.specs.Obligations.{IsOwed}
use Rattle.cert_check.specs.Walked.{IsPast, HasCome}
use Rattle.cert_check.proofs.cursor.pass_over.Given as goal

abbrev pub invariant-loop-key : goal.invariant-loop-key
invariant-loop-key l = record {
  past : IsPast l.lines l.key l.cursor;
  come : (p : Protocol) (cubes : List Cube) → HasCome (IsOwed p cubes) l.lines l.key l.fn.cursor → HasCome (IsOwed p cubes) l.lines l.key l.cursor;
}

abbrev pub decreases-loop-key : goal.decreases-loop-key
decreases-loop-key l = length l.lines - l.cursor.at
