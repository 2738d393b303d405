use Rattle.std.proofs.Common.{take}
use Rattle.std.specs.Prelude.{Contains}
use Rattle.cub_cube.specs.declared.cube.Cube.{Cube}
use Rattle.cub_cube.specs.Cover.{DoesCover}
use Rattle.cert_check.specs.Injections.{IsReady, cube_of}
use Rattle.cert_check.proofs.covering.some_covers.Given as goal

abbrev pub invariant-loop-k : goal.invariant-loop-k
invariant-loop-k l = record {
  ready : IsReady l.protocol l.width l.lits l.scratch;
  none : (d : Cube) → Contains (take l.k l.cubes) d → DoesCover l.protocol d (cube_of l.width l.lits) → ⊥;
}
