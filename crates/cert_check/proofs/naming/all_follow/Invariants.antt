use Rattle.std.proofs.Common.{take}
use Rattle.std.specs.Prelude.{Contains}
use Rattle.cub_proto.specs.declared.literal.Lit.{Lit}
use Rattle.cub_cube.specs.Rename.{renamed}
use Rattle.theory_laws.specs.Entailed.{Entails}
use Rattle.cert_check.specs.Injections.{IsReady}
use Rattle.cert_check.proofs.naming.all_follow.Given as goal

abbrev pub invariant-loop-lit : goal.invariant-loop-lit
invariant-loop-lit l = record {
  ready : IsReady l.protocol l.width l.lits l.scratch;
  follow : (lit : Lit) → Contains (take l.lit-index l.big) lit → Entails l.protocol l.width l.lits (renamed l.places lit);
}
