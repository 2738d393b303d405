use Rattle.std.proofs.Common.{take}
use Rattle.cert_check.specs.Injections.{IsReady, JointFollow}
use Rattle.cert_check.proofs.injections.joint_follow.Given as goal

abbrev pub invariant-loop-lit : goal.invariant-loop-lit
invariant-loop-lit l = record {
  ready : IsReady l.protocol l.width l.lits l.scratch;
  follow : JointFollow l.protocol (take l.lit-index l.big) l.width l.lits l.k l.places;
}
