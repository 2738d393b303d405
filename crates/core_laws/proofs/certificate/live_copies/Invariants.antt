use Rattle.std.proofs.Common.{◌≡◌, take}
use Rattle.log_form.specs.Log.{live_cubes}
use Rattle.core_laws.proofs.certificate.live_copies.Given as goal

abbrev pub invariant-loop-node : goal.invariant-loop-node
invariant-loop-node l = l.cubes ≡ live_cubes (take l.node-index l.nodes)
