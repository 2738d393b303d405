use Rattle.std.proofs.Common.{◌≡◌, drop}
use Rattle.replay.specs.Fault.{first_refused}
use Rattle.replay.proofs.fault_at.first_refused.Given as goal

abbrev pub invariant-loop-pick : goal.invariant-loop-pick
invariant-loop-pick l = first_refused l.state l.updates l.params (drop l.pick-index l.picks) ≡ first_refused l.state l.updates l.params l.picks
