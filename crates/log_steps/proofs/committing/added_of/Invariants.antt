use Rattle.std.proofs.Common.{◌≡◌, take}
use Rattle.log_steps.specs.Commits.{kept_of}
use Rattle.log_steps.proofs.committing.added_of.Given as goal

abbrev pub invariant-loop-number : goal.invariant-loop-number
invariant-loop-number l = l.list ≡ kept_of l.picks (take l.number-index l.which)
