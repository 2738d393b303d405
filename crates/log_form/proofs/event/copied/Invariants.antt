use Rattle.std.proofs.Common.{◌≡◌, take}
use Rattle.log_form.proofs.event.copied.Given as goal

abbrev pub invariant-loop-added : goal.invariant-loop-added
invariant-loop-added l = l.copies ≡ take l.added-index l.list
