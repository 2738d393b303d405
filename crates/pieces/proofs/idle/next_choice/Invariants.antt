use Rattle.std.proofs.Common.{length, ◌-◌, ◌≡◌, ◌≤◌, drop}
use Rattle.pieces.specs.Jobs.{Stands, behind}
use Rattle.pieces.proofs.idle.next_choice.Given as goal

abbrev pub invariant-loop-next : goal.invariant-loop-next
invariant-loop-next l = record {
  later : l.fn.at ≤ l.next;
  there : l.next ≤ length l.fn.job.steps;
  stands : Stands l.fn.job (drop l.next l.fn.job.steps) l.fn.work;
  same : behind l.fn.job (drop l.fn.at l.fn.job.steps) l.fn.work ≡ behind l.fn.job (drop l.next l.fn.job.steps) l.fn.work;
}

abbrev pub decreases-loop-next : goal.decreases-loop-next
decreases-loop-next l = length l.job-inside.steps.now - l.next
