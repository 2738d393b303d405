use Rattle.std.proofs.Common.{◌≡◌, ◌++◌, take}
use Rattle.cub_proto.specs.StateOf.{signature_of}
use Rattle.updates.specs.Through.{branch_lits}
use Rattle.updates.proofs.step.push_branches.Given as goal

abbrev pub invariant-loop-choice : goal.invariant-loop-choice
invariant-loop-choice l = l.lits ≡ l.fn.lits ++ branch_lits (signature_of l.protocol) l.updates l.params (take l.choice-index l.choices) l.lit
