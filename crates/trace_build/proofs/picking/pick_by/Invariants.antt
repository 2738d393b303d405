use Rattle.std.proofs.Common.{◌≡◌, drop}
use Rattle.piece_laws.specs.Event.{pick_by}
use Rattle.trace_build.proofs.picking.pick_by.Given as goal

abbrev pub invariant-loop-choice : goal.invariant-loop-choice
invariant-loop-choice l = pick_by (drop l.choice-index l.choices) l.processes l.slot ≡ pick_by l.choices l.processes l.slot
