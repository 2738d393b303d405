-- Outcomes as functions of what they are read from.
use Rattle.std.specs.Prelude.{ℕ, ◌-◌, nat_lt, Option, Some, None, if◌then◌else◌}
use Rattle.cub_proto.specs.declared.budget.Budget.{Budget}
use Rattle.log_form.specs.declared.node.Fate.{Fate}
use Rattle.log_form.specs.declared.node.Node.{Node}
use Rattle.log_form.specs.declared.event.Mark.{Mark}
use Rattle.cube_core.specs.declared.outcome.Outcome.{Outcome}

-- why a node of that width and fate is not expanded
abbrev pub refusal_by : Fate → ℕ → ℕ → Option Outcome
refusal_by (Fate.Covered by places) most width = Some (Outcome.WasCovered by)
refusal_by Fate.Done most width = Some Outcome.WasDone
refusal_by Fate.Waiting most width = if nat_lt most width then Some Outcome.Wide else None

-- why the node is not expanded; none where it may be
abbrev pub refusal : Mark → Budget → Node → Option Outcome
refusal Mark.Going budget n = refusal_by n.fate budget.width n.cube.width
refusal (Mark.Bad number) budget n = Some (Outcome.Stopped (Mark.Bad number))
refusal (Mark.Full number needed) budget n = Some (Outcome.Stopped (Mark.Full number needed))

-- the outcome of an event that left this mark
abbrev pub outcome_by : Mark → ℕ → ℕ → ℕ → Outcome
outcome_by Mark.Going links first count = Outcome.Done first (count - first) links
outcome_by (Mark.Bad number) links first count = Outcome.Bad number
outcome_by (Mark.Full number needed) links first count = Outcome.Full needed
