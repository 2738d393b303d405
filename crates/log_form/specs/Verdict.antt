-- When a log is finished, and its verdict.
use Rattle.std.specs.Prelude.{Bool, ◌&&◌, nat_lt, nat_le, List, Option, Some, None, if◌then◌else◌}
use Rattle.std.specs.List.{list_any}
use Rattle.cub_proto.specs.declared.budget.Budget.{Budget}
use Rattle.log_form.specs.declared.node.Node.{Node}
use Rattle.log_form.specs.declared.event.Mark.{Mark}
use Rattle.log_form.specs.declared.verdicts.LogVerdict.{LogVerdict}
use Rattle.log_form.specs.declared.verdicts.LogVerdict.TheVariants.{Unsafe, UnknownCubes, UnknownWidth, Safe}
use Rattle.log_form.specs.Fates.{is_live, is_waiting}
use Rattle.log_form.specs.Log.{LogValue}

-- the node waits and is within the width
abbrev pub is_open : Budget → Node → Bool
is_open budget n = is_waiting n.fate && nat_le n.cube.width budget.width

-- the node is live and wider than the width budget
abbrev pub is_live_wide : Budget → Node → Bool
is_live_wide budget n = is_live n.fate && nat_lt budget.width n.cube.width

-- a log that is going is finished where no node is open, and safe where then no live one is wide
abbrev pub verdict_going : Budget → List Node → Option LogVerdict
verdict_going budget nodes =
    if list_any (is_open budget) nodes then None else (if list_any (is_live_wide budget) nodes then Some UnknownWidth else Some Safe)

-- the verdict of a log with this mark, budget and nodes
abbrev pub verdict_by : Mark → Budget → List Node → Option LogVerdict
verdict_by (Mark.Bad number) budget nodes = Some Unsafe
verdict_by (Mark.Full number needed) budget nodes = Some UnknownCubes
verdict_by Mark.Going budget nodes = verdict_going budget nodes

abbrev pub verdict_of : LogValue → Option LogVerdict
verdict_of log = verdict_by log.mark log.budget log.nodes
