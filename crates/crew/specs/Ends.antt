-- What a search ends with.
use Rattle.std.specs.Prelude.{◌≡◌, ℕ, ◌<◌, true, false, List, Some, length}
use Rattle.cub_proto.specs.declared.budget.Budget.{Budget}
use Rattle.log_form.specs.declared.node.Node.{Node}
use Rattle.log_form.specs.declared.event.Mark.{Mark}
use Rattle.log_form.specs.declared.verdicts.LogVerdict.{LogVerdict}
use Rattle.log_form.specs.Log.{LogValue, node_at}
use Rattle.log_form.specs.Verdict.{is_live_wide, verdict_of}
use Rattle.crew.specs.declared.ended.Ended.{Ended}
use Rattle.crew.specs.declared.ended.Ended.TheVariants.{Safe, Bad, Full, Wide}

abbrev pub log_of : Ended → LogValue
log_of (Safe log) = log
log_of (Bad log number) = log
log_of (Full log) = log
log_of (Wide log number) = log

-- no live node before that number is wider than the width budget
abbrev pub NoneWide : Budget → List Node → ℕ → Type 0
NoneWide budget nodes number = (i : ℕ) → i < number → is_live_wide budget (node_at nodes i) ≡ false

-- the first live node that is wider than the width budget
abbrev pub IsLeastWide : Budget → List Node → ℕ → Type 0
IsLeastWide budget nodes number = (number < length nodes) × (is_live_wide budget (node_at nodes number) ≡ true) × NoneWide budget nodes number

-- the verdict of the log, with the bad node or the first live wide one
abbrev pub TellsVerdict : Ended → Type 0
TellsVerdict (Safe log) = verdict_of log ≡ Some LogVerdict.Safe
TellsVerdict (Bad log number) = (verdict_of log ≡ Some LogVerdict.Unsafe) × (log.mark ≡ Mark.Bad number)
TellsVerdict (Full log) = verdict_of log ≡ Some LogVerdict.UnknownCubes
TellsVerdict (Wide log number) = (verdict_of log ≡ Some LogVerdict.UnknownWidth) × IsLeastWide log.budget log.nodes number
