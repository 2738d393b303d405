-- What an expansion answers of the log before and after it.
use Rattle.std.specs.Prelude.{◌≡◌, ◌≢◌, ℕ, ◌+◌, ◌<◌, List, Option, Some, length}
use Rattle.log_form.specs.declared.node.Fate.{Fate}
use Rattle.log_form.specs.declared.event.Mark.{Mark}
use Rattle.log_form.specs.declared.event.LogEvent.{LogEvent}
use Rattle.log_form.specs.Pieces.{PieceRelation}
use Rattle.log_form.specs.Log.{LogValue, node_at}
use Rattle.log_form.specs.Legal.{Leads}
use Rattle.log_steps.specs.Commits.{live_count}
use Rattle.cube_core.specs.declared.outcome.Outcome.{Outcome}
use Rattle.cube_core.specs.declared.outcome.Outcome.TheVariants.{Stopped, WasCovered, WasDone, Wide, Full, Bad, Done}

-- one legal event leads from the one log to the other: the expansion of that node, or the roots
pub record LeadsBy (P : PieceRelation) (old : LogValue) (node : Option ℕ) (new : LogValue) : Type 0 where
  pub event : LogEvent
  pub its : event.node ≡ node
  pub leads : Leads P old event new

-- the right sides exclude one another, so each outcome stands exactly where it holds
abbrev pub Answers : PieceRelation → LogValue → ℕ → Outcome → LogValue → Type 0
Answers P old number (Stopped why) new = (old.mark ≡ why) × (why ≢ Mark.Going) × (new ≡ old)
Answers P old number (WasCovered by) new =
    (old.mark ≡ Mark.Going) × ((places : List ℕ) × ((node_at old.nodes number).fate ≡ Fate.Covered by places)) × (new ≡ old)
Answers P old number WasDone new = (old.mark ≡ Mark.Going) × ((node_at old.nodes number).fate ≡ Fate.Done) × (new ≡ old)
Answers P old number Wide new =
    (old.mark ≡ Mark.Going) × ((node_at old.nodes number).fate ≡ Fate.Waiting) × (old.budget.width < (node_at old.nodes number).cube.width)
    × (new ≡ old)
Answers P old number (Full needed) new = LeadsBy P old (Some number) new × (new.mark ≡ Mark.Full (Some number) needed)
Answers P old number (Bad node) new = LeadsBy P old (Some number) new × (new.mark ≡ Mark.Bad node)
Answers P old number (Done first added links) new =
    LeadsBy P old (Some number) new × (new.mark ≡ Mark.Going) × (first ≡ length old.nodes) × (length new.nodes ≡ first + added)
    × (live_count new.nodes + links ≡ live_count old.nodes + added)
