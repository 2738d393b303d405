-- A search by one worker.
use Rattle.std.specs.Prelude.{◌≡◌, ◌≢◌, ℕ, zero, suc, Some, None}
use Rattle.cub_proto.specs.declared.protocol.Protocol.{Protocol}
use Rattle.cub_proto.specs.declared.budget.Budget.{Budget}
use Rattle.log_form.specs.Log.{LogValue, no_log}
use Rattle.log_form.specs.Verdict.{verdict_of}
use Rattle.cube_form.specs.Form.{IsGivenForm}
use Rattle.cube_core.specs.Answers.{LeadsBy}
use Rattle.cube_core.specs.Chosen.{AreChosen}
use Rattle.cube_core.specs.Waiting.{IsLeastOpen}
use Rattle.predecessors.specs.Predecessors.{ArePieceCubes}

-- each node is the given form of the unsafe conjunction, or of the piece of a node, that its origin names
abbrev pub HasGivenForms : LogValue → Type 0
HasGivenForms log = AreChosen IsGivenForm ArePieceCubes log

-- the event of the least waiting node within the width leads from the one log to the other; nodes stay given forms
pub record ExpandsLeast (old new : LogValue) : Type 0 where
  pub node : ℕ
  pub least : IsLeastOpen old.budget old.nodes (Some node)
  pub leads : LeadsBy ArePieceCubes old (Some node) new
  pub forms : HasGivenForms old → HasGivenForms new

-- so many events lead from the one log to the other, each of the least waiting node
abbrev pub ExpandsTimes : LogValue → ℕ → LogValue → Type 0
ExpandsTimes old zero new = new ≡ old
ExpandsTimes old (suc times) new = (mid : LogValue) × ExpandsTimes old times mid × ExpandsLeast mid new

abbrev pub LeastFirst : LogValue → LogValue → Type 0
LeastFirst old new = (times : ℕ) × ExpandsTimes old times new

-- the log is that after the roots, gone on with until it had a verdict, all in given forms
pub record IsSearch (p : Protocol) (budget : Budget) (log : LogValue) : Type 0 where
  pub first : LogValue
  pub roots : LeadsBy ArePieceCubes (no_log p budget) None first
  pub forms : HasGivenForms first
  pub later : LeastFirst first log
  pub ended : verdict_of log ≢ None
