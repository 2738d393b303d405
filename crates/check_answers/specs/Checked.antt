-- What `check` answers to a protocol.
use Rattle.std.specs.Prelude.{◌≡◌, ◌≢◌, ◌⊎◌, ℕ, List, Option, Some, None}
use Rattle.cub_proto.specs.declared.budget.Budget.{Budget}
use Rattle.cub_proto.specs.declared.event.Plain.{Plain}
use Rattle.cub_proto.specs.declared.event.Trace.{Trace}
use Rattle.cub_proto.specs.declared.protocol.Protocol.{Protocol}
use Rattle.log_form.specs.declared.event.Mark.{Mark}
use Rattle.log_form.specs.Log.{LogValue}
use Rattle.trace_judge.specs.Judge.{IsAccepted}
use Rattle.trace_text.specs.Text.{trace_text}
use Rattle.trace_build.specs.Origins.{IsTraceOfNode}
use Rattle.journal_text.specs.Lawful.{IsUnknown}
use Rattle.journal_text.specs.Text.{text_of_log}
use Rattle.crew.specs.Search.{IsSearch}
use Rattle.check_answers.specs.Certified.{IsSafe}

-- 1 where the steps alone reach an unsafe state, 2 where processes crash on the way
abbrev pub unsafe_status : Option Plain → ℕ
unsafe_status None = 1
unsafe_status (Some plain) = 2

-- status 1 or 2: the trace of the bad node, which is a run to an unsafe state, with its crashes and where the steps alone fail
pub record IsUnsafe (log : LogValue) (status : ℕ) (text : List ℕ) : Type 0 where
  pub node : ℕ
  pub bad : log.mark ≡ Mark.Bad node
  pub trace : Trace
  pub of_node : IsTraceOfNode log.protocol log.nodes node trace
  pub run : IsAccepted log.protocol trace.start trace.events trace.goal trace.places trace.plain
  pub status_is : status ≡ unsafe_status trace.plain
  pub text_is : text ≡ trace_text log.protocol trace

-- status 3: the journal of the log, which spent a budget
pub record IsOpen (log : LogValue) (status : ℕ) (text : List ℕ) : Type 0 where
  pub unknown : IsUnknown log
  pub status_is : status ≡ 3
  pub text_is : text ≡ text_of_log log

-- what is printed of a log that has a verdict
abbrev pub TellsLog : ℕ → LogValue → ℕ → List ℕ → Type 0
TellsLog format log status text = IsSafe format log status text ⊎ (IsUnsafe log status text ⊎ IsOpen log status text)

-- the result of the search by one worker, whose log is legal and of this protocol and budget
pub record AnswersCheck (budget : Budget) (format : ℕ) (p : Protocol) (status : ℕ) (text : List ℕ) : Type 0 where
  pub log : LogValue
  pub search : IsSearch p budget log
  pub protocol : log.protocol ≡ p
  pub budget_is : log.budget ≡ budget
  pub tells : TellsLog format log status text

-- no run to an unsafe state is told
abbrev pub TellsNoRun : ℕ → Type 0
TellsNoRun status = (status ≢ 1) × (status ≢ 2)
