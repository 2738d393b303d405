-- Why a given event is not admitted.
use Rattle.std.specs.Prelude.{◌≡◌, ◌≢◌, ◌⊎◌, ℕ, ◌-◌, List, Some, None, length}
use Rattle.log_form.specs.declared.event.Mark.{Mark}
use Rattle.log_form.specs.declared.event.LogEvent.{LogEvent}
use Rattle.log_form.specs.declared.numbered.Numbered.{Numbered}
use Rattle.log_form.specs.Pieces.{PieceRelation}
use Rattle.log_form.specs.Log.{LogValue, cubes_of}
use Rattle.log_form.specs.Legal.{Treats, Leads}
use Rattle.log_steps.specs.Admitted.{IsFirstUnfit}
use Rattle.cube_core.specs.declared.fault.AdmitFault.{AdmitFault}

-- the event is no legal event on the log
abbrev pub IsIllegal : PieceRelation → LogValue → LogEvent → Type 0
IsIllegal P log event = (after : LogValue) → Leads P log event after → ⊥

-- the mark refuses the event, or its node, or its needed number
abbrev pub RefusesAll : PieceRelation → LogValue → LogEvent → Type 0
RefusesAll P log event = (log.mark ≢ Mark.Going) ⊎ (((list : List Numbered) → Treats P log event.node list → ⊥) ⊎ (event.needed ≢ 0))

-- an item of the event is the first unfit one for what the event treats, or a piece is lacking
pub record RefusesItem (P : PieceRelation) (log : LogValue) (event : LogEvent) (added : ℕ) : Type 0 where
  pub going : log.mark ≡ Mark.Going
  pub needed : event.needed ≡ 0
  pub list : List Numbered
  pub treats : Treats P log event.node list
  pub unfit : IsFirstUnfit log.protocol (cubes_of log.nodes) list event.added (log.budget.cubes - length log.nodes) added

-- a fault that names something names it rightly, and the event is illegal
abbrev pub NamesFault : PieceRelation → LogValue → LogEvent → AdmitFault → Type 0
NamesFault P log event (AdmitFault.Not None) = IsIllegal P log event × RefusesAll P log event
NamesFault P log event (AdmitFault.Not (Some added)) = IsIllegal P log event × RefusesItem P log event added
NamesFault P log event AdmitFault.Memory = Unit {0}
