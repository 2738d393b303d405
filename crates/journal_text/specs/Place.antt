-- The places of the text of a journal: what was read before, and which lines may stand next.
use Rattle.std.specs.Prelude.{◌≡◌, ℕ, ◌+◌, ◌<◌, ◌≤◌, ◌^◌, Bool, true, false, ◌⊎◌, List, [], ◌∷◌, ◌++◌, length, Option, Some, None, Result, Err, codes}
use Rattle.cub_proto.specs.declared.protocol.Protocol.{Protocol}
use Rattle.cub_proto.specs.declared.budget.Budget.{Budget}
use Rattle.log_form.specs.declared.event.Mark.{Mark}
use Rattle.log_form.specs.declared.event.Added.{Added}
use Rattle.log_form.specs.declared.event.LogEvent.{LogEvent}
use Rattle.log_form.specs.declared.numbered.Numbered.{Numbered}
use Rattle.log_form.specs.declared.verdicts.LogVerdict.TheVariants.{UnknownWidth}
use Rattle.log_form.specs.Pieces.{PieceRelation}
use Rattle.log_form.specs.Log.{LogValue, no_log, cubes_of}
use Rattle.log_form.specs.Legal.{Treats, Leads, IsLegalLog}
use Rattle.log_form.specs.Verdict.{verdict_of}
use Rattle.log_steps.specs.Admitted.{AddsSome}
use Rattle.cube_core.specs.Admits.{IsIllegal}
use Rattle.text_lines.specs.Reading.{Reads, Continues}
use Rattle.cube_text.specs.Reading.{IsLawful}
use Rattle.journal_text.specs.declared.look.Look.{Look}
use Rattle.journal_text.specs.declared.look.Look.TheVariants.{Formless, Faulty, Item, Expand, Roots, Closing}
use Rattle.journal_text.specs.declared.fault.JournalFault.{JournalFault}
use Rattle.journal_text.specs.declared.fault.JournalFault.TheVariants as faults
use Rattle.journal_text.specs.Text.{heading_text, version_text, budget_text, item_text, expand_text, full_text, wide_text, least_wide}
use Rattle.journal_text.specs.Form.{widest, look_of}

-- with what was read before: the heading, the version, the budget line, added cubes of an event on a log (of the roots, or of
-- a node), a closing line with the log that it closes, the line `end`
pub data Place : Type 0 where
  Heading : Place
  Version : (full : Bool) → Place
  BudgetLine : (full : Bool) → Place
  Adding : (full : Bool) (log : LogValue) (node : Option ℕ) (added : List Added) → Place
  Ending : (log : LogValue) → Place
  Done : (log : LogValue) → Place

-- the event that adds these, and does not fill the log
abbrev pub event_of : Option ℕ → List Added → LogEvent
event_of node added = record { node = node; added = added; needed = 0 }

-- the event that fills the log
abbrev pub full_event : Option ℕ → ℕ → LogEvent
full_event node needed = record { node = node; added = []; needed = needed }

-- the event is legal on the log, and makes this legal log of it
pub record Makes (P : PieceRelation) (log : LogValue) (event : LogEvent) (next : LogValue) : Type 0 where
  pub leads : Leads P log event next
  pub legal : IsLegalLog P next

-- a cube more of the event: with it the cubes are a front of a list that the event may add, and there is room for them
pub record TakesItem (P : PieceRelation) (log : LogValue) (node : Option ℕ) (added : List Added) (line : List ℕ) (a : Added) : Type 0 where
  pub text : line ≡ item_text log.protocol node a
  pub lawful : IsLawful log.protocol widest a.cube
  pub early : a.piece < 2 ^ 64
  pub list : List Numbered
  pub treats : Treats P log node list
  pub adds : AddsSome log.protocol (cubes_of log.nodes) list (added ++ a ∷ [])
  pub room : length log.nodes + length (added ++ a ∷ []) ≤ log.budget.cubes

-- the expansion of a node that may be expanded
pub record TakesExpand (P : PieceRelation) (log : LogValue) (line : List ℕ) (node : ℕ) : Type 0 where
  pub text : line ≡ expand_text node
  pub going : log.mark ≡ Mark.Going
  pub list : List Numbered
  pub treats : Treats P log (Some node) list

-- the expansion of the node, or of the roots, fills the log
pub record TakesFull (P : PieceRelation) (full : Bool) (log : LogValue) (node : Option ℕ) (needed : ℕ) (last : LogValue) (line : List ℕ) : Type 0 where
  pub heading : full ≡ true
  pub text : line ≡ full_text node needed
  pub early : needed < 2 ^ 64
  pub makes : Makes P log (full_event node needed) last
  pub mark : last.mark ≡ Mark.Full node needed

-- the log is finished, with wide nodes
pub record TakesWide (full : Bool) (log : LogValue) (line : List ℕ) : Type 0 where
  pub heading : full ≡ false
  pub verdict : verdict_of log ≡ Some UnknownWidth
  pub text : line ≡ wide_text (least_wide log.budget log.nodes)

-- the line closes the log: a node fills it, or it is finished
abbrev pub Closes : PieceRelation → Bool → LogValue → List ℕ → LogValue → Type 0
Closes P full log line last =
    ((node needed : ℕ) × TakesFull P full log (Some node) needed last line) ⊎ (TakesWide full log line × (last ≡ log))

-- what may stand behind a whole event that made this log
abbrev pub TakesNext : PieceRelation → Bool → LogValue → List ℕ → Place → Type 0
TakesNext P full log line q =
    ((node : ℕ) × TakesExpand P log line node × (q ≡ Adding full log (Some node) []))
    ⊎ ((last : LogValue) × Closes P full log line last × (q ≡ Ending last))

-- the roots, of which no line was read, fill the log
abbrev pub TakesRoots : PieceRelation → Bool → LogValue → Option ℕ → List Added → List ℕ → Place → Type 0
TakesRoots P full log (Some node) added line q = ⊥
TakesRoots P full log None (a ∷ added) line q = ⊥
TakesRoots P full log None [] line q = (needed : ℕ) × (last : LogValue) × TakesFull P full log None needed last line × (q ≡ Ending last)

-- the line may stand at the place, and leads to another place
abbrev pub takes : PieceRelation → Protocol → Place → List ℕ → Place → Type 0
takes P p Heading line q = (full : Bool) × (line ≡ heading_text full) × (q ≡ Version full)
takes P p (Version full) line q = (line ≡ version_text) × (q ≡ BudgetLine full)
takes P p (BudgetLine full) line q = (budget : Budget) × (line ≡ budget_text budget) × (q ≡ Adding full (no_log p budget) None [])
takes P p (Adding full log from added) line q =
    ((a : Added) × TakesItem P log from added line a × (q ≡ Adding full log from (added ++ a ∷ [])))
    ⊎ (((next : LogValue) × Makes P log (event_of from added) next × TakesNext P full next line q)
    ⊎ TakesRoots P full log from added line q)
takes P p (Ending log) line q = (line ≡ codes "end") × (q ≡ Done log)
takes P p (Done log) line q = ⊥

-- the log that was read where the text may end
abbrev pub log_at : Place → Option LogValue
log_at Heading = None
log_at (Version full) = None
log_at (BudgetLine full) = None
log_at (Adding full log from added) = None
log_at (Ending log) = None
log_at (Done log) = Some log

-- where the reading stops, and what stands there
abbrev pub Stop : Type 0
Stop = Place × List ℕ

abbrev pub stop_at : Place → List ℕ → Stop
stop_at place text = (place, text)

-- from a place and a line on the text is the journal of a log, or its first faulty line is where the reading stops
abbrev pub JournalReads : PieceRelation → Protocol → Place → ℕ → List ℕ → Result LogValue (ℕ × Stop) → Type 0
JournalReads P p place n text o = Reads (takes P p) log_at stop_at place n text o

-- the reading that goes on from q is that from `place`
abbrev pub GoesOn : PieceRelation → Protocol → Place → ℕ → List ℕ → Place → ℕ → List ℕ → Type 0
GoesOn P p q m rest place n text = Continues (takes P p) log_at stop_at q m rest place n text

-- J4 where the event is not whole, else J5
abbrev pub IsClosingKind : PieceRelation → LogValue → LogEvent → ℕ → Type 0
IsClosingKind P log event kind = (IsIllegal P log event × (kind ≡ 4)) ⊎ (((next : LogValue) × Leads P log event next) × (kind ≡ 5))

-- a line that says that the roots fill the log is J5 where it stands for them
abbrev pub IsRootsKind : PieceRelation → LogValue → Option ℕ → List Added → ℕ → Type 0
IsRootsKind P log (Some node) added kind = IsClosingKind P log (event_of (Some node) added) kind
IsRootsKind P log None (a ∷ added) kind = IsClosingKind P log (event_of None (a ∷ added)) kind
IsRootsKind P log None [] kind = kind ≡ 5

-- J2 a line without form, J3 a fault of a cube, J4 a line that makes the event not legal
abbrev pub IsLookKind : PieceRelation → LogValue → Option ℕ → List Added → Look → ℕ → Type 0
IsLookKind P log from added Formless kind = kind ≡ 2
IsLookKind P log from added Faulty kind = kind ≡ 3
IsLookKind P log from added Item kind = kind ≡ 4
IsLookKind P log from added Expand kind = kind ≡ 4
IsLookKind P log from added Roots kind = IsRootsKind P log from added kind
IsLookKind P log from added Closing kind = IsClosingKind P log (event_of from added) kind

-- the kind of the fault where the reading stops: J1 the heading, the version and the budget, J5 the end
abbrev pub IsKindAt : PieceRelation → Place → List ℕ → ℕ → Type 0
IsKindAt P Heading text kind = kind ≡ 1
IsKindAt P (Version full) text kind = kind ≡ 1
IsKindAt P (BudgetLine full) text kind = kind ≡ 1
IsKindAt P (Adding full log from added) text kind = IsLookKind P log from added (look_of log.protocol from text) kind
IsKindAt P (Ending log) text kind = kind ≡ 5
IsKindAt P (Done log) text kind = kind ≡ 5

-- the reading stops at this line, with a fault of this kind
pub record StopsAt (P : PieceRelation) (p : Protocol) (place : Place) (n : ℕ) (text : List ℕ) (line kind : ℕ) : Type 0 where
  pub at : Place
  pub rest : List ℕ
  pub reads : JournalReads P p place n text (Err (line, (at, rest)))
  pub its : IsKindAt P at rest kind

-- what was answered is the fault of the text, unless memory ran out
abbrev pub IsFaultOf : PieceRelation → Protocol → Place → ℕ → List ℕ → JournalFault → Type 0
IsFaultOf P p place n text (faults.Fault line kind) = StopsAt P p place n text line kind
IsFaultOf P p place n text faults.Memory = Unit {0}

-- the fault is at that line, of that kind, unless memory ran out
abbrev pub IsAt : JournalFault → ℕ → ℕ → Type 0
IsAt fault line kind = (fault ≡ faults.Memory) ⊎ (fault ≡ faults.Fault line kind)
