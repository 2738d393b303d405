-- The places of the text of a trace: what was read before, and which lines may stand next.
use Rattle.std.specs.Prelude.{◌≡◌, ℕ, ◌<◌, ◌≤◌, Bool, true, false, ◌||◌, nat_lt, if◌then◌else◌, ◌⊎◌, List, [], ◌∷◌, ◌++◌, length, take, replicate, Option, Some, None, Result, Err, codes, bytes_eq, IsTrue}
use Rattle.cub_proto.specs.declared.protocol.Protocol.{Protocol}
use Rattle.cub_proto.specs.declared.state.Slot.{Slot}
use Rattle.cub_proto.specs.declared.state.Val.{Val}
use Rattle.cub_proto.specs.declared.event.Event.{Event}
use Rattle.cub_proto.specs.declared.event.Plain.{Plain}
use Rattle.cub_proto.specs.declared.event.Trace.{Trace}
use Rattle.cub_proto.specs.Configuration.{Configuration, process_count}
use Rattle.replay.specs.Bound.{most_events}
use Rattle.replay.specs.FitsStart.{is_start_value}
use Rattle.text_lines.specs.Spelling.{entry_text}
use Rattle.text_lines.specs.Reading.{Reads, Continues}
use Rattle.trace_text.specs.declared.fault.TraceFault.{TraceFault}
use Rattle.trace_text.specs.declared.fault.TraceFault.TheVariants as faults
use Rattle.trace_text.specs.Text.{has_any, heading_text, version_text, count_text, event_text, goal_text, plain_text}
use Rattle.trace_text.specs.Lawful.{most_processes, is_lawful_event, is_lawful_goal, is_lawful_plain}

-- with what was read before: the heading, the version, the number of processes, the values of the start in order, the
-- events up to the unsafe line, the plain line, the line `end`, and nothing
pub data Place : Type 0 where
  Heading : Place
  Version : (crashes : Bool) → Place
  Count : (crashes : Bool) → Place
  Globals : (crashes : Bool) (n : ℕ) (read : List Val) → Place
  Cells : (crashes : Bool) (n : ℕ) (globals : List Val) (arrays : List (List Val)) (read : List Val) → Place
  Events : (crashes : Bool) (start : Configuration) (read : List Event) → Place
  PlainLine : (trace : Trace) → Place
  Closing : (trace : Trace) → Place
  Done : (trace : Trace) → Place

-- the start with these values
abbrev pub start_of : ℕ → List Val → List (List Val) → Configuration
start_of n globals arrays = record { living = replicate n true; globals = globals; arrays = arrays }

-- the place behind whole arrays
abbrev pub behind_arrays : Protocol → Bool → ℕ → List Val → List (List Val) → Place
behind_arrays p crashes n gs arrays =
    if nat_lt (length arrays) (length p.arrays) then Cells crashes n gs arrays [] else Events crashes (start_of n gs arrays) []

-- the place behind cells of an array
abbrev pub behind_cells : Protocol → Bool → ℕ → List Val → List (List Val) → List Val → Place
behind_cells p crashes n gs arrays read =
    if nat_lt (length read) n then Cells crashes n gs arrays read else behind_arrays p crashes n gs (arrays ++ read ∷ [])

-- the place behind globals
abbrev pub behind_globals : Protocol → Bool → ℕ → List Val → Place
behind_globals p crashes n read =
    if nat_lt (length read) (length p.globals) then Globals crashes n read else behind_arrays p crashes n read []

abbrev pub trace_of : Configuration → List Event → ℕ → List ℕ → Option Plain → Trace
trace_of start es goal places plain_line = record { start = start; events = es; goal = goal; places = places; plain = plain_line }

-- the place behind the unsafe line: under the heading with crashes a plain line follows
abbrev pub behind_goal : Bool → Configuration → List Event → ℕ → List ℕ → Place
behind_goal true start es goal places = PlainLine (trace_of start es goal places None)
behind_goal false start es goal places = Closing (trace_of start es goal places None)

-- the value that the line gives to the slot at hand, where there are n processes
pub record TakesValue (p : Protocol) (n : ℕ) (slot : Slot) (line : List ℕ) (v : Val) : Type 0 where
  pub few : n ≤ most_processes
  pub fits : IsTrue (is_start_value p n slot v)
  pub text : line ≡ entry_text p slot v

-- a number of processes
pub record TakesCount (line : List ℕ) (n : ℕ) : Type 0 where
  pub some : 0 < n
  pub few : n ≤ most_processes
  pub text : line ≡ count_text n

-- an event
pub record TakesEvent (p : Protocol) (n : ℕ) (line : List ℕ) (e : Event) : Type 0 where
  pub few : n ≤ most_processes
  pub lawful : IsTrue (is_lawful_event p n e)
  pub text : line ≡ event_text p e

-- an unsafe conjunction and its processes
pub record TakesGoal (p : Protocol) (n : ℕ) (line : List ℕ) (goal : ℕ) (places : List ℕ) : Type 0 where
  pub few : n ≤ most_processes
  pub lawful : IsTrue (is_lawful_goal p n goal places)
  pub text : line ≡ goal_text goal places

-- where the steps alone fail
pub record TakesPlain (n : ℕ) (es : List Event) (line : List ℕ) (at : Plain) : Type 0 where
  pub few : n ≤ most_processes
  pub early : at.step < most_events
  pub lawful : IsTrue (is_lawful_plain n es at)
  pub text : line ≡ plain_text at

-- the line may stand at the place, and leads to another place
abbrev pub takes : Protocol → Place → List ℕ → Place → Type 0
takes p Heading line q = (crashes : Bool) × (line ≡ heading_text crashes) × (q ≡ Version crashes)
takes p (Version crashes) line q = (line ≡ version_text (has_any p)) × (q ≡ Count crashes)
takes p (Count crashes) line q = (n : ℕ) × TakesCount line n × (q ≡ behind_globals p crashes n [])
takes p (Globals crashes n read) line q =
    (v : Val) × TakesValue p n (Slot.Global (length read)) line v × (q ≡ behind_globals p crashes n (read ++ v ∷ []))
takes p (Cells crashes n gs arrays read) line q =
    (v : Val) × TakesValue p n (Slot.Cell (length arrays) (length read)) line v × (q ≡ behind_cells p crashes n gs arrays (read ++ v ∷ []))
takes p (Events crashes start read) line q =
    ((e : Event) × TakesEvent p (process_count start) line e × (length read < most_events) × (q ≡ Events crashes start (read ++ e ∷ [])))
    ⊎ ((goal : ℕ) × (places : List ℕ) × TakesGoal p (process_count start) line goal places × (q ≡ behind_goal crashes start read goal places))
takes p (PlainLine t) line q =
    (at : Plain) × TakesPlain (process_count t.start) t.events line at × (q ≡ Closing (trace_of t.start t.events t.goal t.places (Some at)))
takes p (Closing t) line q = (line ≡ codes "end") × (q ≡ Done t)
takes p (Done t) line q = ⊥

-- the trace that was read where the text may end
abbrev pub trace_at : Place → Option Trace
trace_at Heading = None
trace_at (Version crashes) = None
trace_at (Count crashes) = None
trace_at (Globals crashes n read) = None
trace_at (Cells crashes n gs arrays read) = None
trace_at (Events crashes start read) = None
trace_at (PlainLine t) = None
trace_at (Closing t) = None
trace_at (Done t) = Some t

-- the word stands at the front
abbrev pub begins : List ℕ → List ℕ → Bool
begins front text = bytes_eq (take (length front) text) front

-- what reads as an event
abbrev pub begins_event : List ℕ → Bool
begins_event text = begins (codes "step ") text || begins (codes "crash ") text

-- the kind of a fault at a place: S1 the heading and the version, S2 the number of processes, S3 a start value, S4 an event,
-- S5 a closing line, S6 bytes behind the end. A line at the place of an event that begins as none is a closing line.
abbrev pub kind_at : Place → List ℕ → ℕ
kind_at Heading text = 1
kind_at (Version crashes) text = 1
kind_at (Count crashes) text = 2
kind_at (Globals crashes n read) text = 3
kind_at (Cells crashes n gs arrays read) text = 3
kind_at (Events crashes start read) text = if begins_event text then 4 else 5
kind_at (PlainLine t) text = 5
kind_at (Closing t) text = 5
kind_at (Done t) text = 6

-- from a place and a line on the text is the text of a trace, or has its first fault
abbrev pub TraceReads : Protocol → Place → ℕ → List ℕ → Result Trace (ℕ × ℕ) → Type 0
TraceReads p place n text o = Reads (takes p) trace_at kind_at place n text o

-- the reading that goes on from q is that from `place`
abbrev pub GoesOn : Protocol → Place → ℕ → List ℕ → Place → ℕ → List ℕ → Type 0
GoesOn p q m rest place n text = Continues (takes p) trace_at kind_at q m rest place n text

-- what was answered is the fault of the text, unless memory ran out
abbrev pub IsFaultOf : Protocol → Place → ℕ → List ℕ → TraceFault → Type 0
IsFaultOf p place n text (faults.Fault line kind) = TraceReads p place n text (Err (line, kind))
IsFaultOf p place n text faults.Memory = Unit {0}
