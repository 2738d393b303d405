-- The lines of answers.
use Rattle.std.specs.Prelude.{ℕ, ◌+◌, not, List, [], ◌++◌, codes, count_by, slice_get}
use Rattle.std.specs.Option.{option_map_or}
use Rattle.std.specs.Fmt.{decimal}
use Rattle.cub_proto.specs.declared.protocol.Protocol.{Protocol}
use Rattle.cub_proto.specs.declared.protocol.Decl.{Decl}
use Rattle.cub_proto.specs.declared.event.Event.{Event}
use Rattle.cub_proto.specs.declared.state.Slot.{Slot}
use Rattle.cub_proto.specs.declared.state.Slot.TheVariants as Slot
use Rattle.replay.specs.declared.fault.StepFault.{StepFault}
use Rattle.replay.specs.declared.fault.StepFault.TheVariants.{Dead, Equal, Guard, Other, Pick}
use Rattle.trace_judge.specs.declared.judge.Refusal.{Refusal}
use Rattle.trace_judge.specs.declared.judge.Refusal.TheVariants.{NoStart, NoStep, NoGoal, NoHeading, NoPlain, Memory}
use Rattle.trace_judge.specs.Plain.{is_step}

-- refused words: a code, and the number of the word
abbrev pub words_line : List ℕ → ℕ → List ℕ
words_line code number = codes "WORDS " ++ code ++ codes " at " ++ decimal number ++ codes "\n"

-- a refused protocol: a code and a place
abbrev pub place_line : List ℕ → ℕ → ℕ → List ℕ
place_line code line column =
    codes "REFUSED " ++ code ++ codes " at " ++ decimal line ++ codes ":" ++ decimal column ++ codes "\n"

-- a refused text of a result: a code and a line
abbrev pub form_line : List ℕ → ℕ → List ℕ
form_line code line = codes "REFUSED " ++ code ++ codes " at line " ++ decimal line ++ codes "\n"

-- a process, counted from 1
abbrev pub process_words : ℕ → List ℕ
process_words i = codes "#" ++ decimal (i + 1)

-- the name of the declaration with that number
abbrev pub name_at : List Decl → ℕ → List ℕ
name_at decls n = option_map_or (λ d. d.name) (slice_get decls n) []

abbrev pub slot_words : Protocol → Slot → List ℕ
slot_words p (Slot.Global g) = name_at p.globals g
slot_words p (Slot.Cell a i) = name_at p.arrays a ++ codes "[" ++ process_words i ++ codes "]"

-- the fault of an event
abbrev pub fault_words : Protocol → StepFault → List ℕ
fault_words p (Dead i) = codes "dead " ++ process_words i
fault_words p (Equal i) = codes "equal " ++ process_words i
fault_words p Guard = codes "guard"
fault_words p (Other i) = codes "other " ++ process_words i
fault_words p (Pick slot) = codes "pick " ++ slot_words p slot

-- why a trace is refused; events count from 1
abbrev pub refusal_words : Protocol → Refusal → List ℕ
refusal_words p (NoStart i) = codes "start " ++ process_words i
refusal_words p (NoStep refused) = codes "event " ++ decimal (refused.number + 1) ++ codes ": " ++ fault_words p refused.fault
refusal_words p NoGoal = codes "unsafe"
refusal_words p NoHeading = codes "heading"
refusal_words p NoPlain = codes "plain"
refusal_words p Memory = []

abbrev pub refusal_line : Protocol → Refusal → List ℕ
refusal_line p refusal = codes "REFUSED " ++ refusal_words p refusal ++ codes "\n"

-- an accepted trace: how many steps and crashes it has
abbrev pub replays_line : List Event → List ℕ
replays_line events =
    codes "REPLAYS steps " ++ decimal (count_by is_step events) ++ codes " crashes " ++ decimal (count_by (λ e. not (is_step e)) events) ++ codes "\n"
