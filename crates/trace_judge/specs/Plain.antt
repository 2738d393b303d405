-- What a trace with crashes says of its steps alone.
use Rattle.std.specs.Prelude.{◌≡◌, ℕ, ◌+◌, Bool, true, false, not, ◌&&◌, ◌==◌, List, [], ◌∷◌, Option, Some, None, option_map, filter}
use Rattle.std.specs.List.{list_any}
use Rattle.std.specs.Option.{option_or}
use Rattle.cub_proto.specs.declared.protocol.Protocol.{Protocol}
use Rattle.cub_proto.specs.declared.event.Event.{Event}
use Rattle.cub_proto.specs.declared.event.Event.TheVariants.{Crash, Fire}
use Rattle.cub_proto.specs.declared.event.Plain.{Plain}
use Rattle.cub_proto.specs.Configuration.{Configuration}
use Rattle.cub_proto.specs.Legal.{after}
use Rattle.replay.specs.declared.fault.Refused.{Refused}
use Rattle.replay.specs.declared.fault.StepFault.{StepFault}
use Rattle.replay.specs.declared.fault.StepFault.TheVariants.{Dead, Equal, Guard, Other, Pick}
use Rattle.replay.specs.Fault.{fault_at}

abbrev pub is_step : Event → Bool
is_step (Crash process) = false
is_step (Fire number params picks) = true

abbrev pub refused_at : ℕ → StepFault → Refused
refused_at number fault = record { number = number; fault = fault }

-- the first fault of events that are made one by one, the first of them being counted as that number
abbrev pub first_fault : Protocol → Configuration → List Event → ℕ → Option Refused
first_fault p s [] number = None
first_fault p s (e ∷ es) number =
    option_or (option_map (refused_at number) (fault_at p s e)) (first_fault p (after p s e) es (number + 1))

-- the heading says that there are crashes exactly where there is one
abbrev pub heading_fits : Option Plain → List Event → Bool
heading_fits None events = not (list_any (λ e. not (is_step e)) events)
heading_fits (Some plain) events = list_any (λ e. not (is_step e)) events

-- the fault is of the universal guard, at that process
abbrev pub is_other : StepFault → ℕ → Bool
is_other (Other i) process = i == process
is_other (Dead i) process = false
is_other (Equal i) process = false
is_other Guard process = false
is_other (Pick slot) process = false

-- the first fault is at that step, in the universal guard, at that process
abbrev pub is_told : Option Refused → Plain → Bool
is_told None plain = false
is_told (Some refused) plain = refused.number == plain.step && is_other refused.fault plain.process

-- the steps alone fail first where the trace says
abbrev pub fails_plainly : Protocol → Configuration → List Event → Plain → Bool
fails_plainly p s events plain = is_told (first_fault p s (filter is_step events) 0) plain
