-- What the lines of a trace tell when only their words are looked at.
use Rattle.std.specs.Prelude.{ℕ, zero, suc, if◌then◌else◌, List, [], ◌∷◌, length, codes, bytes_eq, Option, Some, None, slice_get}
use Rattle.cub_proto.specs.declared.transition.Transition.{Transition}
use Rattle.cub_proto.specs.declared.protocol.Protocol.{Protocol}
use Rattle.cub_proto.specs.declared.protocol.Goal.{Goal}
use Rattle.cub_proto.specs.declared.event.Chosen.{Chosen}
use Rattle.cub_proto.specs.declared.event.Event.{Event}
use Rattle.cub_proto.specs.declared.event.Event.TheVariants.{Crash, Fire}
use Rattle.cub_proto.specs.declared.event.Plain.{Plain}
use Rattle.text_lines.specs.Number.{counted}
use Rattle.text_lines.specs.Word.{word, behind}
use Rattle.text_lines.specs.Named.{number_of}
use Rattle.text_lines.specs.Loose.{processes_in, behind_words, slot_in, behind_equal, entry_value}

-- the pick that is told here, and the bytes behind its value
abbrev pub pick_told : Protocol → List ℕ → Chosen
pick_told p bytes = record { slot = slot_in p bytes; val = entry_value p (slot_in p bytes) bytes }

abbrev pub behind_pick : Protocol → List ℕ → List ℕ
behind_pick p bytes = behind (behind_equal (slot_in p bytes) bytes)

-- at most so many picks, with a word between each two
abbrev pub picks_told : Protocol → ℕ → List ℕ → List Chosen
picks_told p zero bytes = []
picks_told p (suc n) bytes =
    if bytes_eq (word bytes) [] then [] else pick_told p bytes ∷ picks_told p n (behind (behind_pick p bytes))

-- the firing of the transition, if it is there, with as many parameters as it has; then a word and picks
abbrev pub firing_told : Protocol → ℕ → Option Transition → List ℕ → Option Event
firing_told p number None bytes = None
firing_told p number (Some t) bytes =
    Some (Fire number (processes_in t.params bytes) (picks_told p (length bytes) (behind (behind_words t.params bytes))))

-- the event that a line tells, where its second word is a transition or its first is `crash`
abbrev pub event_told : Protocol → List ℕ → Option Event
event_told p line =
    if bytes_eq (word line) (codes "crash") then Some (Crash (counted (word (behind line)))) else (
    firing_told p (number_of (λ t. t.name) p.transitions (word (behind line)))
    (slice_get p.transitions (number_of (λ t. t.name) p.transitions (word (behind line)))) (behind (behind line)))

-- the processes of an unsafe conjunction, as many as it has places; none where it is not there
abbrev pub places_told : Option Goal → List ℕ → List ℕ
places_told None bytes = []
places_told (Some g) bytes = processes_in g.width bytes

-- the number of an unsafe conjunction
abbrev pub goal_told : List ℕ → ℕ
goal_told line = counted (word (behind line))

abbrev pub goal_places : Protocol → List ℕ → List ℕ
goal_places p line = places_told (slice_get p.goals (goal_told line)) (behind (behind line))

-- where the steps alone fail
abbrev pub plain_told : List ℕ → Plain
plain_told line = record { step = counted (word (behind line)); process = counted (word (behind (behind line))) }
