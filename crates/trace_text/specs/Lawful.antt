-- Which traces may be written: those that a replay takes. Whether they replay is another question.
use Rattle.std.specs.Prelude.{ℕ, ◌≤◌, Bool, true, false, ◌&&◌, ◌||◌, ◌==◌, not, nat_lt, nat_le, List, [], ◌∷◌, length, Option, Some, None, slice_get, count_by, IsTrue, All}
use Rattle.std.specs.List.{list_all}
use Rattle.cub_proto.specs.declared.protocol.Goal.{Goal}
use Rattle.cub_proto.specs.declared.protocol.Protocol.{Protocol}
use Rattle.cub_proto.specs.declared.event.Chosen.{Chosen}
use Rattle.cub_proto.specs.declared.event.Event.{Event}
use Rattle.cub_proto.specs.declared.event.Event.TheVariants.{Crash, Fire}
use Rattle.cub_proto.specs.declared.event.Plain.{Plain}
use Rattle.cub_proto.specs.declared.event.Trace.{Trace}
use Rattle.cub_proto.specs.Configuration.{process_count}
use Rattle.cub_proto.specs.Legal.{is_crash}
use Rattle.replay.specs.Bound.{size_of, greatest_start, most_events}
use Rattle.replay.specs.FitsStart.{FitsStart}
use Rattle.replay.specs.FitsEvent.{fits_event}
use Rattle.trace_text.specs.Text.{has_any}

-- the greatest number of processes of a trace
abbrev pub most_processes : ℕ
most_processes = 128

abbrev pub is_empty : List Chosen → Bool
is_empty [] = true
is_empty (c ∷ cs) = false

-- picks only where there is a `?` in the protocol, with integers no greater than at the start
abbrev pub picks_are_lawful : Bool → Event → Bool
picks_are_lawful any (Crash i) = true
picks_are_lawful any (Fire number params picks) =
    (any || is_empty picks) && list_all (λ c. nat_le (size_of c.val) greatest_start) picks

-- the event speaks of what the protocol and its n processes have
abbrev pub is_lawful_event : Protocol → ℕ → Event → Bool
is_lawful_event p n e = fits_event p n e && picks_are_lawful (has_any p) e

-- there is such an unsafe conjunction, with so many places
abbrev pub has_places : Option Goal → List ℕ → Bool
has_places None places = false
has_places (Some g) places = length places == g.width

-- the unsafe conjunction is there, and names as many processes as it has places
abbrev pub is_lawful_goal : Protocol → ℕ → ℕ → List ℕ → Bool
is_lawful_goal p n goal places = has_places (slice_get p.goals goal) places && list_all (λ i. nat_lt i n) places

-- how many of the events are steps
abbrev pub steps_in : List Event → ℕ
steps_in events = count_by (λ e. not (is_crash e)) events

-- the step and the process are there
abbrev pub is_lawful_plain : ℕ → List Event → Plain → Bool
is_lawful_plain n events plain = nat_lt plain.step (steps_in events) && nat_lt plain.process n

abbrev pub is_lawful_end : ℕ → List Event → Option Plain → Bool
is_lawful_end n events None = true
is_lawful_end n events (Some plain) = is_lawful_plain n events plain

-- a trace that may be written and replayed
pub record IsLawful (p : Protocol) (t : Trace) : Type 0 where
  pub few : process_count t.start ≤ most_processes
  pub start : FitsStart p t.start
  pub few_events : length t.events ≤ most_events
  pub events : All (λ e. IsTrue (is_lawful_event p (process_count t.start) e)) t.events
  pub goal : IsTrue (is_lawful_goal p (process_count t.start) t.goal t.places)
  pub plain : IsTrue (is_lawful_end (process_count t.start) t.events t.plain)
