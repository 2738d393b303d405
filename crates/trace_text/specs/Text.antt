-- The text of a trace: a line for each part, in order.
use Rattle.std.specs.Prelude.{ℕ, ◌+◌, Bool, true, false, List, [], ◌∷◌, ◌++◌, map, codes, decimal, Option, Some, None, is_some, slice_get}
use Rattle.std.specs.List.{join_by, list_any}
use Rattle.std.specs.Option.{option_map_or}
use Rattle.cub_base.specs.Numbered.{map_from}
use Rattle.cub_proto.specs.declared.protocol.Protocol.{Protocol}
use Rattle.cub_proto.specs.declared.state.Slot.TheVariants as Slot
use Rattle.cub_proto.specs.declared.state.Val.{Val}
use Rattle.cub_proto.specs.declared.event.Chosen.{Chosen}
use Rattle.cub_proto.specs.declared.event.Event.{Event}
use Rattle.cub_proto.specs.declared.event.Event.TheVariants.{Crash, Fire}
use Rattle.cub_proto.specs.declared.event.Plain.{Plain}
use Rattle.cub_proto.specs.declared.event.Trace.{Trace}
use Rattle.cub_proto.specs.Configuration.{Configuration, process_count}
use Rattle.cub_proto.specs.Fits.{takes_any}
use Rattle.text_lines.specs.Line.{text_of}
use Rattle.text_lines.specs.Spelling.{process_text, processes_text, entry_text}

-- some update can give any value
abbrev pub has_any : Protocol → Bool
has_any p = list_any (λ t. list_any takes_any t.updates) p.transitions

abbrev pub heading_text : Bool → List ℕ
heading_text true = codes "UNSAFE WITH CRASHES"
heading_text false = codes "UNSAFE"

-- version 2 is that of protocols where events pick values
abbrev pub version_text : Bool → List ℕ
version_text true = codes "trace 2"
version_text false = codes "trace 1"

abbrev pub count_text : ℕ → List ℕ
count_text n = codes "processes " ++ decimal n

-- the values of the globals, then of each array the cells by process
abbrev pub global_lines : Protocol → List Val → List (List ℕ)
global_lines p globals = map_from (λ g v. entry_text p (Slot.Global g) v) 0 globals

abbrev pub cell_lines : Protocol → ℕ → List Val → List (List ℕ)
cell_lines p a cells = map_from (λ i v. entry_text p (Slot.Cell a i) v) 0 cells

abbrev pub array_lines : Protocol → ℕ → List (List Val) → List (List ℕ)
array_lines p a [] = []
array_lines p a (cells ∷ more) = cell_lines p a cells ++ array_lines p (a + 1) more

abbrev pub start_lines : Protocol → Configuration → List (List ℕ)
start_lines p s = global_lines p s.globals ++ array_lines p 0 s.arrays

abbrev pub pick_text : Protocol → Chosen → List ℕ
pick_text p c = entry_text p c.slot c.val

abbrev pub picks_text : Protocol → List Chosen → List ℕ
picks_text p [] = []
picks_text p (c ∷ cs) = codes " with " ++ join_by (pick_text p) (codes " && ") (c ∷ cs)

abbrev pub transition_name : Protocol → ℕ → List ℕ
transition_name p number = option_map_or (λ t. t.name) (slice_get p.transitions number) []

abbrev pub event_text : Protocol → Event → List ℕ
event_text p (Crash i) = codes "crash " ++ process_text i
event_text p (Fire number params picks) =
    codes "step " ++ transition_name p number ++ processes_text params ++ picks_text p picks

abbrev pub goal_text : ℕ → List ℕ → List ℕ
goal_text goal places = codes "unsafe " ++ decimal (goal + 1) ++ codes " " ++ processes_text places

abbrev pub plain_text : Plain → List ℕ
plain_text plain = codes "plain " ++ decimal (plain.step + 1) ++ codes " " ++ process_text plain.process

abbrev pub plain_lines : Option Plain → List (List ℕ)
plain_lines None = []
plain_lines (Some plain) = plain_text plain ∷ []

abbrev pub trace_lines : Protocol → Trace → List (List ℕ)
trace_lines p t =
    heading_text (is_some t.plain) ∷ version_text (has_any p) ∷ count_text (process_count t.start) ∷ [] ++ start_lines p t.start
    ++ map (event_text p) t.events ++ goal_text t.goal t.places ∷ [] ++ plain_lines t.plain ++ codes "end" ∷ []

-- the text of a trace
abbrev pub trace_text : Protocol → Trace → List ℕ
trace_text p t = text_of (trace_lines p t)
