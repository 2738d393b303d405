-- The text of a log whose verdict is UNKNOWN: a line for each part, in order. Nodes, unsafe conjunctions, pieces and places
-- count from 1 there.
use Rattle.std.specs.Prelude.{ℕ, ◌+◌, Bool, true, false, not, ◌==◌, if◌then◌else◌, List, [], ◌∷◌, ◌++◌, map, flat_map, codes, decimal, Option, Some, None}
use Rattle.std.specs.List.{prefix_len}
use Rattle.cub_proto.specs.declared.protocol.Protocol.{Protocol}
use Rattle.cub_proto.specs.declared.budget.Budget.{Budget}
use Rattle.log_form.specs.declared.node.Node.{Node}
use Rattle.log_form.specs.declared.event.Mark.{Mark}
use Rattle.log_form.specs.declared.event.Added.{Added}
use Rattle.log_form.specs.declared.event.LogEvent.{LogEvent}
use Rattle.log_form.specs.Log.{LogValue}
use Rattle.log_form.specs.Verdict.{is_live_wide}
use Rattle.text_lines.specs.Line.{text_of}
use Rattle.text_lines.specs.Spelling.{processes_text}
use Rattle.cube_text.specs.Text.{cube_text}

-- the heading, where the cube budget is spent, and where wide nodes are left
abbrev pub heading_text : Bool → List ℕ
heading_text true = codes "UNKNOWN cubes"
heading_text false = codes "UNKNOWN width"

abbrev pub version_text : List ℕ
version_text = codes "journal 1"

abbrev pub budget_text : Budget → List ℕ
budget_text b = codes "budget " ++ decimal b.cubes ++ codes " " ++ decimal b.width

-- what the line of an added cube begins with, where it is made from an unsafe conjunction, and from a piece of a node
abbrev pub item_word : Option ℕ → List ℕ
item_word None = codes "root "
item_word (Some n) = codes "new "

-- `new 1 (#2 #1): cube 2: true`; item p of the brackets is the piece's place for place p of the cube
abbrev pub item_text : Protocol → Option ℕ → Added → List ℕ
item_text p node a =
    item_word node ++ decimal (a.piece + 1) ++ codes " " ++ processes_text a.places ++ codes ": " ++ cube_text p a.cube

abbrev pub expand_text : ℕ → List ℕ
expand_text n = codes "expand " ++ decimal (n + 1)

abbrev pub node_text : Option ℕ → List ℕ
node_text None = codes "roots"
node_text (Some n) = decimal (n + 1)

abbrev pub full_text : Option ℕ → ℕ → List ℕ
full_text node needed = codes "full " ++ node_text node ++ codes " needs " ++ decimal needed

abbrev pub wide_text : ℕ → List ℕ
wide_text n = codes "wide " ++ decimal (n + 1)

-- the line before the added cubes of a node
abbrev pub expand_lines : Option ℕ → List (List ℕ)
expand_lines None = []
expand_lines (Some n) = expand_text n ∷ []

-- an event that does not fill the log; the one that fills it is told by the closing line
abbrev pub event_lines : Protocol → LogEvent → List (List ℕ)
event_lines p e = if e.needed == 0 then expand_lines e.node ++ map (item_text p e.node) e.added else []

-- the number of the least live node that is wider than the width budget
abbrev pub least_wide : Budget → List Node → ℕ
least_wide b nodes = prefix_len (λ n. not (is_live_wide b n)) nodes

abbrev pub is_full : Mark → Bool
is_full Mark.Going = false
is_full (Mark.Bad n) = false
is_full (Mark.Full from needed) = true

-- why the log does not go on; a bad log has no journal
abbrev pub closing_lines : Mark → Budget → List Node → List (List ℕ)
closing_lines Mark.Going b nodes = wide_text (least_wide b nodes) ∷ []
closing_lines (Mark.Bad n) b nodes = []
closing_lines (Mark.Full from needed) b nodes = full_text from needed ∷ []

abbrev pub head_lines : Bool → Budget → List (List ℕ)
head_lines full b = heading_text full ∷ version_text ∷ budget_text b ∷ []

abbrev pub journal_lines : LogValue → List (List ℕ)
journal_lines log =
    head_lines (is_full log.mark) log.budget ++ flat_map (event_lines log.protocol) log.events
    ++ closing_lines log.mark log.budget log.nodes ++ codes "end" ∷ []

-- the journal of a log
abbrev pub text_of_log : LogValue → List ℕ
text_of_log log = text_of (journal_lines log)
