-- The log of a search.
use Rattle.std.specs.Prelude.{ℕ, List, [], Option, Some, None, map, slice_index_or}
use Rattle.std.specs.List.{filter}
use Rattle.cub_proto.specs.declared.protocol.Protocol.{Protocol}
use Rattle.cub_proto.specs.declared.budget.Budget.{Budget}
use Rattle.cub_cube.specs.declared.cube.Cube.{Cube}
use Rattle.log_form.specs.declared.node.Origin.{Origin}
use Rattle.log_form.specs.declared.node.Fate.{Fate}
use Rattle.log_form.specs.declared.node.Node.{Node}
use Rattle.log_form.specs.declared.event.Mark.{Mark}
use Rattle.log_form.specs.declared.event.Added.{Added}
use Rattle.log_form.specs.declared.event.LogEvent.{LogEvent}
use Rattle.log_form.specs.Links.{no_cube}
use Rattle.log_form.specs.Fates.{is_live}

pub record LogValue : Type 0 where
  pub protocol : Protocol
  pub budget : Budget
  pub nodes : List Node
  pub events : List LogEvent
  pub mark : Mark

-- the log without nodes and events
abbrev pub no_log : Protocol → Budget → LogValue
no_log p budget = record { protocol = p; budget = budget; nodes = []; events = []; mark = Mark.Going }

abbrev pub no_node : Node
no_node = record { cube = no_cube; origin = Origin.Root 0; places = []; fate = Fate.Waiting }

abbrev pub node_at : List Node → ℕ → Node
node_at nodes i = slice_index_or nodes i no_node

abbrev pub cubes_of : List Node → List Cube
cubes_of nodes = map (λ n. n.cube) nodes

-- the cubes of the live nodes, in order
abbrev pub live_cubes : List Node → List Cube
live_cubes nodes = cubes_of (filter (λ n. is_live n.fate) nodes)

abbrev pub added_cubes : List Added → List Cube
added_cubes added = map (λ a. a.cube) added

abbrev pub origin_of : Option ℕ → ℕ → Origin
origin_of None piece = Origin.Root piece
origin_of (Some node) piece = Origin.Piece node piece

-- an added cube as a node
abbrev pub new_node : Option ℕ → Added → Node
new_node node a = record { cube = a.cube; origin = origin_of node a.piece; places = a.places; fate = Fate.Waiting }

abbrev pub new_nodes : Option ℕ → List Added → List Node
new_nodes node added = map (new_node node) added
