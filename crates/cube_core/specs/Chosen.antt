-- Logs whose nodes are the chosen forms of what they come from.
use Rattle.std.specs.Prelude.{◌≡◌, ℕ, ◌<◌, List, Some, length, slice_get}
use Rattle.cub_proto.specs.declared.protocol.Goal.{Goal}
use Rattle.cub_cube.specs.declared.cube.Cube.{Cube}
use Rattle.cub_cube.specs.Goals.{goal_cube}
use Rattle.log_form.specs.declared.node.Origin.{Origin}
use Rattle.log_form.specs.declared.node.Node.{Node}
use Rattle.log_form.specs.Pieces.{PieceRelation}
use Rattle.log_form.specs.Log.{LogValue, node_at}
use Rattle.log_steps.specs.Chosen.{FormRelation}

-- the node is the chosen form of the unsafe conjunction, or of the piece of a node, that its origin names
abbrev pub IsChosenFrom : FormRelation → PieceRelation → LogValue → Node → Origin → Type 0
IsChosenFrom C P log n (Origin.Root goal) = (g : Goal) × (slice_get log.protocol.goals goal ≡ Some g) × C log.protocol (goal_cube log.protocol g) n.places n.cube
IsChosenFrom C P log n (Origin.Piece from piece) =
    (cubes : List Cube) × P log.protocol (node_at log.nodes from).cube cubes
    × ((x : Cube) × (slice_get cubes piece ≡ Some x) × C log.protocol x n.places n.cube)

-- each node is
abbrev pub AreChosen : FormRelation → PieceRelation → LogValue → Type 0
AreChosen C P log = (i : ℕ) → i < length log.nodes → IsChosenFrom C P log (node_at log.nodes i) (node_at log.nodes i).origin
