-- Where the nodes of a log come from.
use Rattle.std.specs.Prelude.{◌≡◌, ℕ, ◌<◌, ◌≤◌, List, Some, slice_get}
use Rattle.cub_proto.specs.declared.protocol.Goal.{Goal}
use Rattle.cub_proto.specs.declared.protocol.Protocol.{Protocol}
use Rattle.cub_cube.specs.declared.cube.Cube.{Cube}
use Rattle.cub_cube.specs.Meaning.{IsConsistent}
use Rattle.log_form.specs.declared.node.Origin.{Origin}
use Rattle.log_form.specs.declared.node.Node.{Node}
use Rattle.cub_cube.specs.Goals.{goal_cube}
use Rattle.log_form.specs.Pieces.{PieceRelation}
use Rattle.log_form.specs.Forms.{IsForm}
use Rattle.log_form.specs.Log.{LogValue, node_at}

-- a form of the unsafe conjunction with that number, which some state meets
pub record IsOfGoal (p : Protocol) (number : ℕ) (node : Node) : Type 0 where
  pub goal : Goal
  pub is_there : slice_get p.goals number ≡ Some goal
  pub possible : IsConsistent p goal.width (goal_cube p goal).lits
  pub form : IsForm p (goal_cube p goal) node.places node.cube

-- a form of the piece with that number of an earlier node, whose cube is within the width
pub record IsOfPiece (P : PieceRelation) (log : LogValue) (number from piece : ℕ) (node : Node) : Type 0 where
  pub earlier : from < number
  pub narrow : (node_at log.nodes from).cube.width ≤ log.budget.width
  pub cubes : List Cube
  pub its : P log.protocol (node_at log.nodes from).cube cubes
  pub cube : Cube
  pub is_there : slice_get cubes piece ≡ Some cube
  pub form : IsForm log.protocol cube node.places node.cube

-- the node with that number is what its origin says
abbrev pub ComesFrom : PieceRelation → LogValue → ℕ → Node → Origin → Type 0
ComesFrom P log number node (Origin.Root goal) = IsOfGoal log.protocol goal node
ComesFrom P log number node (Origin.Piece from piece) = IsOfPiece P log number from piece node
