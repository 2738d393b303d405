-- When links make a chain of a protocol.
use Rattle.std.specs.Prelude.{◌≡◌, ℕ, ◌≤◌, List, [], ◌∷◌, Some, length, slice_get}
use Rattle.cub_proto.specs.declared.protocol.Goal.{Goal}
use Rattle.cub_proto.specs.declared.protocol.Protocol.{Protocol}
use Rattle.cub_cube.specs.declared.cube.Cube.{Cube}
use Rattle.cub_cube.specs.Goals.{goal_cube}
use Rattle.cub_cube.specs.Starts.{IsStartCube}
use Rattle.piece_choices.specs.declared.piece.Piece.{Piece}
use Rattle.piece_choices.specs.Pieces.{ArePieces}
use Rattle.log_form.specs.declared.node.Origin.{Origin}
use Rattle.log_form.specs.Forms.{IsForm}
use Rattle.trace_laws.specs.declared.chain.Link.{Link}

-- the cube is a form of the piece with that number of the next cube, which has at most 8 places
pub record IsPieceOf (p : Protocol) (number : ℕ) (link : Link) (next : Cube) : Type 0 where
  pub narrow : next.width ≤ 8
  pub pieces : List Piece
  pub its : ArePieces p next pieces
  pub piece : Piece
  pub is_there : slice_get pieces number ≡ Some piece
  pub form : IsForm p piece.cube link.places link.cube

-- the cube is a form of the unsafe conjunction with that number
pub record IsGoalOf (p : Protocol) (number : ℕ) (link : Link) : Type 0 where
  pub goal : Goal
  pub is_there : slice_get p.goals number ≡ Some goal
  pub form : IsForm p (goal_cube p goal) link.places link.cube

-- the link names the piece of the next cube, or the unsafe conjunction, that it is a form of
abbrev pub NamesPiece : Protocol → Link → Cube → Origin → Type 0
NamesPiece p link next (Origin.Root goal) = ⊥
NamesPiece p link next (Origin.Piece node number) = IsPieceOf p number link next

abbrev pub NamesGoal : Protocol → Link → Origin → Type 0
NamesGoal p link (Origin.Root goal) = IsGoalOf p goal link
NamesGoal p link (Origin.Piece node number) = ⊥

-- each link but the last names a piece of the next cube, and the last an unsafe conjunction
abbrev pub AreLinked : Protocol → List Link → Type 0
AreLinked p [] = ⊥
AreLinked p (link ∷ []) = NamesGoal p link link.origin
AreLinked p (link ∷ next ∷ chain) = NamesPiece p link next.cube link.origin × AreLinked p (next ∷ chain)

-- a start state meets the first cube
abbrev pub MeetsFirst : Protocol → List Link → Type 0
MeetsFirst p [] = ⊥
MeetsFirst p (link ∷ chain) = IsStartCube p link.cube

-- a chain of at most 65,536 links, whose first cube a start state meets
pub record IsChain (p : Protocol) (chain : List Link) : Type 0 where
  pub few : length chain ≤ 65536
  pub linked : AreLinked p chain
  pub starts : MeetsFirst p chain
