-- Judgements of nodes.
use Rattle.std.specs.Prelude.{◌≡◌, ◌⊎◌, ◌↔◌, ℕ, ◌+◌, Bool, false, List, [], ◌∷◌, ◌++◌, map, length, Some, None, IsTrue, All}
use Rattle.cub_proto.specs.declared.protocol.Protocol.{Protocol}
use Rattle.cub_cube.specs.declared.cube.Cube.{Cube}
use Rattle.cub_cube.specs.Starts.{IsStartCube}
use Rattle.log_form.specs.declared.event.Added.{Added}
use Rattle.log_form.specs.declared.numbered.Numbered.{Numbered}
use Rattle.log_form.specs.Pieces.{PieceRelation, IsAskable}
use Rattle.log_form.specs.Links.{IsFirstUnder}
use Rattle.log_form.specs.Legal.{Adds}
use Rattle.log_steps.specs.Pieces.{AreItsPieces}
use Rattle.log_steps.specs.Chosen.{FormRelation, IsChosen}
use Rattle.log_steps.specs.declared.judgement.Under.{Under}
use Rattle.log_steps.specs.declared.judgement.Pick.{Pick}

-- a pick as an added cube
abbrev pub added_of : Pick → Added
added_of k = record { piece = k.piece; places = k.places; cube = k.cube }

abbrev pub pick_cubes : List Pick → List Cube
pick_cubes picks = map (λ k. k.cube) picks

-- the links are to all cubes of the list, from one number on, that the cube covers, in order, each with the least places
abbrev pub AreUnder : Protocol → List Cube → ℕ → Cube → List Under → Type 0
AreUnder p cubes from c [] = IsFirstUnder p cubes from (length cubes) c None
AreUnder p cubes from c (u ∷ us) = IsFirstUnder p cubes from (length cubes) c (Some (u.node, u.places)) × AreUnder p cubes (u.node + 1) c us

-- the pick tells whether a start state meets it, and which cubes it covers
pub record IsExact (p : Protocol) (cubes : List Cube) (pick : Pick) : Type 0 where
  pub starts : IsTrue pick.starts ↔ IsStartCube p pick.cube
  pub under : AreUnder p cubes 0 pick.cube pick.under

-- the picks of a list of numbered cubes: those that an event would add to a log of these cubes
pub record ArePicks (p : Protocol) (cubes : List Cube) (list : List Numbered) (picks : List Pick) : Type 0 where
  pub adds : Adds p cubes list (map added_of picks)
  pub exact : All (IsExact p cubes) picks
  pub fit : All (λ k. IsAskable p k.cube) picks

-- the picks of the pieces of a cube, each the chosen form of its piece
pub record AreJudged (C : FormRelation) (P : PieceRelation) (p : Protocol) (cubes : List Cube) (c : Cube) (picks : List Pick) : Type 0 where
  pub pieces : List Numbered
  pub its : AreItsPieces P p c pieces
  pub are : ArePicks p cubes pieces picks
  pub chosen : All (λ k. IsChosen C p pieces (added_of k)) picks

-- what is to be added whatever pieces come after these: a start state meets the last pick, or the rest is to be judged
-- with the picks so far
abbrev pub AddsSoFar : Protocol → List Cube → List Numbered → List Pick → Bool → Type 0
AddsSoFar p cubes done picks ended =
    (IsTrue ended × ((more : List Numbered) → Adds p cubes (done ++ more) (map added_of picks)))
    ⊎ ((ended ≡ false) × ((more : List Numbered) (rest : List Added) → Adds p (cubes ++ pick_cubes picks) more rest → Adds p cubes (done ++ more) (map added_of picks ++ rest)))

-- the picks of the first pieces of a list
pub record ArePicksSoFar (C : FormRelation) (p : Protocol) (cubes : List Cube) (done : List Numbered) (picks : List Pick) (ended : Bool) : Type 0 where
  pub adds : AddsSoFar p cubes done picks ended
  pub exact : All (IsExact p cubes) picks
  pub fit : All (λ k. IsAskable p k.cube) picks
  pub chosen : All (λ k. IsChosen C p done (added_of k)) picks
