-- Legal events and legal logs.
use Rattle.std.specs.Prelude.{◌≡◌, ◌≢◌, ◌⊎◌, ℕ, ◌+◌, ◌-◌, ◌<◌, ◌≤◌, max, Bool, true, false, ◌&&◌, ◌==◌, List, [], ◌∷◌, ◌++◌, length, Option, Some, None}
use Rattle.cub_proto.specs.declared.protocol.Protocol.{Protocol}
use Rattle.cub_cube.specs.declared.cube.Cube.{Cube}
use Rattle.cub_cube.specs.Cover.{IsCovered}
use Rattle.log_form.specs.declared.node.Fate.{Fate}
use Rattle.log_form.specs.declared.node.Node.{Node}
use Rattle.log_form.specs.declared.event.Mark.{Mark}
use Rattle.log_form.specs.declared.event.Added.{Added}
use Rattle.log_form.specs.declared.event.LogEvent.{LogEvent}
use Rattle.log_form.specs.declared.numbered.Numbered.{Numbered}
use Rattle.log_form.specs.Numbering.{numbered, AreRoots}
use Rattle.log_form.specs.Pieces.{PieceRelation}
use Rattle.log_form.specs.Forms.{IsForm}
use Rattle.cub_cube.specs.Starts.{IsStartCube}
use Rattle.log_form.specs.Links.{Link, IsFirstCover}
use Rattle.log_form.specs.Fates.{fate_after}
use Rattle.log_form.specs.Log.{LogValue, no_log, node_at, cubes_of, new_nodes}

-- a piece that no cube of the list covers is added: with its number, as a form of it
pub record IsAdded (p : Protocol) (cubes : List Cube) (piece : Numbered) (a : Added) : Type 0 where
  pub uncovered : IsCovered p cubes piece.cube → ⊥
  pub numbered : a.piece ≡ piece.number
  pub form : IsForm p piece.cube a.places a.cube

-- The pieces gone through in order. What a cube of the list or an added one covers is passed over, every other piece is
-- added, and the first added cube that meets a start state ends the list.
abbrev pub Adds : Protocol → List Cube → List Numbered → List Added → Type 0
Adds p cubes [] added = added ≡ []
Adds p cubes (piece ∷ pieces) [] = IsCovered p cubes piece.cube × Adds p cubes pieces []
Adds p cubes (piece ∷ pieces) (a ∷ added) =
    (IsCovered p cubes piece.cube × Adds p cubes pieces (a ∷ added))
    ⊎ (IsAdded p cubes piece a
    × ((IsStartCube p a.cube × (added ≡ [])) ⊎ ((IsStartCube p a.cube → ⊥) × Adds p (cubes ++ a.cube ∷ []) pieces added)))

-- the last added cube meets a start state
abbrev pub EndsBad : Protocol → List Added → Type 0
EndsBad p [] = ⊥
EndsBad p (a ∷ []) = IsStartCube p a.cube
EndsBad p (a ∷ b ∷ added) = EndsBad p (b ∷ added)

-- a node that may be expanded, once the roots are there: it waits, and its cube is within the width
pub record IsOpen (P : PieceRelation) (log : LogValue) (number : ℕ) (list : List Numbered) : Type 0 where
  pub begun : log.events ≢ []
  pub inside : number < length log.nodes
  pub waits : (node_at log.nodes number).fate ≡ Fate.Waiting
  pub narrow : (node_at log.nodes number).cube.width ≤ log.budget.width
  pub cubes : List Cube
  pub its : P log.protocol (node_at log.nodes number).cube cubes
  pub is : list ≡ numbered cubes

-- what an event treats: the first one the roots, each later one the pieces of a node
abbrev pub Treats : PieceRelation → LogValue → Option ℕ → List Numbered → Type 0
Treats P log None list = (log.events ≡ []) × AreRoots log.protocol list
Treats P log (Some number) list = IsOpen P log number list

-- nodes and list are together more than the cube budget: nothing is added, and the log is full
pub record Fills (log : LogValue) (event : LogEvent) (list : List Added) (after : LogValue) : Type 0 where
  pub above : log.budget.cubes < length log.nodes + length list
  pub nothing : event.added ≡ []
  pub needed : event.needed ≡ length list
  pub nodes : after.nodes ≡ log.nodes
  pub mark : after.mark ≡ Mark.Full event.node (length list)

-- a node after an event, where `first` is the number of the first added one: linked to the first later added cube that
-- covers it, if there is one
pub record IsNodeAfter (p : Protocol) (first : ℕ) (cubes : List Cube) (number : ℕ) (expanded : Bool) (old new : Node) : Type 0 where
  pub link : Option Link
  pub found : IsFirstCover p cubes (max first (number + 1)) (length cubes) old.cube link
  pub is : new ≡ record old { fate = fate_after old.fate link expanded }

abbrev pub is_number : Option ℕ → ℕ → Bool
is_number None i = false
is_number (Some n) i = n == i

abbrev pub is_going : Mark → Bool
is_going Mark.Going = true
is_going (Mark.Bad number) = false
is_going (Mark.Full number needed) = false

-- the nodes with the new ones, before links and fates change
abbrev pub grown : LogValue → LogEvent → List Added → List Node
grown log event list = log.nodes ++ new_nodes event.node list

-- the list is added, links are made, and the log is bad where the last added cube meets a start state; the expanded node
-- is done where it got no link and the log is not bad
pub record Grows (log : LogValue) (event : LogEvent) (list : List Added) (after : LogValue) : Type 0 where
  pub within : length log.nodes + length list ≤ log.budget.cubes
  pub added : event.added ≡ list
  pub needed : event.needed ≡ 0
  pub count : length after.nodes ≡ length log.nodes + length list
  pub nodes : (i : ℕ) → i < length after.nodes
      → IsNodeAfter log.protocol (length log.nodes) (cubes_of (grown log event list)) i (is_number event.node i && is_going after.mark)
      (node_at (grown log event list) i) (node_at after.nodes i)
  pub mark : (EndsBad log.protocol list × (after.mark ≡ Mark.Bad (length log.nodes + length list - 1)))
      ⊎ ((EndsBad log.protocol list → ⊥) × (after.mark ≡ Mark.Going))

-- the event is legal on the log, and leads to the log after it
pub record Leads (P : PieceRelation) (log : LogValue) (event : LogEvent) (after : LogValue) : Type 0 where
  pub going : log.mark ≡ Mark.Going
  pub pieces : List Numbered
  pub treats : Treats P log event.node pieces
  pub list : List Added
  pub adds : Adds log.protocol (cubes_of log.nodes) pieces list
  pub effect : Fills log event list after ⊎ Grows log event list after
  pub protocol : after.protocol ≡ log.protocol
  pub budget : after.budget ≡ log.budget
  pub events : after.events ≡ log.events ++ event ∷ []

-- the events lead, each from the log that the earlier ones left
abbrev pub LeadAll : PieceRelation → LogValue → List LogEvent → LogValue → Type 0
LeadAll P log [] after = log ≡ after
LeadAll P log (event ∷ events) after = (next : LogValue) × Leads P log event next × LeadAll P next events after

-- at least one event, and from the log without nodes and events they lead to this one
pub record IsLegalLog (P : PieceRelation) (log : LogValue) : Type 0 where
  pub begun : log.events ≢ []
  pub made : LeadAll P (no_log log.protocol log.budget) log.events log
