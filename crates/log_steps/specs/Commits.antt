-- The steps of a commit: what is kept of the picks, how an added cube links earlier nodes, and what becomes of the log.
use Rattle.std.specs.Prelude.{◌≡◌, ◌⊎◌, ◌↔◌, ℕ, ◌+◌, ◌-◌, ◌^◌, ◌&&◌, ◌<◌, ◌≤◌, max, true, false, List, [], ◌∷◌, ◌++◌, map, length, take, drop, count_by, IsTrue, All, slice_index_or, Option, Some, None}
use Rattle.cub_proto.specs.declared.protocol.Protocol.{Protocol}
use Rattle.cub_proto.specs.declared.budget.Budget.{Budget}
use Rattle.cub_cube.specs.declared.cube.Cube.{Cube}
use Rattle.cub_cube.specs.Cover.{DoesCover, CoversLeast}
use Rattle.log_form.specs.declared.node.Node.{Node}
use Rattle.log_form.specs.declared.event.Mark.{Mark}
use Rattle.log_form.specs.declared.event.Added.{Added}
use Rattle.log_form.specs.declared.event.LogEvent.{LogEvent}
use Rattle.log_form.specs.Links.{Link, no_cube, IsFirstCover}
use Rattle.log_form.specs.Fates.{is_live, fate_after}
use Rattle.log_form.specs.Log.{LogValue, node_at, cubes_of}
use Rattle.log_form.specs.Stale.{KeepsUncovered}
use Rattle.cub_cube.specs.Starts.{IsStartCube}
use Rattle.log_form.specs.Pieces.{IsAskable}
use Rattle.log_form.specs.Legal.{EndsBad, is_number, is_going, IsNodeAfter, Fills, Grows}
use Rattle.log_steps.specs.declared.judgement.Pick.{Pick}
use Rattle.log_steps.specs.Judged.{added_of, IsExact}

abbrev pub no_pick : Pick
no_pick = record { piece = 0; places = []; cube = no_cube; starts = false; under = [] }

-- the picks with these numbers as added cubes
abbrev pub kept_of : List Pick → List ℕ → List Added
kept_of picks which = map (λ k. added_of (slice_index_or picks k no_pick)) which

-- the node with a link, unless it has one
abbrev pub linked_to : ℕ → List ℕ → Node → Node
linked_to by places n = record n { fate = fate_after n.fate (Some (by, places)) false }

-- the node when it is expanded: done, unless it has a link
abbrev pub settled : Node → Node
settled n = record n { fate = fate_after n.fate None true }

-- how many nodes are live
abbrev pub live_count : List Node → ℕ
live_count nodes = count_by (λ n. is_live n.fate) nodes

-- so many live nodes got a link, and the cubes stay
pub record AreMade (old new : List Node) (links : ℕ) : Type 0 where
  pub count : live_count new + links ≡ live_count old
  pub cubes : cubes_of new ≡ cubes_of old

-- the node is linked to the cube with the number `by` where this is later and covers it, else it stays
abbrev pub IsLinkedBy : Protocol → Cube → ℕ → ℕ → Node → Node → Type 0
IsLinkedBy p cube by number old new =
    ((number < by) × ((places : List ℕ) × CoversLeast p cube old.cube places × (new ≡ linked_to by places old)))
    ⊎ ((number < by → DoesCover p cube old.cube → ⊥) × (new ≡ old))

-- the nodes from one number up to another are linked to the cube, and the others stay
pub record AreLinked (p : Protocol) (cube : Cube) (by from upto : ℕ) (old new : List Node) : Type 0 where
  pub done : (i : ℕ) → from ≤ i → i < upto → i < length old → IsLinkedBy p cube by i (node_at old i) (node_at new i)
  pub left : (i : ℕ) → (i < from) ⊎ (upto ≤ i) → node_at new i ≡ node_at old i

-- the node with the links to the added cubes from `first` up to `upto`
pub record IsLinkedUpTo (p : Protocol) (cubes : List Cube) (first upto number : ℕ) (old new : Node) : Type 0 where
  pub link : Option Link
  pub found : IsFirstCover p cubes (max first (number + 1)) upto old.cube link
  pub is : new ≡ record old { fate = fate_after old.fate link false }

-- the picks with these numbers stand among the nodes from `first` on
abbrev pub StandAt : ℕ → List Pick → List ℕ → List Node → Type 0
StandAt first picks which nodes = (j : ℕ) → j < length which → (node_at nodes (first + j)).cube ≡ (slice_index_or picks (slice_index_or which j 0) no_pick).cube

-- a log that is going, by its parts
abbrev pub going_log : Protocol → Budget → List Node → List LogEvent → LogValue
going_log p budget nodes events = record { protocol = p; budget = budget; nodes = nodes; events = events; mark = Mark.Going }

-- the kept list becomes one more event of that node, with what it does to the nodes and the mark
pub record IsCommitted (log : LogValue) (node : Option ℕ) (kept : List Added) (after : LogValue) : Type 0 where
  pub event : LogEvent
  pub its : event.node ≡ node
  pub effect : Fills log event kept after ⊎ Grows log event kept after
  pub protocol : after.protocol ≡ log.protocol
  pub budget : after.budget ≡ log.budget
  pub events : after.events ≡ log.events ++ event ∷ []

-- the picks that no node gained since covers are committed; the links are those that the event made
pub record AreCommitted (log : LogValue) (seen : ℕ) (node : Option ℕ) (picks : List Pick) (links : ℕ) (after : LogValue) : Type 0 where
  pub kept : List Added
  pub keeps : KeepsUncovered log.protocol (drop seen (cubes_of log.nodes)) (map added_of picks) kept
  pub is : IsCommitted log node kept after
  pub linked : after.mark ≡ Mark.Going → live_count after.nodes + links ≡ live_count log.nodes + length kept

-- the picks tell whether a start state meets them
abbrev pub TellStarts : Protocol → List Pick → Type 0
TellStarts p picks = All (λ k. IsTrue k.starts ↔ IsStartCube p k.cube) picks

-- what a commit asks of picks that were judged on the first nodes
pub record MayCommit (p : Protocol) (cubes : List Cube) (node : Option ℕ) (picks : List Pick) (seen : ℕ) : Type 0 where
  pub fit : All (λ k. IsAskable p k.cube) picks
  pub exact : All (IsExact p (take seen cubes)) picks
  pub goals : node ≡ None → All (λ k. k.piece < 2 ^ 32) picks

-- the list is appended as nodes, linked by each other and the mark set
pub record IsLinkedUp (p : Protocol) (first : ℕ) (node : Option ℕ) (list : List Added) (old new : List Node) (mark : Mark) (links : ℕ) : Type 0 where
  pub count : length new ≡ length old
  pub nodes : (i : ℕ) → i < length old → IsNodeAfter p first (cubes_of old) i (is_number node i && is_going mark) (node_at old i) (node_at new i)
  pub marked : (EndsBad p list × (mark ≡ Mark.Bad (length old - 1))) ⊎ ((EndsBad p list → ⊥) × (mark ≡ Mark.Going))
  pub made : AreMade old new links
