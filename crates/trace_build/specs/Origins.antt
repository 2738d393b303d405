-- The origins of a node, and the trace of a bad node.
use Rattle.std.specs.Prelude.{◌≡◌, ℕ, ◌<◌, List, [], ◌∷◌}
use Rattle.cub_proto.specs.declared.event.Trace.{Trace}
use Rattle.cub_proto.specs.declared.protocol.Protocol.{Protocol}
use Rattle.log_form.specs.declared.node.Origin.{Origin}
use Rattle.log_form.specs.declared.node.Node.{Node}
use Rattle.log_form.specs.declared.event.Mark.{Mark}
use Rattle.log_form.specs.Log.{LogValue, node_at}
use Rattle.log_form.specs.Legal.{IsLegalLog}
use Rattle.predecessors.specs.Predecessors.{ArePieceCubes}
use Rattle.trace_laws.specs.declared.chain.Link.{Link}
use Rattle.trace_build.specs.Trace.{IsTraceOf}

-- a node without its fate
abbrev pub link_of : Node → Link
link_of n = record { cube = n.cube; origin = n.origin; places = n.places }

-- the links of the node that an origin names, of the node that its origin names, and so on to a root
abbrev pub OriginsFrom : List Node → Origin → List Link → Type 0
OriginsFrom nodes (Origin.Root goal) [] = Unit {0}
OriginsFrom nodes (Origin.Root goal) (link ∷ chain) = ⊥
OriginsFrom nodes (Origin.Piece from piece) [] = ⊥
OriginsFrom nodes (Origin.Piece from piece) (link ∷ chain) = (link ≡ link_of (node_at nodes from)) × OriginsFrom nodes (node_at nodes from).origin chain

-- the links from the node with that number along its origins to a root
abbrev pub AreOrigins : List Node → ℕ → List Link → Type 0
AreOrigins nodes number chain = OriginsFrom nodes (Origin.Piece number 0) chain

-- the origin names an earlier node, if it names one
abbrev pub LeadsBack : ℕ → Origin → Type 0
LeadsBack number (Origin.Root goal) = Unit {0}
LeadsBack number (Origin.Piece from piece) = from < number

-- the nodes are those of a legal log of the protocol, which is bad with that node
pub record IsBadNode (p : Protocol) (nodes : List Node) (number : ℕ) : Type 0 where
  pub log : LogValue
  pub legal : IsLegalLog ArePieceCubes log
  pub protocol : log.protocol ≡ p
  pub are : log.nodes ≡ nodes
  pub bad : log.mark ≡ Mark.Bad number

-- the trace is that of the node's origins
abbrev pub IsTraceOfNode : Protocol → List Node → ℕ → Trace → Type 0
IsTraceOfNode p nodes number t = (chain : List Link) × AreOrigins nodes number chain × IsTraceOf p chain t
