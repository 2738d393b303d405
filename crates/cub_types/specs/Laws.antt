-- What holds of the typing of every tree.
use Rattle.std.specs.Prelude.{◌≡◌, ◌⊎◌, ℕ, List, [], None}
use Rattle.cub_parse.specs.declared.tree.Syntax.{Syntax}
use Rattle.cub_proto.specs.declared.protocol.Protocol.{Protocol}
use Rattle.cub_proto.specs.StateOf.{signature_of}
use Rattle.cub_names.specs.declared.fault.Fault.{Fault}
use Rattle.cub_types.specs.Typing.{Reads, IsFaultOf, faults_of, rest_typed}

-- two protocols with the same parts
pub record SameParts (p q : Protocol) : Type 0 where
  pub declares : signature_of p ≡ signature_of q
  pub starts : p.start ≡ q.start
  pub goals : p.goals ≡ q.goals
  pub transitions : p.transitions ≡ q.transitions

-- a tree reads as one protocol at most
abbrev pub OneProtocol : Type 0
OneProtocol = (text : List ℕ) (tree : Syntax) (p q : Protocol) → Reads text tree p → Reads text tree q → SameParts p q

-- and has one fault at most
abbrev pub OneFault : Type 0
OneFault = (text : List ℕ) (tree : Syntax) (a b : Fault) → IsFaultOf text tree a → IsFaultOf text tree b → a ≡ b

-- and not both
abbrev pub NoFault : Type 0
NoFault = (text : List ℕ) (tree : Syntax) (p : Protocol) (a : Fault) → Reads text tree p → IsFaultOf text tree a → ⊥

-- there is no value only with a fault
abbrev pub NothingLost : Type 0
NothingLost = (text : List ℕ) (tree : Syntax) → (rest_typed text tree).value ≡ None → (rest_typed text tree).faults ≡ [] → ⊥

-- a tree without a fault reads as a protocol: nothing that is typed is beyond what a protocol may have
abbrev pub Complete : Type 0
Complete = (text : List ℕ) (tree : Syntax) → faults_of text tree ≡ [] → (p : Protocol) × Reads text tree p

-- so every tree reads as a protocol or has a fault
abbrev pub Decided : Type 0
Decided = (text : List ℕ) (tree : Syntax) → ((p : Protocol) × Reads text tree p) ⊎ ((f : Fault) × IsFaultOf text tree f)
