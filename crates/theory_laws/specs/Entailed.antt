-- What a conjunction entails.
use Rattle.std.specs.Prelude.{ℕ, List, IsTrue}
use Rattle.cub_proto.specs.declared.literal.Lit.{Lit}
use Rattle.cub_proto.specs.declared.protocol.Protocol.{Protocol}
use Rattle.cub_proto.specs.Configuration.{Configuration}
use Rattle.cub_proto.specs.Truth.{is_true}
use Rattle.cub_proto.specs.StateOf.{IsStateOf}
use Rattle.cub_proto.specs.Meets.{Satisfies}

-- the literal is true at every state of the protocol and processes that satisfy the conjunction
abbrev pub Entails : Protocol → ℕ → List Lit → Lit → Type 0
Entails p width lits lit = (s : Configuration) (places : List ℕ) → IsStateOf p s → Satisfies s places width lits
    → IsTrue (is_true s places lit)
