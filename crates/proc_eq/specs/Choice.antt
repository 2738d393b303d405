-- The processes of the chosen start state: globals in order, each class the least process that may be.
use Rattle.std.specs.Prelude.{◌≡◌, ℕ, ◌<◌, List}
use Rattle.cub_proto.specs.declared.literal.PSide.{PSide}
use Rattle.cub_proto.specs.declared.literal.PSide.TheVariants.{Global, Place}
use Rattle.cub_proto.specs.declared.literal.Lit.{Lit}
use Rattle.proc_eq.specs.Solution.{Solves, Forces, ForcesApart}

-- the side is a place below the width, or a global before g
abbrev pub IsEarlier : ℕ → ℕ → PSide → Type 0
IsEarlier width g (Place p) = p < width
IsEarlier width g (Global h) = h < g

-- the global begins a class: it is forced to be no place and no earlier global
abbrev pub BeginsClass : ℕ → List Lit → ℕ → Type 0
BeginsClass width lits g = (side : PSide) → IsEarlier width g side → Forces width lits (Global g) side → ⊥

-- process n is that of a place or of an earlier global from which g is forced apart
pub record IsForbidden (width : ℕ) (lits : List Lit) (v : PSide → ℕ) (g n : ℕ) : Type 0 where
  pub side : PSide
  pub earlier : IsEarlier width g side
  pub apart : ForcesApart width lits (Global g) side
  pub taken : v side ≡ n

-- each place has its own number, the literals are true, and each class without a place has the least process that is not
-- forbidden; the literals and the classes leave one such assignment of the places below the width and the globals below 64
pub record IsLeastChoice (width : ℕ) (lits : List Lit) (v : PSide → ℕ) : Type 0 where
  pub places : (p : ℕ) → p < width → v (Place p) ≡ p
  pub solves : Solves width lits v
  pub classes : (g : ℕ) → g < 64 → (side : PSide) → IsEarlier width g side → Forces width lits (Global g) side → v (Global g) ≡ v side
  pub least : (g : ℕ) → g < 64 → BeginsClass width lits g → (n : ℕ) → n < v (Global g) → IsForbidden width lits v g n
