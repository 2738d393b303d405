-- The chosen state of a conjunction: the one that is built of the least constructors, the least processes and the
-- solution by least sums of paths.
use Rattle.std.specs.Prelude.{◌≡◌, ℕ, suc, max, cond, List, [], ◌∷◌}
use Rattle.cub_proto.specs.declared.literal.Sort.{Sort}
use Rattle.cub_proto.specs.declared.literal.Term.{Term}
use Rattle.cub_proto.specs.declared.literal.PSide.{PSide}
use Rattle.cub_proto.specs.declared.literal.ISide.TheVariants.{At}
use Rattle.cub_proto.specs.declared.literal.Lit.{Lit}
use Rattle.cub_proto.specs.declared.protocol.Decl.{Decl}
use Rattle.cub_proto.specs.declared.protocol.Protocol.{Protocol}
use Rattle.cub_proto.specs.Configuration.{Configuration}
use Rattle.cub_proto.specs.Signature.{same_sort}
use Rattle.cub_proto.specs.StateOf.{signature_of}
use Rattle.fin_dom.specs.Solution.{IsLeastSolution}
use Rattle.proc_eq.specs.Choice.{IsLeastChoice}
use Rattle.diff_close.specs.Literals.{IsChosen}
use Rattle.theory_laws.specs.Built.{Values, built}

-- the processes that are needed: at least one, one for each place, and as many as make each process of a global one
-- of them; g is the number of the first of the declared globals
abbrev pub needed_from : Values → ℕ → ℕ → List Decl → ℕ
needed_from v so_far g [] = so_far
needed_from v so_far g (d ∷ ds) = needed_from v (cond (same_sort d.sort Sort.Proc) (max so_far (suc (v.process (PSide.Global g)))) so_far) (suc g) ds

abbrev pub needed : Protocol → ℕ → Values → ℕ
needed p width v = needed_from v (max width 1) 0 p.globals

-- the state is the chosen one of the literals
pub record IsChosenState (p : Protocol) (width : ℕ) (lits : List Lit) (s : Configuration) : Type 0 where
  pub values : Values
  pub constructors : IsLeastSolution (signature_of p) lits values.constructor
  pub processes : IsLeastChoice width lits values.process
  pub integers : (t : Term) → IsChosen lits (At t) (values.integer t)
  pub state : s ≡ built p width (needed p width values) values
