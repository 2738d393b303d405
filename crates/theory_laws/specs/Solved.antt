-- Solutions of the three parts of a conjunction, which together make a state.
use Rattle.std.specs.Prelude.{◌≡◌, ℕ, ◌<◌, ◌≤◌, List, IsTrue, Some}
use Rattle.cub_proto.specs.declared.literal.Sort.TheVariants as Sort
use Rattle.cub_proto.specs.declared.literal.Term.{Term}
use Rattle.cub_proto.specs.declared.literal.PSide.{PSide}
use Rattle.cub_proto.specs.declared.literal.Lit.{Lit}
use Rattle.cub_proto.specs.declared.protocol.Protocol.{Protocol}
use Rattle.cub_proto.specs.Configuration.{Configuration, process_count, IsAlive}
use Rattle.cub_proto.specs.Signature.{declared_sort, sort_of, constructors_at}
use Rattle.cub_proto.specs.StateOf.{IsStateOf, signature_of}
use Rattle.cub_proto.specs.Fits.{is_finite}
use Rattle.cub_proto.specs.Meets.{Satisfies}
use Rattle.fin_dom.specs.Solution.{Solves as FinSolves, HasSolution as HasConstructors}
use Rattle.proc_eq.specs.Solution.{Solves as ProcSolves, HasSolution as HasProcesses}
use Rattle.diff_close.specs.Literals.{Solves as DiffSolves, HasSolution as HasIntegers}
use Rattle.theory_laws.specs.Built.{Values, own_places}

-- the values can stand in a state of n processes with so many places
pub record AreValues (p : Protocol) (width n : ℕ) (v : Values) : Type 0 where
  pub some : 0 < n
  pub room : width ≤ n
  pub inside : (t : Term) → IsTrue (is_finite (sort_of (signature_of p) t)) → v.constructor t < constructors_at (signature_of p) t
  pub places : (q : ℕ) → q < width → v.process (PSide.Place q) ≡ q
  pub below : (g : ℕ) → declared_sort p.globals g ≡ Some Sort.Proc → v.process (PSide.Global g) < n

-- and solve each of the three parts
pub record Solve (p : Protocol) (width : ℕ) (lits : List Lit) (v : Values) : Type 0 where
  pub finite : FinSolves (signature_of p) lits v.constructor
  pub processes : ProcSolves width lits v.process
  pub integers : DiffSolves v.integer lits

-- each of the three parts has a solution
pub record PartsHaveSolutions (p : Protocol) (width : ℕ) (lits : List Lit) : Type 0 where
  pub finite : HasConstructors (signature_of p) lits
  pub processes : HasProcesses width lits
  pub integers : HasIntegers lits

-- a state of the protocol, all of whose processes are alive, the first of them at the places
pub record Fulfils (p : Protocol) (width : ℕ) (lits : List Lit) (s : Configuration) : Type 0 where
  pub state : IsStateOf p s
  pub alive : (i : ℕ) → i < process_count s → IsAlive s i
  pub satisfies : Satisfies s (own_places width) width lits
