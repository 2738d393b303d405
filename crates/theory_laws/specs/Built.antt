-- The state that values for terms make: one function, used wherever a state is wanted.
use Rattle.std.specs.Prelude.{ℕ, Bool, true, not, ◌==◌, cond, nat_lt, int_le, ◌-ℤ◌, List, map, replicate, ℤ}
use Rattle.std.specs.List.{range_with_len}
use Rattle.cub_proto.specs.declared.literal.Sort.{Sort}
use Rattle.cub_proto.specs.declared.literal.Term.{Term}
use Rattle.cub_proto.specs.declared.literal.PSide.{PSide}
use Rattle.cub_proto.specs.declared.literal.Lit.{Lit}
use Rattle.cub_proto.specs.declared.literal.Lit.TheVariants.{FinIn, FinEq, FinNe, ProcEq, ProcNe, Diff}
use Rattle.cub_proto.specs.declared.state.Val.{Val}
use Rattle.cub_proto.specs.declared.state.Val.TheVariants.{Con, Proc, Int}
use Rattle.cub_proto.specs.declared.protocol.Decl.{Decl}
use Rattle.cub_proto.specs.declared.protocol.Protocol.{Protocol}
use Rattle.cub_proto.specs.Configuration.{Configuration}
use Rattle.cub_base.specs.Numbered.{map_from}
use Rattle.cub_proto.specs.Truth.{has_bit}
use Rattle.diff_close.specs.Literals.{side_value}

-- a constructor and an integer for each term, and a process for each side of an equality of processes
pub record Values : Type 0 where
  pub constructor : Term → ℕ
  pub process : PSide → ℕ
  pub integer : Term → ℤ

-- the value of a term, by its sort; no cell has a process
abbrev pub value_of : Values → Sort → Term → Val
value_of v (Sort.Fin k) t = Con (v.constructor t)
value_of v Sort.Proc (Term.Global g) = Proc (v.process (PSide.Global g))
value_of v Sort.Proc (Term.Cell a q) = Proc 0
value_of v Sort.Int t = Int (v.integer t)

-- the place whose cells a process has: that of its own number, and place 0 beyond the places
abbrev pub home : ℕ → ℕ → ℕ
home width i = cond (nat_lt i width) i 0

-- the value of a declared global
abbrev pub global_value : Values → ℕ → Decl → Val
global_value v g d = value_of v d.sort (Term.Global g)

-- the cells of an array
abbrev pub cell_values : ℕ → ℕ → Values → ℕ → Decl → List Val
cell_values width n v a d = map (λ i. value_of v d.sort (Term.Cell a (home width i))) (range_with_len 0 n)

-- the state of n processes, all alive, where the process with the number of a place stands there, and each process
-- beyond the places has the cells of process 0
abbrev pub built : Protocol → ℕ → ℕ → Values → Configuration
built p width n v = record {
  living = replicate n true;
  globals = map_from (global_value v) 0 p.globals;
  arrays = map_from (cell_values width n v) 0 p.arrays;
}

-- the processes at the places: those with their numbers
abbrev pub own_places : ℕ → List ℕ
own_places width = range_with_len 0 width

-- the literal is true of the values
abbrev pub is_true_of : Values → Lit → Bool
is_true_of v (FinIn t mask) = has_bit mask (v.constructor t)
is_true_of v (FinEq a b) = v.constructor a == v.constructor b
is_true_of v (FinNe a b) = not (v.constructor a == v.constructor b)
is_true_of v (ProcEq a b) = v.process a == v.process b
is_true_of v (ProcNe a b) = not (v.process a == v.process b)
is_true_of v (Diff a b bound) = int_le (side_value v.integer a -ℤ side_value v.integer b) bound
