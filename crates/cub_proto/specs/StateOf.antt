-- When a configuration is a state of a protocol.
use Rattle.std.specs.Prelude.{◌≡◌, ℕ, ◌<◌, List, length, All, map, replicate, true}
use Rattle.std.specs.List.{AllZip}
use Rattle.cub_proto.specs.declared.literal.Sort.{Sort}
use Rattle.cub_proto.specs.declared.state.Val.{Val}
use Rattle.cub_proto.specs.declared.state.Val.TheVariants.{Con, Proc, Int}
use Rattle.cub_proto.specs.declared.protocol.Protocol.{Protocol}
use Rattle.cub_proto.specs.declared.protocol.Decl.{Decl}
use Rattle.cub_proto.specs.Signature.{Signature, signature, constructors_of}
use Rattle.cub_proto.specs.Configuration.{Configuration, process_count}
use Rattle.cub_proto.specs.First.{first_value}

-- the signature of a protocol
abbrev pub signature_of : Protocol → Signature
signature_of p = signature p.sorts p.globals p.arrays

-- a value of the sort, where there are n processes
abbrev pub IsOfSort : Signature → ℕ → Sort → Val → Type 0
IsOfSort sig n (Sort.Fin k) (Con c) = c < constructors_of sig (Sort.Fin k)
IsOfSort sig n (Sort.Fin k) (Proc i) = ⊥
IsOfSort sig n (Sort.Fin k) (Int m) = ⊥
IsOfSort sig n Sort.Proc (Con c) = ⊥
IsOfSort sig n Sort.Proc (Proc i) = i < n
IsOfSort sig n Sort.Proc (Int m) = ⊥
IsOfSort sig n Sort.Int (Con c) = ⊥
IsOfSort sig n Sort.Int (Proc i) = ⊥
IsOfSort sig n Sort.Int (Int m) = Unit {0}

-- the cells of an array: one a process, each of the array's sort
pub record AreCells (sig : Signature) (n : ℕ) (d : Decl) (values : List Val) : Type 0 where
  pub one_each : length values ≡ n
  pub fit : All (IsOfSort sig n d.sort) values

-- a state of the protocol: at least one process, a value of its sort for each global, and the cells of each array;
-- a process global names one of the processes, alive or dead
pub record IsStateOf (p : Protocol) (s : Configuration) : Type 0 where
  pub some_process : 0 < process_count s
  pub globals_fit : AllZip (λ d v. IsOfSort (signature_of p) (process_count s) d.sort v) p.globals s.globals
  pub arrays_fit : AllZip (AreCells (signature_of p) (process_count s)) p.arrays s.arrays

-- the state of so many processes where all are alive and every value is the first of its sort
abbrev pub first_state : Protocol → ℕ → Configuration
first_state p n = record {
  living = replicate n true;
  globals = map (λ d. first_value d.sort) p.globals;
  arrays = map (λ d. replicate n (first_value d.sort)) p.arrays;
}
