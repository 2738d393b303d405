-- Kinds of literals: each part of a conjunction has its own.
use Rattle.std.specs.Prelude.{ℕ, Bool, true, false, ◌&&◌, ◌||◌, nat_lt, List, slice_index}
use Rattle.cub_proto.specs.declared.literal.Term.{Term}
use Rattle.cub_proto.specs.declared.literal.Lit.{Lit}
use Rattle.cub_proto.specs.declared.literal.Lit.TheVariants.{FinIn, FinEq, FinNe, ProcEq, ProcNe, Diff}
use Rattle.cub_proto.specs.Signature.{Signature, constructors_at}
use Rattle.cub_proto.specs.Truth.{has_bit}
use Rattle.fin_dom.specs.Solution.{same_term}
use Rattle.fin_dom.specs.Table.{number_of}

abbrev pub is_finite_literal : Lit → Bool
is_finite_literal (FinIn t mask) = true
is_finite_literal (FinEq a b) = true
is_finite_literal (FinNe a b) = true
is_finite_literal (ProcEq a b) = false
is_finite_literal (ProcNe a b) = false
is_finite_literal (Diff a b bound) = false

abbrev pub is_process_literal : Lit → Bool
is_process_literal (FinIn t mask) = false
is_process_literal (FinEq a b) = false
is_process_literal (FinNe a b) = false
is_process_literal (ProcEq a b) = true
is_process_literal (ProcNe a b) = true
is_process_literal (Diff a b bound) = false

abbrev pub is_integer_literal : Lit → Bool
is_integer_literal (FinIn t mask) = false
is_integer_literal (FinEq a b) = false
is_integer_literal (FinNe a b) = false
is_integer_literal (ProcEq a b) = false
is_integer_literal (ProcNe a b) = false
is_integer_literal (Diff a b bound) = true

-- an equality or disequality of finite terms, one of which is the term
abbrev pub links : Term → Lit → Bool
links t (FinIn s mask) = false
links t (FinEq a b) = same_term a t || same_term b t
links t (FinNe a b) = same_term a t || same_term b t
links t (ProcEq a b) = false
links t (ProcNe a b) = false
links t (Diff a b bound) = false

-- the constructor is one of the term's sort, and the table of masks leaves it to the term
abbrev pub is_open : Signature → List ℕ → Term → ℕ → Bool
is_open sig masks t c = nat_lt c (constructors_at sig t) && has_bit (slice_index masks (number_of t)) c

-- an equality or disequality of finite terms
abbrev pub is_link : Lit → Bool
is_link (FinIn t mask) = false
is_link (FinEq a b) = true
is_link (FinNe a b) = true
is_link (ProcEq a b) = false
is_link (ProcNe a b) = false
is_link (Diff a b bound) = false
