-- The truth of literals at a state with a process for each place.
use Rattle.std.specs.Prelude.{ℕ, ◌<◌, ℤ, pos, Bool, not, ◌==◌, ◌-ℤ◌, int_le, List, length, slice_index, All}
use Rattle.std.specs.List.{list_all, list_any}
use Rattle.std.specs.Int.{bit_at}
use Rattle.cub_proto.specs.declared.literal.Term.{Term}
use Rattle.cub_proto.specs.declared.literal.PSide.{PSide}
use Rattle.cub_proto.specs.declared.literal.ISide.{ISide}
use Rattle.cub_proto.specs.declared.literal.ISide.TheVariants.{Zero, At}
use Rattle.cub_proto.specs.declared.literal.Lit.{Lit}
use Rattle.cub_proto.specs.declared.literal.Lit.TheVariants.{FinIn, FinEq, FinNe, ProcEq, ProcNe, Diff}
use Rattle.cub_proto.specs.declared.state.Slot.{Slot}
use Rattle.cub_proto.specs.declared.state.Val.{Val}
use Rattle.cub_proto.specs.declared.state.Val.TheVariants.{Con, Proc, Int}
use Rattle.cub_proto.specs.Configuration.{Configuration, value_at, HasSlot}

-- the constructor, process or integer that a value is; 0 for a value of another kind
abbrev pub constructor_of : Val → ℕ
constructor_of (Con c) = c
constructor_of (Proc i) = 0
constructor_of (Int n) = 0

abbrev pub process_of : Val → ℕ
process_of (Con c) = 0
process_of (Proc i) = i
process_of (Int n) = 0

abbrev pub integer_of : Val → ℤ
integer_of (Con c) = pos 0
integer_of (Proc i) = pos 0
integer_of (Int n) = n

-- the slot of a term, where item p of the list is the process at place p
abbrev pub slot_of : List ℕ → Term → Slot
slot_of places (Term.Global g) = Slot.Global g
slot_of places (Term.Cell a p) = Slot.Cell a (slice_index places p)

-- the value of a term
abbrev pub term_value : Configuration → List ℕ → Term → Val
term_value s places t = value_at s (slot_of places t)

abbrev pub constructor_at : Configuration → List ℕ → Term → ℕ
constructor_at s places t = constructor_of (term_value s places t)

abbrev pub process_at : Configuration → List ℕ → PSide → ℕ
process_at s places (PSide.Global g) = process_of (value_at s (Slot.Global g))
process_at s places (PSide.Place p) = slice_index places p

abbrev pub integer_at : Configuration → List ℕ → ISide → ℤ
integer_at s places Zero = pos 0
integer_at s places (At t) = integer_of (term_value s places t)

-- the mask has the constructor
abbrev pub has_bit : ℕ → ℕ → Bool
has_bit mask c = bit_at mask c == 1

-- the literal is true at the state
abbrev pub is_true : Configuration → List ℕ → Lit → Bool
is_true s places (FinIn t mask) = has_bit mask (constructor_at s places t)
is_true s places (FinEq a b) = constructor_at s places a == constructor_at s places b
is_true s places (FinNe a b) = not (constructor_at s places a == constructor_at s places b)
is_true s places (ProcEq a b) = process_at s places a == process_at s places b
is_true s places (ProcNe a b) = not (process_at s places a == process_at s places b)
is_true s places (Diff a b bound) = int_le (integer_at s places a -ℤ integer_at s places b) bound

-- a conjunction is true
abbrev pub all_true : Configuration → List ℕ → List Lit → Bool
all_true s places lits = list_all (is_true s places) lits

-- some conjunction of a disjunction is true
abbrev pub any_true : Configuration → List ℕ → List (List Lit) → Bool
any_true s places conjs = list_any (all_true s places) conjs

-- what a literal reads is there: its places have processes, and their slots are in the state
abbrev pub HasTerm : Configuration → List ℕ → Term → Type 0
HasTerm s places (Term.Global g) = HasSlot s (Slot.Global g)
HasTerm s places (Term.Cell a p) = (p < length places) × HasSlot s (Slot.Cell a (slice_index places p))

abbrev pub HasProcessSide : Configuration → List ℕ → PSide → Type 0
HasProcessSide s places (PSide.Global g) = HasSlot s (Slot.Global g)
HasProcessSide s places (PSide.Place p) = p < length places

abbrev pub HasIntegerSide : Configuration → List ℕ → ISide → Type 0
HasIntegerSide s places Zero = Unit {0}
HasIntegerSide s places (At t) = HasTerm s places t

abbrev pub HasLiteral : Configuration → List ℕ → Lit → Type 0
HasLiteral s places (FinIn t mask) = HasTerm s places t
HasLiteral s places (FinEq a b) = HasTerm s places a × HasTerm s places b
HasLiteral s places (FinNe a b) = HasTerm s places a × HasTerm s places b
HasLiteral s places (ProcEq a b) = HasProcessSide s places a × HasProcessSide s places b
HasLiteral s places (ProcNe a b) = HasProcessSide s places a × HasProcessSide s places b
HasLiteral s places (Diff a b bound) = HasIntegerSide s places a × HasIntegerSide s places b

abbrev pub HasLiterals : Configuration → List ℕ → List Lit → Type 0
HasLiterals s places lits = All (HasLiteral s places) lits
