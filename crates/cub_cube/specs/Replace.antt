-- A literal whose terms are replaced by the values that they take. Each is again one literal.
use Rattle.std.specs.Prelude.{◌≡◌, All, ℕ, ◌^◌, ℤ, pos, ◌-ℤ◌, ◌+ℤ◌, Bool, false, ◌==◌, if◌then◌else◌, List}
use Rattle.std.specs.List.{list_all}
use Rattle.std.specs.Option.{option_map_or}
use Rattle.cub_proto.specs.declared.literal.Sort.{Sort}
use Rattle.cub_proto.specs.declared.literal.Term.{Term}
use Rattle.cub_proto.specs.declared.literal.PSide.{PSide}
use Rattle.cub_proto.specs.declared.literal.ISide.{ISide}
use Rattle.cub_proto.specs.declared.literal.ISide.TheVariants.{Zero, At}
use Rattle.cub_proto.specs.declared.literal.Lit.{Lit}
use Rattle.cub_proto.specs.declared.literal.Lit.TheVariants.{FinIn, FinEq, FinNe, ProcEq, ProcNe, Diff}
use Rattle.cub_proto.specs.declared.literal.Value.{Value}
use Rattle.cub_proto.specs.Signature.{Signature, sort_of}
use Rattle.cub_proto.specs.Configuration.{Configuration}
use Rattle.cub_proto.specs.Truth.{has_bit, term_value}
use Rattle.cub_proto.specs.Effect.{meaning_of}
use Rattle.cub_proto.specs.Fits.{term_fits, value_fits}
use Rattle.cub_proto.specs.Negation.{negated}
use Rattle.cub_cube.specs.Mentions.{terms_of}

-- a literal that is always true, or never
abbrev pub constant : Bool → Lit
constant b = Diff Zero Zero (if b then pos 0 else pos 0 -ℤ pos 1)

-- a side of an equality of finite values: a constructor, or a term that has one
pub data FiniteSide : Type 0 where
  Known : (c : ℕ) → FiniteSide
  Has : (t : Term) → FiniteSide

-- what a finite term is replaced by; a value of another kind has the constructor 0
abbrev pub finite_side : Value → FiniteSide
finite_side (Value.Con c) = Known c
finite_side (Value.Read t) = Has t
finite_side (Value.Proc side) = Known 0
finite_side (Value.Sum base add) = Known 0
finite_side Value.Any = Known 0

-- the constructor is in the mask
abbrev pub side_in : FiniteSide → ℕ → Lit
side_in (Known c) mask = constant (has_bit mask c)
side_in (Has t) mask = FinIn t mask

-- both are the same constructor
abbrev pub sides_equal : FiniteSide → FiniteSide → Lit
sides_equal (Known c) (Known d) = constant (c == d)
sides_equal (Known c) (Has u) = FinIn u (2 ^ c)
sides_equal (Has t) (Known d) = FinIn t (2 ^ d)
sides_equal (Has t) (Has u) = FinEq t u

-- what a process global is replaced by; the old side where the value names no process
abbrev pub process_value : PSide → Value → PSide
process_value side (Value.Con c) = side
process_value side (Value.Read (Term.Global g)) = PSide.Global g
process_value side (Value.Read (Term.Cell a p)) = side
process_value side (Value.Proc other) = other
process_value side (Value.Sum base add) = side
process_value side Value.Any = side

abbrev pub replaced_process_side : (Term → Value) → PSide → PSide
replaced_process_side value (PSide.Global g) = process_value (PSide.Global g) (value (Term.Global g))
replaced_process_side value (PSide.Place p) = PSide.Place p

-- what an integer term is replaced by: a side and a number that is added to it
abbrev pub base_of : Value → ISide
base_of (Value.Con c) = Zero
base_of (Value.Read t) = At t
base_of (Value.Proc side) = Zero
base_of (Value.Sum base add) = base
base_of Value.Any = Zero

abbrev pub added_of : Value → ℤ
added_of (Value.Con c) = pos 0
added_of (Value.Read t) = pos 0
added_of (Value.Proc side) = pos 0
added_of (Value.Sum base add) = add
added_of Value.Any = pos 0

abbrev pub replaced_base : (Term → Value) → ISide → ISide
replaced_base value Zero = Zero
replaced_base value (At t) = base_of (value t)

abbrev pub replaced_added : (Term → Value) → ISide → ℤ
replaced_added value Zero = pos 0
replaced_added value (At t) = added_of (value t)

-- the literal with each term replaced by its value; of a difference the added numbers go into the bound
abbrev pub replaced : Signature → (Term → Value) → Lit → Lit
replaced sig value (FinIn t mask) = side_in (finite_side (value t)) mask
replaced sig value (FinEq a b) = sides_equal (finite_side (value a)) (finite_side (value b))
replaced sig value (FinNe a b) = negated sig (sides_equal (finite_side (value a)) (finite_side (value b)))
replaced sig value (ProcEq a b) = ProcEq (replaced_process_side value a) (replaced_process_side value b)
replaced sig value (ProcNe a b) = ProcNe (replaced_process_side value a) (replaced_process_side value b)
replaced sig value (Diff a b bound) =
    Diff (replaced_base value a) (replaced_base value b) (bound -ℤ replaced_added value a +ℤ replaced_added value b)

-- the value can stand for a term of the sort: it is of the sort and not `?`, or it reads a term of the sort
abbrev pub can_replace : Signature → ℕ → Sort → Value → Bool
can_replace sig width sort (Value.Con c) = value_fits sig width sort (Value.Con c)
can_replace sig width sort (Value.Read t) = term_fits sig width sort t
can_replace sig width sort (Value.Proc side) = value_fits sig width sort (Value.Proc side)
can_replace sig width sort (Value.Sum base add) = value_fits sig width sort (Value.Sum base add)
can_replace sig width sort Value.Any = false

-- each term of the literal has a value that can stand for it
abbrev pub can_replace_all : Signature → ℕ → (Term → Value) → Lit → Bool
can_replace_all sig width value lit =
    list_all (λ t. option_map_or (λ sort. can_replace sig width sort (value t)) (sort_of sig t) false) (terms_of lit)

-- the literal's terms are at the second state and places what their values give at the first
abbrev pub TakesValues : Configuration → List ℕ → Configuration → List ℕ → (Term → Value) → Lit → Type 0
TakesValues s places after others value lit =
    All (λ t. term_value after others t ≡ meaning_of s places (value t) (term_value s places t)) (terms_of lit)
