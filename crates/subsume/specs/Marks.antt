-- Marks: what the literals of a cube say, in a few words of bits. Where one cube covers another that some state meets, the
-- marks of the first are among those that the second offers.
use Rattle.std.specs.Prelude.{◌≡◌, ℕ, ◌+◌, ◌-◌, ◌*◌, ◌%◌, ◌^◌, ◌<◌, ◌==◌, ℤ, pos, ◌+ℤ◌, Bool, true, false, nat_lt, ◌&&◌, ◌||◌, if◌then◌else◌, List, [], ◌∷◌, IsTrue, unsigned_abs}
use Rattle.std.specs.List.{list_any}
use Rattle.std.specs.Int.{trailing_zeros, w64}
use Rattle.std.specs.Ordering.{int_eq}
use Rattle.cub_proto.specs.declared.literal.Term.{Term}
use Rattle.cub_proto.specs.declared.literal.ISide.{ISide}
use Rattle.cub_proto.specs.declared.literal.ISide.TheVariants.{Zero, At}
use Rattle.cub_proto.specs.declared.literal.Lit.{Lit}
use Rattle.cub_proto.specs.declared.literal.Lit.TheVariants.{FinIn, FinEq, FinNe, ProcEq, ProcNe, Diff}
use Rattle.cub_proto.specs.Signature.{Signature, constructors_at}
use Rattle.cub_proto.specs.Truth.{has_bit}
use Rattle.cub_cube.specs.Mentions.{terms_of}
use Rattle.fin_dom.specs.Solution.{same_term}
use Rattle.theory_laws.specs.Kinds.{is_link}
use Rattle.subsume.specs.declared.marks.Marks.{Marks}

-- the terms of a literal that a cube entails only if it mentions them: all, but for an equality of terms with one
-- constructor, which is always true
abbrev pub asked_terms : Signature → Lit → List Term
asked_terms sig (FinIn t mask) = terms_of (FinIn t mask)
asked_terms sig (FinEq a b) = if constructors_at sig a == 1 then [] else terms_of (FinEq a b)
asked_terms sig (FinNe a b) = terms_of (FinNe a b)
asked_terms sig (ProcEq a b) = terms_of (ProcEq a b)
asked_terms sig (ProcNe a b) = terms_of (ProcNe a b)
asked_terms sig (Diff a b bound) = terms_of (Diff a b bound)

abbrev pub is_global : ℕ → Term → Bool
is_global b (Term.Global g) = g == b
is_global b (Term.Cell a p) = false

abbrev pub is_cell : ℕ → Term → Bool
is_cell b (Term.Global g) = false
is_cell b (Term.Cell a p) = a == b

-- the literal asks for global b, or for a cell of array b
abbrev pub marks_global : Signature → ℕ → Lit → Bool
marks_global sig b l = list_any (is_global b) (asked_terms sig l)

abbrev pub marks_array : Signature → ℕ → Lit → Bool
marks_array sig b l = list_any (is_cell b) (asked_terms sig l)

-- it is a membership of a cell of array b
abbrev pub marks_member : ℕ → Lit → Bool
marks_member b (FinIn t mask) = is_cell b t
marks_member b (FinEq t u) = false
marks_member b (FinNe t u) = false
marks_member b (ProcEq t u) = false
marks_member b (ProcNe t u) = false
marks_member b (Diff t u bound) = false

-- the bit of a constructor of a global or of an array's cells. Bits of arrays are counted from the low end and those of
-- globals from the high end, 7 for each, so that few of them meet
abbrev pub constructor_bit : Term → ℕ → ℕ
constructor_bit (Term.Global g) c = 63 - (7 * g + c) % 64
constructor_bit (Term.Cell a p) c = (7 * a + c) % 64

abbrev pub low : ℕ → ℕ
low mask = trailing_zeros w64 mask

-- it is a membership in one constructor, which has that bit
abbrev pub marks_constructor : ℕ → Lit → Bool
marks_constructor b (FinIn t mask) = (mask == 2 ^ low mask) && (constructor_bit t (low mask) == b)
marks_constructor b (FinEq t u) = false
marks_constructor b (FinNe t u) = false
marks_constructor b (ProcEq t u) = false
marks_constructor b (ProcNe t u) = false
marks_constructor b (Diff t u bound) = false

-- two items of the list pass the test
abbrev pub twice : {A : Type 0} → (A → Bool) → List A → Bool
twice test [] = false
twice test (x ∷ xs) = (test x && list_any test xs) || twice test xs

-- two items of the list, or one taken twice, pass the test together
abbrev pub some_two : {A : Type 0} → (A → A → Bool) → List A → Bool
some_two test xs = list_any (λ x. list_any (test x) xs) xs

-- the bit of two constructors of cells of two arrays at one place
abbrev pub joint_bit : ℕ → ℕ → ℕ → ℕ → ℕ
joint_bit a c b d = (7 * a + c + 23 * (7 * b + d)) % 64

-- it is a membership in one constructor, of a cell of a later array at that place, and the two constructors have that bit
abbrev pub joins : ℕ → ℕ → ℕ → ℕ → Term → ℕ → Bool
joins n a p c (Term.Global g) mask = false
joins n a p c (Term.Cell b q) mask = (nat_lt a b && p == q) && ((mask == 2 ^ low mask) && (joint_bit a c b (low mask) == n))

abbrev pub joined_by : ℕ → ℕ → ℕ → ℕ → Lit → Bool
joined_by n a p c (FinIn t mask) = joins n a p c t mask
joined_by n a p c (FinEq t u) = false
joined_by n a p c (FinNe t u) = false
joined_by n a p c (ProcEq t u) = false
joined_by n a p c (ProcNe t u) = false
joined_by n a p c (Diff t u bound) = false

abbrev pub joint_from : ℕ → Term → ℕ → Lit → Bool
joint_from n (Term.Global g) mask m = false
joint_from n (Term.Cell a p) mask m = (mask == 2 ^ low mask) && joined_by n a p (low mask) m

-- they are memberships of cells at one place, each in one constructor, which have that bit together
abbrev pub marks_joint : ℕ → Lit → Lit → Bool
marks_joint n (FinIn t mask) m = joint_from n t mask m
marks_joint n (FinEq t u) m = false
marks_joint n (FinNe t u) m = false
marks_joint n (ProcEq t u) m = false
marks_joint n (ProcNe t u) m = false
marks_joint n (Diff t u bound) m = false

-- the bit of a value of an integer term
abbrev pub value_bit : Term → ℤ → ℕ
value_bit t k = constructor_bit t (unsigned_abs k % 64)

-- the bound says that the term is at least k, and no more
abbrev pub floors : Term → ℤ → ISide → ISide → ℤ → Bool
floors t k Zero Zero bound = false
floors t k Zero (At u) bound = same_term u t && int_eq (bound +ℤ k) (pos 0)
floors t k (At u) b bound = false

abbrev pub is_floor : Term → ℤ → Lit → Bool
is_floor t k (FinIn u mask) = false
is_floor t k (FinEq a b) = false
is_floor t k (FinNe a b) = false
is_floor t k (ProcEq a b) = false
is_floor t k (ProcNe a b) = false
is_floor t k (Diff a b bound) = floors t k a b bound

abbrev pub value_from : ℕ → ISide → ISide → ℤ → Lit → Bool
value_from n Zero b k m = false
value_from n (At t) Zero k m = (value_bit t k == n) && is_floor t k m
value_from n (At t) (At u) k m = false

-- one bounds an integer term from above and the other from below, both by one value, which has that bit
abbrev pub marks_value : ℕ → Lit → Lit → Bool
marks_value n (FinIn t mask) m = false
marks_value n (FinEq t u) m = false
marks_value n (FinNe t u) m = false
marks_value n (ProcEq t u) m = false
marks_value n (ProcNe t u) m = false
marks_value n (Diff a b bound) m = value_from n a b bound m

-- a bound on the difference of two integer terms
abbrev pub is_between : ISide → ISide → Bool
is_between Zero b = false
is_between (At t) Zero = false
is_between (At t) (At u) = true

abbrev pub is_bond : Lit → Bool
is_bond (FinIn t mask) = false
is_bond (FinEq t u) = false
is_bond (FinNe t u) = false
is_bond (ProcEq t u) = false
is_bond (ProcNe t u) = false
is_bond (Diff a b bound) = is_between a b

-- the marks are those of the literals
pub record HasMarks (sig : Signature) (lits : List Lit) (m : Marks) : Type 0 where
  pub globals : (b : ℕ) → b < 64 → has_bit m.globals b ≡ list_any (marks_global sig b) lits
  pub arrays : (b : ℕ) → b < 64 → has_bit m.arrays b ≡ list_any (marks_array sig b) lits
  pub members : (b : ℕ) → b < 64 → has_bit m.members b ≡ twice (marks_member b) lits
  pub constructors : (b : ℕ) → b < 64 → has_bit m.constructors b ≡ list_any (marks_constructor b) lits
  pub pairs : (b : ℕ) → b < 64 → has_bit m.pairs b ≡ twice (marks_constructor b) lits
  pub joint : (b : ℕ) → b < 64 → has_bit m.joint b ≡ some_two (marks_joint b) lits
  pub values : (b : ℕ) → b < 64 → has_bit m.values b ≡ some_two (marks_value b) lits

-- the marks that literals offer are theirs. Where an equality or disequality of finite terms is among them, they may
-- entail memberships that don't stand there, so they offer each mark of a membership; and where differences of integer
-- terms are bounded, each mark of a value
pub record HasOffers (sig : Signature) (lits : List Lit) (m : Marks) : Type 0 where
  pub globals : (b : ℕ) → b < 64 → has_bit m.globals b ≡ list_any (marks_global sig b) lits
  pub arrays : (b : ℕ) → b < 64 → has_bit m.arrays b ≡ list_any (marks_array sig b) lits
  pub members : (b : ℕ) → b < 64 → has_bit m.members b ≡ (list_any is_link lits || twice (marks_member b) lits)
  pub constructors : (b : ℕ) → b < 64 → has_bit m.constructors b ≡ (list_any is_link lits || list_any (marks_constructor b) lits)
  pub pairs : (b : ℕ) → b < 64 → has_bit m.pairs b ≡ (list_any is_link lits || twice (marks_constructor b) lits)
  pub joint : (b : ℕ) → b < 64 → has_bit m.joint b ≡ (list_any is_link lits || some_two (marks_joint b) lits)
  pub values : (b : ℕ) → b < 64 → has_bit m.values b ≡ (list_any is_bond lits || some_two (marks_value b) lits)

-- each bit is a mark of the literals
pub record AreMarksOf (sig : Signature) (lits : List Lit) (m : Marks) : Type 0 where
  pub globals : (b : ℕ) → b < 64 → IsTrue (has_bit m.globals b) → IsTrue (list_any (marks_global sig b) lits)
  pub arrays : (b : ℕ) → b < 64 → IsTrue (has_bit m.arrays b) → IsTrue (list_any (marks_array sig b) lits)
  pub members : (b : ℕ) → b < 64 → IsTrue (has_bit m.members b) → IsTrue (twice (marks_member b) lits)
  pub constructors : (b : ℕ) → b < 64 → IsTrue (has_bit m.constructors b) → IsTrue (list_any (marks_constructor b) lits)
  pub pairs : (b : ℕ) → b < 64 → IsTrue (has_bit m.pairs b) → IsTrue (twice (marks_constructor b) lits)
  pub joint : (b : ℕ) → b < 64 → IsTrue (has_bit m.joint b) → IsTrue (some_two (marks_joint b) lits)
  pub values : (b : ℕ) → b < 64 → IsTrue (has_bit m.values b) → IsTrue (some_two (marks_value b) lits)

-- each mark that the literals offer is a bit
pub record HaveOffersOf (sig : Signature) (lits : List Lit) (m : Marks) : Type 0 where
  pub globals : (b : ℕ) → b < 64 → IsTrue (list_any (marks_global sig b) lits) → IsTrue (has_bit m.globals b)
  pub arrays : (b : ℕ) → b < 64 → IsTrue (list_any (marks_array sig b) lits) → IsTrue (has_bit m.arrays b)
  pub members : (b : ℕ) → b < 64 → IsTrue (list_any is_link lits || twice (marks_member b) lits) → IsTrue (has_bit m.members b)
  pub constructors : (b : ℕ) → b < 64 → IsTrue (list_any is_link lits || list_any (marks_constructor b) lits) → IsTrue (has_bit m.constructors b)
  pub pairs : (b : ℕ) → b < 64 → IsTrue (list_any is_link lits || twice (marks_constructor b) lits) → IsTrue (has_bit m.pairs b)
  pub joint : (b : ℕ) → b < 64 → IsTrue (list_any is_link lits || some_two (marks_joint b) lits) → IsTrue (has_bit m.joint b)
  pub values : (b : ℕ) → b < 64 → IsTrue (list_any is_bond lits || some_two (marks_value b) lits) → IsTrue (has_bit m.values b)

-- each bit of the first word is one of the second
abbrev pub IsPart : ℕ → ℕ → Type 0
IsPart a b = (c : ℕ) → c < 64 → IsTrue (has_bit a c) → IsTrue (has_bit b c)

-- each mark of the first is one of the second
pub record AreAmong (m n : Marks) : Type 0 where
  pub globals : IsPart m.globals n.globals
  pub arrays : IsPart m.arrays n.arrays
  pub members : IsPart m.members n.members
  pub constructors : IsPart m.constructors n.constructors
  pub pairs : IsPart m.pairs n.pairs
  pub joint : IsPart m.joint n.joint
  pub values : IsPart m.values n.values
