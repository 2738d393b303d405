-- The orders of terms, sides and literals are total, and what they find equal is equal.
use Rattle.std.proofs.Common.{◌≡◌, ℕ, ◌<◌, refl, sym, ap, ◌∙◌}
use Rattle.std.proofs.lemmas.Cmp.{nat_cmp_total, int_cmp_total, on_total, then_total, ranked, by_ranked}
use Rattle.std.specs.Cmp.{IsTotalOrder}
use Rattle.std.specs.Ordering.{nat_cmp, int_cmp, ordering_then, ordering_reverse, on, then_cmp}
use Rattle.std.specs.declared.cmp.Ordering.{Ordering}
use Rattle.std.specs.declared.cmp.Ordering.TheVariants.{Less, Equal, Greater}
use Rattle.cub_proto.specs.declared.literal.Term.{Term}
use Rattle.cub_proto.specs.declared.literal.PSide.{PSide}
use Rattle.cub_proto.specs.declared.literal.ISide.{ISide}
use Rattle.cub_proto.specs.declared.literal.ISide.TheVariants.{Zero, At}
use Rattle.cub_proto.specs.declared.literal.Lit.{Lit}
use Rattle.cub_proto.specs.declared.literal.Lit.TheVariants.{FinIn, FinEq, FinNe, ProcEq, ProcNe, Diff}
use Rattle.cub_proto.specs.Order.{term_cmp, process_side_cmp, integer_side_cmp, lit_kind, lit_cmp}
use Rattle.cub_cube.specs.Normal.{subject, subject_cmp, mask_of, bound_of}

pub then_Equal : (o : Ordering) → o ≡ ordering_then o Equal
then_Equal Less = refl
then_Equal Equal = refl
then_Equal Greater = refl

-- two orders that answer alike are both total
alike_total : {K : Type 0} (R S : K → K → Ordering) → ((x y : K) → R x y ≡ S x y) → IsTotalOrder S → IsTotalOrder R
alike_total R S alike total = record {
  antisymm = λ x y. alike x y ∙ total.antisymm x y ∙ ap ordering_reverse (sym (alike y x));
  trans = λ x y z h k. alike x z ∙ total.trans x y z (sym (alike x y) ∙ h) (sym (alike y z) ∙ k);
  congr = λ x y z h. alike x z ∙ total.congr x y z (sym (alike x y) ∙ h) ∙ sym (alike y z);
}

term_kind : Term → ℕ
term_kind (Term.Global g) = 0
term_kind (Term.Cell a p) = 1

term_number : Term → ℕ
term_number (Term.Global g) = g
term_number (Term.Cell a p) = a

term_place : Term → ℕ
term_place (Term.Global g) = 0
term_place (Term.Cell a p) = p

term_parts : Term → Term → Ordering
term_parts = then_cmp (on term_kind nat_cmp) (then_cmp (on term_number nat_cmp) (on term_place nat_cmp))

term_alike : (t u : Term) → term_cmp t u ≡ term_parts t u
unfolding term_parts term_kind term_number term_place
term_alike (Term.Global g) (Term.Global h) = then_Equal (nat_cmp g h)
term_alike (Term.Global g) (Term.Cell b q) = refl
term_alike (Term.Cell a p) (Term.Global h) = refl
term_alike (Term.Cell a p) (Term.Cell b q) = refl

pub term_cmp_total : IsTotalOrder term_cmp
unfolding term_parts
term_cmp_total = alike_total term_cmp term_parts term_alike
    (then_total (on_total term_kind nat_cmp_total) (then_total (on_total term_number nat_cmp_total) (on_total term_place nat_cmp_total)))

side_kind : PSide → ℕ
side_kind (PSide.Global g) = 0
side_kind (PSide.Place p) = 1

side_number : PSide → ℕ
side_number (PSide.Global g) = g
side_number (PSide.Place p) = p

side_parts : PSide → PSide → Ordering
side_parts = then_cmp (on side_kind nat_cmp) (on side_number nat_cmp)

side_alike : (a b : PSide) → process_side_cmp a b ≡ side_parts a b
unfolding side_parts side_kind side_number
side_alike (PSide.Global g) (PSide.Global h) = refl
side_alike (PSide.Global g) (PSide.Place q) = refl
side_alike (PSide.Place p) (PSide.Global h) = refl
side_alike (PSide.Place p) (PSide.Place q) = refl

pub process_side_cmp_total : IsTotalOrder process_side_cmp
unfolding side_parts
process_side_cmp_total = alike_total process_side_cmp side_parts side_alike
    (then_total (on_total side_kind nat_cmp_total) (on_total side_number nat_cmp_total))

integer_kind : ISide → ℕ
integer_kind Zero = 0
integer_kind (At t) = 1

integer_term : ISide → Term
integer_term Zero = Term.Global 0
integer_term (At t) = t

integer_parts : ISide → ISide → Ordering
integer_parts = then_cmp (on integer_kind nat_cmp) (on integer_term term_cmp)

integer_alike : (a b : ISide) → integer_side_cmp a b ≡ integer_parts a b
unfolding integer_parts integer_kind integer_term
integer_alike Zero Zero = refl
integer_alike Zero (At u) = refl
integer_alike (At t) Zero = refl
integer_alike (At t) (At u) = refl

pub integer_side_cmp_total : IsTotalOrder integer_side_cmp
unfolding integer_parts
integer_side_cmp_total = alike_total integer_side_cmp integer_parts integer_alike
    (then_total (on_total integer_kind nat_cmp_total) (on_total integer_term term_cmp_total))

-- the parts of a literal; a default for one that it lacks
first_term : Lit → Term
first_term (FinIn t mask) = t
first_term (FinEq a b) = a
first_term (FinNe a b) = a
first_term (ProcEq a b) = Term.Global 0
first_term (ProcNe a b) = Term.Global 0
first_term (Diff a b bound) = Term.Global 0

second_term : Lit → Term
second_term (FinIn t mask) = Term.Global 0
second_term (FinEq a b) = b
second_term (FinNe a b) = b
second_term (ProcEq a b) = Term.Global 0
second_term (ProcNe a b) = Term.Global 0
second_term (Diff a b bound) = Term.Global 0

first_process : Lit → PSide
first_process (FinIn t mask) = PSide.Global 0
first_process (FinEq a b) = PSide.Global 0
first_process (FinNe a b) = PSide.Global 0
first_process (ProcEq a b) = a
first_process (ProcNe a b) = a
first_process (Diff a b bound) = PSide.Global 0

second_process : Lit → PSide
second_process (FinIn t mask) = PSide.Global 0
second_process (FinEq a b) = PSide.Global 0
second_process (FinNe a b) = PSide.Global 0
second_process (ProcEq a b) = b
second_process (ProcNe a b) = b
second_process (Diff a b bound) = PSide.Global 0

first_integer : Lit → ISide
first_integer (FinIn t mask) = Zero
first_integer (FinEq a b) = Zero
first_integer (FinNe a b) = Zero
first_integer (ProcEq a b) = Zero
first_integer (ProcNe a b) = Zero
first_integer (Diff a b bound) = a

second_integer : Lit → ISide
second_integer (FinIn t mask) = Zero
second_integer (FinEq a b) = Zero
second_integer (FinNe a b) = Zero
second_integer (ProcEq a b) = Zero
second_integer (ProcNe a b) = Zero
second_integer (Diff a b bound) = b

lit_parts : Lit → Lit → Ordering
lit_parts = then_cmp (on lit_kind nat_cmp) (then_cmp (on first_term term_cmp) (then_cmp (on second_term term_cmp)
    (then_cmp (on first_process process_side_cmp) (then_cmp (on second_process process_side_cmp)
    (then_cmp (on first_integer integer_side_cmp) (then_cmp (on second_integer integer_side_cmp)
    (then_cmp (on mask_of nat_cmp) (on bound_of int_cmp))))))))

then_then_Equal : (o q : Ordering) → ordering_then o q ≡ ordering_then o (ordering_then q Equal)
then_then_Equal o q = ap (ordering_then o) (then_Equal q)

lit_alike : (l m : Lit) → lit_cmp l m ≡ lit_parts l m
unfolding lit_parts first_term second_term first_process second_process first_integer second_integer
lit_alike (FinIn t m) (FinIn u n) = then_then_Equal (term_cmp t u) (nat_cmp m n)
lit_alike (FinEq a b) (FinEq c d) = then_then_Equal (term_cmp a c) (term_cmp b d)
lit_alike (FinNe a b) (FinNe c d) = then_then_Equal (term_cmp a c) (term_cmp b d)
lit_alike (ProcEq a b) (ProcEq c d) = then_then_Equal (process_side_cmp a c) (process_side_cmp b d)
lit_alike (ProcNe a b) (ProcNe c d) = then_then_Equal (process_side_cmp a c) (process_side_cmp b d)
lit_alike (Diff a b m) (Diff c d n) = refl
lit_alike l m = refl

pub lit_cmp_total : IsTotalOrder lit_cmp
unfolding lit_parts
lit_cmp_total = alike_total lit_cmp lit_parts lit_alike
    (then_total (on_total lit_kind nat_cmp_total) (then_total (on_total first_term term_cmp_total)
    (then_total (on_total second_term term_cmp_total) (then_total (on_total first_process process_side_cmp_total)
    (then_total (on_total second_process process_side_cmp_total) (then_total (on_total first_integer integer_side_cmp_total)
    (then_total (on_total second_integer integer_side_cmp_total) (then_total (on_total mask_of nat_cmp_total) (on_total bound_of int_cmp_total)))))))))

pub subject_cmp_total : IsTotalOrder subject_cmp
subject_cmp_total = on_total subject lit_cmp_total

-- both parts are equal where one after the other is
pub then_both : (o q : Ordering) → ordering_then o q ≡ Equal → (o ≡ Equal) × (q ≡ Equal)
then_both Less q h = cc
then_both Equal q h = (refl, h)
then_both Greater q h = cc

pub numbers_equal : (x y : ℕ) → nat_cmp x y ≡ Equal → x ≡ y
numbers_equal x y h = by_ranked (x < y) (x ≡ y) (y < x) (nat_cmp x y) (ranked x y (nat_cmp x y) refl) (λ e _. absurd (cc)) (λ _ e. e) (λ e _. absurd (cc))

pub terms_equal : (t u : Term) → term_cmp t u ≡ Equal → t ≡ u
terms_equal (Term.Global g) (Term.Global h) e = ap (λ n. Term.Global n) (numbers_equal g h e)
terms_equal (Term.Global g) (Term.Cell b q) e = cc
terms_equal (Term.Cell a p) (Term.Global h) e = cc
terms_equal (Term.Cell a p) (Term.Cell b q) e =
    let both = then_both (nat_cmp a b) (nat_cmp p q) e in
    let array = numbers_equal a b both.0 in
    let place = numbers_equal p q both.1 in
    cc

pub process_sides_equal : (a b : PSide) → process_side_cmp a b ≡ Equal → a ≡ b
process_sides_equal (PSide.Global g) (PSide.Global h) e = ap (λ n. PSide.Global n) (numbers_equal g h e)
process_sides_equal (PSide.Global g) (PSide.Place q) e = cc
process_sides_equal (PSide.Place p) (PSide.Global h) e = cc
process_sides_equal (PSide.Place p) (PSide.Place q) e = ap (λ n. PSide.Place n) (numbers_equal p q e)

pub integer_sides_equal : (a b : ISide) → integer_side_cmp a b ≡ Equal → a ≡ b
integer_sides_equal Zero Zero e = refl
integer_sides_equal Zero (At u) e = cc
integer_sides_equal (At t) Zero e = cc
integer_sides_equal (At t) (At u) e = ap (λ v. At v) (terms_equal t u e)
