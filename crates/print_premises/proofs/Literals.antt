-- The literals of texts: those that the typing makes can be written and are normal, and so are their negations.
use Rattle.std.proofs.Common.{◌≡◌, ℕ, ◌-◌, ◌^◌, ◌<◌, ◌≤◌, ℤ, pos, ◌-ℤ◌, Bool, true, false, List, refl, sym, ap, ap₂, ◌∙◌, arith, nat_lt, nat_le, w64}
use Rattle.std.specs.Prelude.{◌==◌, ◌&&◌, not, if◌then◌else◌, count_ones, unsigned_abs, int_lt}
use Rattle.std.specs.List.{list_all}
use Rattle.std.specs.Int.{trailing_zeros, trailing_ones}
use Rattle.std.specs.Ordering.{nat_cmp, ordering_then, ordering_reverse}
use Rattle.std.specs.declared.cmp.Ordering.{Ordering}
use Rattle.std.specs.declared.cmp.Ordering.TheVariants.{Less, Equal, Greater}
use Rattle.std.proofs.Math.Pow.{pow_mono, pow-lt}
use Rattle.std.proofs.lemmas.Cmp.{nat_cmp_total}
use Rattle.std.proofs.lemmas.Int.{ints}
use Rattle.std.proofs.lemmas.Bool.Decides.{nat_tests}
use Rattle.std.proofs.lemmas.List.Folds.{list_all-map}
use Rattle.cub_base.proofs.Bools.{and_left, and_right, and_both, or_intro_left, or_intro_right, same_refl, same_is, is_less}
use Rattle.cub_dnf.specs.declared.formula.Formula.{Formula}
use Rattle.cub_dnf.specs.declared.formula.Formula.TheOpen.{Formula-F}
use Rattle.cub_dnf.specs.declared.formula.Formula.TheVariants as f
use Rattle.cub_dnf.specs.declared.formula.Formula.TheFolds.{fold-Formula}
use Rattle.cub_dnf.specs.Fits.{all_pass}
use Rattle.cub_dnf.specs.Lists.{list_of}
use Rattle.cub_dnf.proofs.Folding.{at_one, at_equation, at_negation, at_all, at_any}
use Rattle.cub_dnf.proofs.Fitting.{all_pass_of}
use Rattle.cub_types.specs.Formulas.{is_greater}
use Rattle.cub_proto.specs.declared.literal.Term.{Term}
use Rattle.cub_proto.specs.declared.literal.PSide.{PSide}
use Rattle.cub_proto.specs.declared.literal.ISide.{ISide}
use Rattle.cub_proto.specs.declared.literal.ISide.TheVariants.{Zero, At}
use Rattle.cub_proto.specs.declared.literal.Lit.{Lit}
use Rattle.cub_proto.specs.declared.literal.Lit.TheVariants.{FinIn, FinEq, FinNe, ProcEq, ProcNe, Diff}
use Rattle.cub_proto.specs.declared.protocol.Protocol.{Protocol}
use Rattle.cub_proto.specs.Order.{term_cmp, process_side_cmp}
use Rattle.cub_proto.specs.Signature.{constructors_at}
use Rattle.cub_proto.specs.StateOf.{signature_of}
use Rattle.cub_proto.specs.Negation.{negated}
use Rattle.cub_proto.proofs.Constructors.{few_constructors}
use Rattle.print_words.specs.Writable.{is_writable_literal}
use Rattle.print_formulas.specs.Normal.{is_zero, is_normal_literal}
use Rattle.print_premises.proofs.Masks.{ones_of_power, one_is_lowest, lowest_lacked}

-- the literal is one of a text
abbrev pub is_textual : Protocol → Lit → Bool
is_textual p lit = is_writable_literal p lit && is_normal_literal p lit

-- and its negation is too
abbrev pub is_closed : Protocol → Lit → Bool
is_closed p lit = is_textual p lit && is_textual p (negated (signature_of p) lit)

-- ---- masks
if_either : (b : Bool) (x y : Bool) → (b ≡ true → x ≡ true) → (b ≡ false → y ≡ true) → (if b then x else y) ≡ true
if_either true x y h g = h refl
if_either false x y h g = g refl

is_same : (x y : ℕ) → x ≡ y → (x == y) ≡ true
is_same x y h = ap (λ (z : ℕ). x == z) (sym h) ∙ same_refl x

module _ (p : Protocol) (t : Term) (c : ℕ) (below : c < constructors_at (signature_of p) t) where
  abbrev n : ℕ
  n = constructors_at (signature_of p) t

  abbrev others : ℕ
  others = 2 ^ n - 1 - 2 ^ c

  few : n ≤ 64
  few = few_constructors p t

  power_word : 2 ^ c < 2 ^ 64
  power_word = let small : c < 64 = omega (arith, few) in pow-lt small

  others_word : others < 2 ^ 64
  others_word = let wide : 2 ^ n ≤ 2 ^ 64 = pow_mono few in let inside : 2 ^ c < 2 ^ n = pow-lt below in omega arith

  -- the mask of one constructor
  one_textual : is_textual p (FinIn t (2 ^ c)) ≡ true
  one_textual =
      let single = is_same (count_ones (2 ^ c)) 1 (ones_of_power c) in
      and_both (is_writable_literal p (FinIn t (2 ^ c))) (is_normal_literal p (FinIn t (2 ^ c)))
      (or_intro_left (count_ones (2 ^ c) == 1) (nat_lt (trailing_ones w64 (2 ^ c)) n) single)
      (if_either (count_ones (2 ^ c) == 1) (2 ^ c == 2 ^ trailing_zeros w64 (2 ^ c)) (2 ^ c == 2 ^ n - 1 - 2 ^ trailing_ones w64 (2 ^ c))
      (λ e. is_same (2 ^ c) (2 ^ trailing_zeros w64 (2 ^ c)) (one_is_lowest (2 ^ c) power_word (ones_of_power c)))
      (λ e. absurd (let differ = sym single ∙ e in cc)))

  -- and that of all others
  others_textual : is_textual p (FinIn t others) ≡ true
  others_textual =
      let lacked = lowest_lacked n c few below in
      and_both (is_writable_literal p (FinIn t others)) (is_normal_literal p (FinIn t others))
      (or_intro_right (count_ones others == 1) (nat_lt (trailing_ones w64 others) n) (ap (λ (k : ℕ). nat_lt k n) lacked ∙ is_less c n below))
      (if_either (count_ones others == 1) (others == 2 ^ trailing_zeros w64 others) (others == 2 ^ n - 1 - 2 ^ trailing_ones w64 others)
      (λ e. is_same others (2 ^ trailing_zeros w64 others) (one_is_lowest others others_word (same_is (count_ones others) 1 e)))
      (λ e. is_same others (2 ^ n - 1 - 2 ^ trailing_ones w64 others) (ap (λ (k : ℕ). 2 ^ n - 1 - 2 ^ k) (sym lacked))))

  pub mask_closed : is_closed p (FinIn t (2 ^ c)) ≡ true
  mask_closed = and_both (is_textual p (FinIn t (2 ^ c))) (is_textual p (FinIn t others)) one_textual others_textual

-- ---- sides in order
back_then : (o r : Ordering) → ordering_then (ordering_reverse o) (ordering_reverse r) ≡ ordering_reverse (ordering_then o r)
back_then Less r = refl
back_then Equal r = refl
back_then Greater r = refl

numbers_back : (m n : ℕ) → nat_cmp m n ≡ ordering_reverse (nat_cmp n m)
numbers_back m n = nat_cmp_total.antisymm m n

terms_back : (a b : Term) → term_cmp a b ≡ ordering_reverse (term_cmp b a)
terms_back (Term.Global g) (Term.Global h) = numbers_back g h
terms_back (Term.Global g) (Term.Cell b q) = refl
terms_back (Term.Cell a p) (Term.Global h) = refl
terms_back (Term.Cell a p) (Term.Cell b q) = ap₂ ordering_then (numbers_back a b) (numbers_back p q) ∙ back_then (nat_cmp b a) (nat_cmp q p)

processes_back : (a b : PSide) → process_side_cmp a b ≡ ordering_reverse (process_side_cmp b a)
processes_back (PSide.Global g) (PSide.Global h) = numbers_back g h
processes_back (PSide.Global g) (PSide.Place q) = refl
processes_back (PSide.Place p) (PSide.Global h) = refl
processes_back (PSide.Place p) (PSide.Place q) = numbers_back p q

not_back : (o : Ordering) → is_greater (ordering_reverse o) ≡ true → not (is_greater o) ≡ true
not_back Less h = refl
not_back Equal h = cc
not_back Greater h = cc

-- what is exchanged where it is out of order is in order
pub terms_turned : (a b : Term) → is_greater (term_cmp a b) ≡ true → not (is_greater (term_cmp b a)) ≡ true
terms_turned a b h = not_back (term_cmp b a) (sym (ap is_greater (terms_back a b)) ∙ h)

pub processes_turned : (a b : PSide) → is_greater (process_side_cmp a b) ≡ true → not (is_greater (process_side_cmp b a)) ≡ true
processes_turned a b h = not_back (process_side_cmp b a) (sym (ap is_greater (processes_back a b)) ∙ h)

module _ (p : Protocol) where
  pub terms_closed : (a b : Term) → not (is_greater (term_cmp a b)) ≡ true → is_closed p (FinEq a b) ≡ true
  terms_closed a b h = and_both (is_textual p (FinEq a b)) (is_textual p (FinNe a b)) h h

  pub processes_closed : (a b : PSide) → not (is_greater (process_side_cmp a b)) ≡ true → is_closed p (ProcEq a b) ≡ true
  processes_closed a b h = and_both (is_textual p (ProcEq a b)) (is_textual p (ProcNe a b)) h h

-- ---- bounds
some_back : (a b : ISide) → not (is_zero a && is_zero b) ≡ true → not (is_zero b && is_zero a) ≡ true
some_back Zero Zero h = h
some_back Zero (At u) h = refl
some_back (At t) Zero h = refl
some_back (At t) (At u) h = refl

-- at most what two constants make, and a negation below that
abbrev pub IsTextBound : ℤ → Type 0
IsTextBound bound = (not (int_lt (pos 2000000000) bound) ≡ true) × (not (int_lt (pos 2000000000) ((pos 0 -ℤ bound) -ℤ pos 1)) ≡ true)

module _ (p : Protocol) where
  difference_textual : (a b : ISide) (bound : ℤ) → not (is_zero a && is_zero b) ≡ true → not (int_lt (pos 2000000000) bound) ≡ true → is_textual p (Diff a b bound) ≡ true
  difference_textual a b bound some few = and_both (not (int_lt (pos 2000000000) bound)) (not (is_zero a && is_zero b)) few some

  pub difference_closed : (a b : ISide) (bound : ℤ) → not (is_zero a && is_zero b) ≡ true → IsTextBound bound → is_closed p (Diff a b bound) ≡ true
  difference_closed a b bound some few =
      let back = (pos 0 -ℤ bound) -ℤ pos 1 in
      and_both (is_textual p (Diff a b bound)) (is_textual p (Diff b a back))
      (difference_textual a b bound some few.0) (difference_textual b a back (some_back a b some) few.1)

equation_bounds : (bound : ℤ) → nat_le (unsigned_abs bound) 2000000000 ≡ true → (not (int_lt (pos 2000000000) bound) ≡ true)
    × (not (int_lt (pos 2000000000) (pos 0 -ℤ bound)) ≡ true) × (not (int_lt (pos 2000000000) (bound -ℤ pos 1)) ≡ true)
    × (not (int_lt (pos 2000000000) ((pos 0 -ℤ bound) -ℤ pos 1)) ≡ true)
equation_bounds bound h = (grind (arith, ints, nat_tests), grind (arith, ints, nat_tests), grind (arith, ints, nat_tests), grind (arith, ints, nat_tests))

-- ---- formulas of such literals
abbrev pub ready_step : Protocol → Formula-F Bool → Bool
ready_step p (Formula-F.Const value) = true
ready_step p (Formula-F.One lit) = is_closed p lit
ready_step p (Formula-F.IntEq a b bound) = not (is_zero a && is_zero b) && nat_le (unsigned_abs bound) 2000000000
ready_step p (Formula-F.Not part) = part
ready_step p (Formula-F.All parts) = all_pass parts
ready_step p (Formula-F.Any parts) = all_pass parts

-- each literal of the formula is one of a text, and so is its negation
abbrev pub is_ready : Protocol → Formula → Bool
is_ready p = fold-Formula Bool (ready_step p)

abbrev pub are_textual : Protocol → List Lit → Bool
are_textual p lits = list_all (is_textual p) lits

module _ (p : Protocol) where
  pub ready_all : (parts : List Formula) → is_ready p (f.All parts) ≡ list_all (is_ready p) parts
  ready_all parts = at_all (ready_step p) parts ∙ list_all-map (λ b. b) (is_ready p) parts

  pub ready_any : (parts : List Formula) → is_ready p (f.Any parts) ≡ list_all (is_ready p) parts
  ready_any parts = at_any (ready_step p) parts ∙ list_all-map (λ b. b) (is_ready p) parts

  literal_ready : (lit : Lit) → is_ready p (f.One lit) ≡ true → (is_textual p lit ≡ true) × (is_textual p (negated (signature_of p) lit) ≡ true)
  literal_ready lit h =
      let own = is_textual p lit in
      let back = is_textual p (negated (signature_of p) lit) in
      let both = sym (at_one (ready_step p) lit) ∙ h in
      (and_left own back both, and_right own back both)

  equation_ready : (a b : ISide) (bound : ℤ) → is_ready p (f.IntEq a b bound) ≡ true → (is_textual p (Diff a b bound) ≡ true)
      × (is_textual p (Diff b a (pos 0 -ℤ bound)) ≡ true) × (is_textual p (Diff a b (bound -ℤ pos 1)) ≡ true)
      × (is_textual p (Diff b a ((pos 0 -ℤ bound) -ℤ pos 1)) ≡ true)
  equation_ready a b bound h =
      let whole = sym (at_equation (ready_step p) a b bound) ∙ h in
      let some = and_left (not (is_zero a && is_zero b)) (nat_le (unsigned_abs bound) 2000000000) whole in
      let bounds = equation_bounds bound (and_right (not (is_zero a && is_zero b)) (nat_le (unsigned_abs bound) 2000000000) whole) in
      let back = some_back a b some in (
        difference_textual p a b bound some bounds.0,
        difference_textual p b a (pos 0 -ℤ bound) back bounds.1,
        difference_textual p a b (bound -ℤ pos 1) some bounds.2,
        difference_textual p b a ((pos 0 -ℤ bound) -ℤ pos 1) back bounds.3,
      )

  -- its list has literals of texts alone
  pub list_textual : (holds : Bool) (formula : Formula) → is_ready p formula ≡ true → list_all (are_textual p) (list_of (signature_of p) holds formula) ≡ true
  list_textual = all_pass_of (is_textual p) (signature_of p) (is_ready p) literal_ready equation_ready (at_negation (ready_step p)) ready_all ready_any
