-- A test that the literals of a formula and their negations pass is passed by all literals of both of its lists.
use Rattle.std.proofs.Common.{◌≡◌, ℕ, ◌<◌, ◌≤◌, ◌-◌, ◌^◌, ℤ, pos, negsuc, ◌-ℤ◌, List, [], ◌∷◌, ◌++◌, length, map, get_or, Bool, true, false, ◌&&◌, refl, sym, ap, ap₂, ◌∙◌, subst, arith}
use Rattle.std.specs.Prelude.{All, IsTrue, int_le, nat_le, nat_lt, unsigned_abs}
use Rattle.std.specs.List.{list_all}
use Rattle.std.proofs.lemmas.List.Folds.{list_all-append, list_all-map}
use Rattle.std.proofs.lemmas.Int.{ints}
use Rattle.std.proofs.lemmas.Bool.Decides.{nat_tests}
use Rattle.cub_proto.specs.declared.literal.Lit.{Lit}
use Rattle.cub_proto.specs.declared.literal.Lit.TheVariants.{FinIn, FinEq, FinNe, ProcEq, ProcNe, Diff}
use Rattle.cub_proto.specs.declared.literal.ISide.{ISide}
use Rattle.cub_proto.specs.Signature.{Signature, sort_of, constructors_at}
use Rattle.cub_proto.specs.Negation.{negated}
use Rattle.cub_proto.specs.Fits.{is_finite, place_fits, integer_side_fits, literal_fits, is_bounded, greatest_bound, conjunction_fits, formula_fits}
use Rattle.cub_base.proofs.Bools.{and_left, and_right, and_both}
use Rattle.cub_base.proofs.Elements.{all_from}
use Rattle.cub_dnf.specs.declared.formula.Formula.{Formula}
use Rattle.cub_dnf.specs.declared.formula.Formula.TheVariants as f
use Rattle.cub_dnf.specs.Lists.{joins, all_joins, chained, lists_step, list_of}
use Rattle.cub_dnf.specs.Normal.{widest}
use Rattle.cub_dnf.specs.Fits.{fits, fits_step, has_text_bound, has_text_bounds, text_bounds_step, greatest_formula_bound}
use Rattle.cub_dnf.proofs.Folding.{at_const, at_one, at_equation, at_negation, at_all, at_any}
use Rattle.cub_dnf.proofs.Parting.{list_of_not, list_of_all_true, list_of_all_false, list_of_any_true, list_of_any_false, fits_all, fits_any}
use Rattle.cub_dnf.proofs.Induct.{Each, induct}

module _ (ok : Lit → Bool) where
  abbrev all_ok : List (List Lit) → Bool
  all_ok conjs = list_all (list_all ok) conjs

  ok_append : (a b : List (List Lit)) → all_ok a ≡ true → all_ok b ≡ true → all_ok (a ++ b) ≡ true
  ok_append a b p q = list_all-append (list_all ok) a b ∙ and_both (all_ok a) (all_ok b) p q

  ok_map : (c : List Lit) (right : List (List Lit)) → list_all ok c ≡ true → all_ok right ≡ true → all_ok (map (λ d. c ++ d) right) ≡ true
  ok_map c [] p q = refl
  ok_map c (d ∷ ds) p q =
      and_both (list_all ok (c ++ d)) (all_ok (map (λ e. c ++ e) ds))
      (list_all-append ok c d ∙ and_both (list_all ok c) (list_all ok d) p (and_left (list_all ok d) (all_ok ds) q))
      (ok_map c ds p (and_right (list_all ok d) (all_ok ds) q))

  ok_joins : (left right : List (List Lit)) → all_ok left ≡ true → all_ok right ≡ true → all_ok (joins left right) ≡ true
  ok_joins [] right p q = refl
  ok_joins (c ∷ cs) right p q =
      ok_append (map (λ d. c ++ d) right) (joins cs right) (ok_map c right (and_left (list_all ok c) (all_ok cs) p) q)
      (ok_joins cs right (and_right (list_all ok c) (all_ok cs) p) q)

  -- every part of the list passes
  ok_all_joins : (list : Formula → List (List Lit)) (parts : List Formula) → Each (λ q. all_ok (list q) ≡ true) parts → all_ok (all_joins (map list parts)) ≡ true
  ok_all_joins list [] each = refl
  ok_all_joins list (q ∷ qs) each = ok_joins (list q) (all_joins (map list qs)) each.0 (ok_all_joins list qs each.1)

  ok_chained : (list : Formula → List (List Lit)) (parts : List Formula) → Each (λ q. all_ok (list q) ≡ true) parts → all_ok (chained (map list parts)) ≡ true
  ok_chained list [] each = refl
  ok_chained list (q ∷ qs) each = ok_append (list q) (chained (map list qs)) each.0 (ok_chained list qs each.1)

  module _ (sig : Signature) (ready : Formula → Bool)
      (one : (lit : Lit) → ready (f.One lit) ≡ true → (ok lit ≡ true) × (ok (negated sig lit) ≡ true))
      (equation : (a b : ISide) (bound : ℤ) → ready (f.IntEq a b bound) ≡ true
      → (ok (Diff a b bound) ≡ true) × (ok (Diff b a (pos 0 -ℤ bound)) ≡ true) × (ok (Diff a b (bound -ℤ pos 1)) ≡ true) × (ok (Diff b a ((pos 0 -ℤ bound) -ℤ pos 1)) ≡ true))
      (of_not : (part : Formula) → ready (f.Not part) ≡ ready part)
      (of_all : (parts : List Formula) → ready (f.All parts) ≡ list_all ready parts)
      (of_any : (parts : List Formula) → ready (f.Any parts) ≡ list_all ready parts) where
    abbrev Passes : Formula → Type 0
    Passes formula = ready formula ≡ true → (all_ok (list_of sig true formula) ≡ true) × (all_ok (list_of sig false formula) ≡ true)

    own_each : (parts : List Formula) → Each Passes parts → list_all ready parts ≡ true → Each (λ q. all_ok (list_of sig true q) ≡ true) parts
    own_each [] known each = tt
    own_each (q ∷ qs) known each =
        ((known.0 (and_left (ready q) (list_all ready qs) each)).0, own_each qs known.1 (and_right (ready q) (list_all ready qs) each))

    opposite_each : (parts : List Formula) → Each Passes parts → list_all ready parts ≡ true → Each (λ q. all_ok (list_of sig false q) ≡ true) parts
    opposite_each [] known each = tt
    opposite_each (q ∷ qs) known each =
        ((known.0 (and_left (ready q) (list_all ready qs) each)).1, opposite_each qs known.1 (and_right (ready q) (list_all ready qs) each))

    single : (lit : Lit) → ok lit ≡ true → all_ok ((lit ∷ []) ∷ []) ≡ true
    single lit p = and_both (ok lit && true) true (and_both (ok lit) true p refl) refl

    two : (a b : Lit) → ok a ≡ true → ok b ≡ true → all_ok ((a ∷ b ∷ []) ∷ []) ≡ true
    two a b p q = and_both (ok a && (ok b && true)) true (and_both (ok a) (ok b && true) p (and_both (ok b) true q refl)) refl

    either : (a b : Lit) → ok a ≡ true → ok b ≡ true → all_ok ((a ∷ []) ∷ (b ∷ []) ∷ []) ≡ true
    either a b p q = and_both (ok a && true) ((ok b && true) && true) (and_both (ok a) true p refl) (single b q)

    passes_const : (v : Bool) → Passes (f.Const v)
    passes_const true = λ h. (ap (λ both. all_ok both.own) (at_const (lists_step sig) true), ap (λ both. all_ok both.opposite) (at_const (lists_step sig) true))
    passes_const false = λ h. (ap (λ both. all_ok both.own) (at_const (lists_step sig) false), ap (λ both. all_ok both.opposite) (at_const (lists_step sig) false))

    passes_one : (lit : Lit) → Passes (f.One lit)
    passes_one lit = λ h. (
      ap (λ both. all_ok both.own) (at_one (lists_step sig) lit) ∙ single lit (one lit h).0,
      ap (λ both. all_ok both.opposite) (at_one (lists_step sig) lit) ∙ single (negated sig lit) (one lit h).1,
    )

    passes_equation : (a b : ISide) (bound : ℤ) → Passes (f.IntEq a b bound)
    passes_equation a b bound = λ h. (
      ap (λ both. all_ok both.own) (at_equation (lists_step sig) a b bound) ∙ two _ _ (equation a b bound h).0 (equation a b bound h).1,
      ap (λ both. all_ok both.opposite) (at_equation (lists_step sig) a b bound) ∙ either _ _ (equation a b bound h).2 (equation a b bound h).3,
    )

    passes_not : (part : Formula) → Passes part → Passes (f.Not part)
    passes_not part known = λ h.
        let parts = known (sym (of_not part) ∙ h) in
        (ap all_ok (list_of_not sig true part) ∙ parts.1, ap all_ok (list_of_not sig false part) ∙ parts.0)

    passes_all : (parts : List Formula) → Each Passes parts → Passes (f.All parts)
    passes_all parts known = λ h.
        let each = sym (of_all parts) ∙ h in (
          ap all_ok (list_of_all_true sig parts) ∙ ok_all_joins (list_of sig true) parts (own_each parts known each),
          ap all_ok (list_of_all_false sig parts) ∙ ok_chained (list_of sig false) parts (opposite_each parts known each),
        )

    passes_any : (parts : List Formula) → Each Passes parts → Passes (f.Any parts)
    passes_any parts known = λ h.
        let each = sym (of_any parts) ∙ h in (
          ap all_ok (list_of_any_true sig parts) ∙ ok_chained (list_of sig true) parts (own_each parts known each),
          ap all_ok (list_of_any_false sig parts) ∙ ok_all_joins (list_of sig false) parts (opposite_each parts known each),
        )

    passes : (formula : Formula) → Passes formula
    passes = induct Passes passes_const passes_one passes_equation passes_not passes_all passes_any

    pub all_pass_of : (holds : Bool) (formula : Formula) → ready formula ≡ true → all_ok (list_of sig holds formula) ≡ true
    all_pass_of true formula h = (passes formula h).0
    all_pass_of false formula h = (passes formula h).1

-- the negation of a literal that fits fits
complement_small : (n m : ℕ) → nat_lt m n ≡ true → nat_lt (n - 1 - m) n ≡ true
complement_small n m h = grind (arith, nat_tests)

module _ (sig : Signature) (width : ℕ) where
  negated_fits : (lit : Lit) → literal_fits sig width lit ≡ true → literal_fits sig width (negated sig lit) ≡ true
  negated_fits (FinIn t mask) h =
      let front = is_finite (sort_of sig t) && place_fits width t in
      let all = 2 ^ constructors_at sig t in
      and_both front (nat_lt (all - 1 - mask) all) (and_left front (nat_lt mask all) h) (complement_small all mask (and_right front (nat_lt mask all) h))
  negated_fits (FinEq a b) h = h
  negated_fits (FinNe a b) h = h
  negated_fits (ProcEq a b) h = h
  negated_fits (ProcNe a b) h = h
  negated_fits (Diff a b bound) h =
      and_both (integer_side_fits sig width b) (integer_side_fits sig width a)
      (and_right (integer_side_fits sig width a) (integer_side_fits sig width b) h) (and_left (integer_side_fits sig width a) (integer_side_fits sig width b) h)

  fits_one : (lit : Lit) → fits sig width (f.One lit) ≡ true → (literal_fits sig width lit ≡ true) × (literal_fits sig width (negated sig lit) ≡ true)
  fits_one lit h =
      let own = and_left (literal_fits sig width lit) (is_bounded greatest_formula_bound lit) (sym (at_one (fits_step sig width) lit) ∙ h) in
      (own, negated_fits lit own)

  fits_sides : (a b : ISide) (bound : ℤ) → fits sig width (f.IntEq a b bound) ≡ true → (literal_fits sig width (Diff a b bound) ≡ true)
      × (literal_fits sig width (Diff b a (pos 0 -ℤ bound)) ≡ true) × (literal_fits sig width (Diff a b (bound -ℤ pos 1)) ≡ true)
      × (literal_fits sig width (Diff b a ((pos 0 -ℤ bound) -ℤ pos 1)) ≡ true)
  fits_sides a b bound h =
      let sides = and_left (integer_side_fits sig width a && integer_side_fits sig width b) (nat_le (unsigned_abs bound) greatest_formula_bound) (sym (at_equation (fits_step sig width) a b bound) ∙ h) in
      let other = negated_fits (Diff a b bound) sides in
      (sides, other, sides, other)

  pub literals_fit : (holds : Bool) (formula : Formula) → fits sig width formula ≡ true → list_all (list_all (literal_fits sig width)) (list_of sig holds formula) ≡ true
  literals_fit = all_pass_of (literal_fits sig width) sig (fits sig width) fits_one fits_sides (at_negation (fits_step sig width)) (fits_all sig width) (fits_any sig width)

-- the bounds of a text and of its negations
own_bound : (bound : ℤ) → (int_le (negsuc 2000000000) bound && int_le bound (pos 2000000000)) ≡ true → nat_le (unsigned_abs bound) 2000000001 ≡ true
own_bound bound h = grind (arith, ints, nat_tests)

opposite_bound : (bound : ℤ) → (int_le (negsuc 2000000000) bound && int_le bound (pos 2000000000)) ≡ true → nat_le (unsigned_abs ((pos 0 -ℤ bound) -ℤ pos 1)) 2000000001 ≡ true
opposite_bound bound h = grind (arith, ints, nat_tests)

equation_bounds : (bound : ℤ) → nat_le (unsigned_abs bound) 2000000000 ≡ true → (nat_le (unsigned_abs bound) 2000000001 ≡ true)
    × (nat_le (unsigned_abs (pos 0 -ℤ bound)) 2000000001 ≡ true) × (nat_le (unsigned_abs (bound -ℤ pos 1)) 2000000001 ≡ true)
    × (nat_le (unsigned_abs ((pos 0 -ℤ bound) -ℤ pos 1)) 2000000001 ≡ true)
equation_bounds bound h = (grind (arith, ints, nat_tests), grind (arith, ints, nat_tests), grind (arith, ints, nat_tests), grind (arith, ints, nat_tests))

bounds_of : (sig : Signature) (lit : Lit) → has_text_bound lit ≡ true → (is_bounded greatest_bound lit ≡ true) × (is_bounded greatest_bound (negated sig lit) ≡ true)
bounds_of sig (FinIn t mask) h = (refl, refl)
bounds_of sig (FinEq a b) h = (refl, refl)
bounds_of sig (FinNe a b) h = (refl, refl)
bounds_of sig (ProcEq a b) h = (refl, refl)
bounds_of sig (ProcNe a b) h = (refl, refl)
bounds_of sig (Diff a b bound) h = (own_bound bound h, opposite_bound bound h)

pub bounds_fit : (sig : Signature) (holds : Bool) (formula : Formula) → has_text_bounds formula ≡ true → list_all (list_all (is_bounded greatest_bound)) (list_of sig holds formula) ≡ true
bounds_fit sig = all_pass_of (is_bounded greatest_bound) sig has_text_bounds
    (λ lit h. bounds_of sig lit (sym (at_one text_bounds_step lit) ∙ h))
    (λ a b bound h. equation_bounds bound (sym (at_equation text_bounds_step a b bound) ∙ h))
    (at_negation text_bounds_step)
    (λ parts. at_all text_bounds_step parts ∙ list_all-map (λ b. b) has_text_bounds parts)
    (λ parts. at_any text_bounds_step parts ∙ list_all-map (λ b. b) has_text_bounds parts)

-- as facts on each
pub each_of_each : (ok : Lit → Bool) (conjs : List (List Lit)) → list_all (list_all ok) conjs ≡ true → All (All (λ l. IsTrue (ok l))) conjs
each_of_each ok conjs h = λ k d below. all_from ok (get_or conjs k d) (all_from (list_all ok) conjs h k d below)

-- the conjunctions of a list within the limits
conjunctions_fit : (sig : Signature) (width : ℕ) (conjs : List (List Lit)) → widest conjs ≤ 64
    → list_all (list_all (literal_fits sig width)) conjs ≡ true → list_all (list_all (is_bounded greatest_bound)) conjs ≡ true
    → list_all (conjunction_fits sig width) conjs ≡ true
conjunctions_fit sig width [] narrow p q = refl
conjunctions_fit sig width (c ∷ cs) narrow p q =
    let short : nat_le (length c) 64 ≡ true = grind (arith, nat_tests) in
    let lits = list_all (literal_fits sig width) c in
    let bounds = list_all (is_bounded greatest_bound) c in
    and_both (conjunction_fits sig width c) (list_all (conjunction_fits sig width) cs)
    (and_both (nat_le (length c) 64 && lits) bounds
    (and_both (nat_le (length c) 64) lits short (and_left lits (list_all (list_all (literal_fits sig width)) cs) p))
    (and_left bounds (list_all (list_all (is_bounded greatest_bound)) cs) q))
    (conjunctions_fit sig width cs (omega arith) (and_right lits (list_all (list_all (literal_fits sig width)) cs) p)
    (and_right bounds (list_all (list_all (is_bounded greatest_bound)) cs) q))

pub list_fits : (sig : Signature) (width : ℕ) (holds : Bool) (formula : Formula) {found : List (List Lit)} → found ≡ list_of sig holds formula
    → length (list_of sig holds formula) ≤ 64 → widest (list_of sig holds formula) ≤ 64
    → IsTrue (fits sig width formula) → IsTrue (has_text_bounds formula) → IsTrue (formula_fits sig width found)
list_fits sig width holds formula is few narrow ready bounds =
    let conjs = list_of sig holds formula in
    let count : nat_le (length conjs) 64 ≡ true = grind (arith, nat_tests) in
    subst (λ x. IsTrue (formula_fits sig width x)) (sym is)
    (and_both (nat_le (length conjs) 64) (list_all (conjunction_fits sig width) conjs) count
    (conjunctions_fit sig width conjs narrow (literals_fit sig width holds formula ready) (bounds_fit sig holds formula bounds)))
