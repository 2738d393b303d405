-- Equal literals, subjects and ordered sides under renaming.
use Rattle.std.proofs.Common.{◌≡◌, ◌↔◌, ℕ, ℤ, Bool, true, false, cond, List, refl, sym, ap, ◌∙◌, subst}
use Rattle.std.specs.Prelude.{IsTrue, not}
use Rattle.std.specs.Ordering.{is_gt, is_eq, nat_cmp, int_cmp, ordering_then, ordering_reverse}
use Rattle.std.specs.declared.cmp.Ordering.{Ordering}
use Rattle.std.specs.declared.cmp.Ordering.TheVariants.{Less, Equal, Greater}
use Rattle.std.proofs.lemmas.Cmp.{int_ranked, by_ranked, tied_itself}
use Rattle.cub_proto.specs.declared.literal.Term.{Term}
use Rattle.cub_proto.specs.declared.literal.PSide.{PSide}
use Rattle.cub_proto.specs.declared.literal.Lit.{Lit}
use Rattle.cub_proto.specs.declared.literal.Lit.TheVariants.{FinIn, FinEq, FinNe, ProcEq, ProcNe, Diff}
use Rattle.cub_proto.specs.Order.{term_cmp, process_side_cmp, integer_side_cmp, lit_cmp}
use Rattle.cub_cube.specs.Normal.{ordered, subject, has_ordered_sides}
use Rattle.cub_cube.specs.Rename.{renamed, renamed_term, renamed_process_side}
use Rattle.cub_cube.proofs.Orders.{then_both, numbers_equal, terms_equal, process_sides_equal, integer_sides_equal, term_cmp_total, process_side_cmp_total, lit_cmp_total}
use Rattle.cub_cube.proofs.Subjects.{OneSubject, masks, equal_terms, unequal_terms, equal_processes, unequal_processes, bounds}

bounds_equal : (m n : ℤ) → int_cmp m n ≡ Equal → m ≡ n
bounds_equal m n h = by_ranked _ (m ≡ n) _ (int_cmp m n) (int_ranked m n (int_cmp m n) refl) (λ e _. absurd (cc)) (λ _ e. e) (λ e _. absurd (cc))

pub lits_equal : (l m : Lit) → lit_cmp l m ≡ Equal → l ≡ m
lits_equal (FinIn t m) (FinIn u n) h =
    let both = then_both (term_cmp t u) (nat_cmp m n) h in
    let a = terms_equal t u both.0 in
    let b = numbers_equal m n both.1 in
    cc
lits_equal (FinEq a b) (FinEq c d) h =
    let both = then_both (term_cmp a c) (term_cmp b d) h in
    let x = terms_equal a c both.0 in
    let y = terms_equal b d both.1 in
    cc
lits_equal (FinNe a b) (FinNe c d) h =
    let both = then_both (term_cmp a c) (term_cmp b d) h in
    let x = terms_equal a c both.0 in
    let y = terms_equal b d both.1 in
    cc
lits_equal (ProcEq a b) (ProcEq c d) h =
    let both = then_both (process_side_cmp a c) (process_side_cmp b d) h in
    let x = process_sides_equal a c both.0 in
    let y = process_sides_equal b d both.1 in
    cc
lits_equal (ProcNe a b) (ProcNe c d) h =
    let both = then_both (process_side_cmp a c) (process_side_cmp b d) h in
    let x = process_sides_equal a c both.0 in
    let y = process_sides_equal b d both.1 in
    cc
lits_equal (Diff a b m) (Diff c d n) h =
    let first = then_both (integer_side_cmp a c) (ordering_then (integer_side_cmp b d) (int_cmp m n)) h in
    let second = then_both (integer_side_cmp b d) (int_cmp m n) first.1 in
    let x = integer_sides_equal a c first.0 in
    let y = integer_sides_equal b d second.0 in
    let z = bounds_equal m n second.1 in
    cc
lits_equal l m h = cc

-- the answer of a comparison
pub is_equal : (l m : Lit) (b : Bool) → b ≡ is_eq (lit_cmp l m) → IsTrue b ↔ (l ≡ m)
is_equal l m b is = (
  (λ h. lits_equal l m (equal_from (lit_cmp l m) (sym is ∙ h))),
  (λ e. is ∙ ap is_eq (subst (λ (x : Lit). lit_cmp l x ≡ Equal) e (tied_itself lit_cmp_total l))),
)
  where
    equal_from : (o : Ordering) → is_eq o ≡ true → o ≡ Equal
    equal_from Less h = cc
    equal_from Equal h = refl
    equal_from Greater h = cc

-- ---- subjects
pub same_subject : (l m : Lit) → OneSubject l m → subject l ≡ subject m
same_subject _ _ (masks t m n) = refl
same_subject _ _ (equal_terms a b) = refl
same_subject _ _ (unequal_terms a b) = refl
same_subject _ _ (equal_processes a b) = refl
same_subject _ _ (unequal_processes a b) = refl
same_subject _ _ (bounds a b m n) = refl

pub subject-renamed : (r : List ℕ) (l : Lit) → renamed r (subject l) ≡ subject (renamed r l)
subject-renamed r (FinIn t mask) = refl
subject-renamed r (FinEq a b) = refl
subject-renamed r (FinNe a b) = refl
subject-renamed r (ProcEq a b) = refl
subject-renamed r (ProcNe a b) = refl
subject-renamed r (Diff a b bound) = refl

pub subject-ordered : (l : Lit) → ordered (subject l) ≡ subject (ordered l)
subject-ordered (FinIn t mask) = refl
subject-ordered (FinEq a b) = by (is_gt (term_cmp a b))
  where
    by : (x : Bool) → cond x (FinEq b a) (FinEq a b) ≡ subject (cond x (FinEq b a) (FinEq a b))
    by true = refl
    by false = refl
subject-ordered (FinNe a b) = by (is_gt (term_cmp a b))
  where
    by : (x : Bool) → cond x (FinNe b a) (FinNe a b) ≡ subject (cond x (FinNe b a) (FinNe a b))
    by true = refl
    by false = refl
subject-ordered (ProcEq a b) = by (is_gt (process_side_cmp a b))
  where
    by : (x : Bool) → cond x (ProcEq b a) (ProcEq a b) ≡ subject (cond x (ProcEq b a) (ProcEq a b))
    by true = refl
    by false = refl
subject-ordered (ProcNe a b) = by (is_gt (process_side_cmp a b))
  where
    by : (x : Bool) → cond x (ProcNe b a) (ProcNe a b) ≡ subject (cond x (ProcNe b a) (ProcNe a b))
    by true = refl
    by false = refl
subject-ordered (Diff a b bound) = refl

-- ---- the order of the sides before does not matter
turned_terms : (f : Term → Term → Lit) (a b : Term) → cond (is_gt (term_cmp b a)) (f a b) (f b a) ≡ cond (is_gt (term_cmp a b)) (f b a) (f a b)
turned_terms f a b = by (term_cmp a b) refl
  where
    by : (o : Ordering) → term_cmp a b ≡ o → cond (is_gt (term_cmp b a)) (f a b) (f b a) ≡ cond (is_gt o) (f b a) (f a b)
    by Less e = ap (λ x. cond (is_gt x) (f a b) (f b a)) (term_cmp_total.antisymm b a ∙ ap ordering_reverse e)
    by Equal e =
        let same = terms_equal a b e in
        ap (λ x. cond (is_gt x) (f a b) (f b a)) (term_cmp_total.antisymm b a ∙ ap ordering_reverse e) ∙ ap (λ x. f x a) (sym same) ∙ ap (f a) same
    by Greater e = ap (λ x. cond (is_gt x) (f a b) (f b a)) (term_cmp_total.antisymm b a ∙ ap ordering_reverse e)

turned_processes : (f : PSide → PSide → Lit) (a b : PSide) → cond (is_gt (process_side_cmp b a)) (f a b) (f b a) ≡ cond (is_gt (process_side_cmp a b)) (f b a) (f a b)
turned_processes f a b = by (process_side_cmp a b) refl
  where
    by : (o : Ordering) → process_side_cmp a b ≡ o → cond (is_gt (process_side_cmp b a)) (f a b) (f b a) ≡ cond (is_gt o) (f b a) (f a b)
    by Less e = ap (λ x. cond (is_gt x) (f a b) (f b a)) (process_side_cmp_total.antisymm b a ∙ ap ordering_reverse e)
    by Equal e =
        let same = process_sides_equal a b e in
        ap (λ x. cond (is_gt x) (f a b) (f b a)) (process_side_cmp_total.antisymm b a ∙ ap ordering_reverse e) ∙ ap (λ x. f x a) (sym same) ∙ ap (f a) same
    by Greater e = ap (λ x. cond (is_gt x) (f a b) (f b a)) (process_side_cmp_total.antisymm b a ∙ ap ordering_reverse e)

pub ordered_through : (r : List ℕ) (l : Lit) → ordered (renamed r (ordered l)) ≡ ordered (renamed r l)
ordered_through r (FinIn t mask) = refl
ordered_through r (FinEq a b) = by (is_gt (term_cmp a b))
  where
    by : (x : Bool) → ordered (renamed r (cond x (FinEq b a) (FinEq a b))) ≡ ordered (renamed r (FinEq a b))
    by true = turned_terms FinEq (renamed_term r a) (renamed_term r b)
    by false = refl
ordered_through r (FinNe a b) = by (is_gt (term_cmp a b))
  where
    by : (x : Bool) → ordered (renamed r (cond x (FinNe b a) (FinNe a b))) ≡ ordered (renamed r (FinNe a b))
    by true = turned_terms FinNe (renamed_term r a) (renamed_term r b)
    by false = refl
ordered_through r (ProcEq a b) = by (is_gt (process_side_cmp a b))
  where
    by : (x : Bool) → ordered (renamed r (cond x (ProcEq b a) (ProcEq a b))) ≡ ordered (renamed r (ProcEq a b))
    by true = turned_processes ProcEq (renamed_process_side r a) (renamed_process_side r b)
    by false = refl
ordered_through r (ProcNe a b) = by (is_gt (process_side_cmp a b))
  where
    by : (x : Bool) → ordered (renamed r (cond x (ProcNe b a) (ProcNe a b))) ≡ ordered (renamed r (ProcNe a b))
    by true = turned_processes ProcNe (renamed_process_side r a) (renamed_process_side r b)
    by false = refl
ordered_through r (Diff a b bound) = refl

-- ---- ordered sides stay
pub ordered_stays : (l : Lit) → IsTrue (has_ordered_sides l) → ordered l ≡ l
ordered_stays (FinIn t mask) h = refl
ordered_stays (FinEq a b) h = by (is_gt (term_cmp a b)) h
  where
    by : (x : Bool) → IsTrue (not x) → cond x (FinEq b a) (FinEq a b) ≡ FinEq a b
    by true k = cc
    by false k = refl
ordered_stays (FinNe a b) h = by (is_gt (term_cmp a b)) h
  where
    by : (x : Bool) → IsTrue (not x) → cond x (FinNe b a) (FinNe a b) ≡ FinNe a b
    by true k = cc
    by false k = refl
ordered_stays (ProcEq a b) h = by (is_gt (process_side_cmp a b)) h
  where
    by : (x : Bool) → IsTrue (not x) → cond x (ProcEq b a) (ProcEq a b) ≡ ProcEq a b
    by true k = cc
    by false k = refl
ordered_stays (ProcNe a b) h = by (is_gt (process_side_cmp a b)) h
  where
    by : (x : Bool) → IsTrue (not x) → cond x (ProcNe b a) (ProcNe a b) ≡ ProcNe a b
    by true k = cc
    by false k = refl
ordered_stays (Diff a b bound) h = refl
