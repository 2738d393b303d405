-- The normal form: its meaning, its order, and that it is its own normal form.
use Rattle.std.proofs.Common.{◌≡◌, ℕ, ◌+◌, ◌<◌, ◌≤◌, ◌^◌, ◌-◌, ℤ, pos, Bool, true, false, cond, List, [], ◌∷◌, ◌++◌, length, refl, sym, ap, ◌∙◌, subst, arith, zero, suc, Option, Some, None, get_or, set, take, drop}
use Rattle.std.specs.Prelude.{◌&&◌, ◌==◌, not, IsTrue, fold, bit_and, nat_lt, int_le}
use Rattle.std.specs.List.{list_all, AllByRecursion as ByRecursion}
use Rattle.std.proofs.lemmas.List.{append-nil, append_assoc}
use Rattle.std.specs.Int.{int_min}
use Rattle.std.proofs.lemmas.Nat.{and_le_l}
use Rattle.std.specs.Ordering.{is_lt, is_gt, is_eq, match_ordering, ordering_reverse}
use Rattle.std.specs.declared.cmp.Ordering.{Ordering}
use Rattle.std.specs.declared.cmp.Ordering.TheVariants.{Less, Equal, Greater}
use Rattle.cub_proto.specs.declared.literal.Sort.{Sort}
use Rattle.cub_proto.specs.declared.literal.Term.{Term}
use Rattle.cub_proto.specs.declared.literal.PSide.{PSide}
use Rattle.cub_proto.specs.declared.literal.Lit.{Lit}
use Rattle.cub_proto.specs.declared.literal.Lit.TheVariants.{FinIn, FinEq, FinNe, ProcEq, ProcNe, Diff}
use Rattle.cub_proto.specs.declared.protocol.Protocol.{Protocol}
use Rattle.cub_proto.specs.Configuration.{Configuration}
use Rattle.cub_proto.specs.Signature.{Signature, sort_of, constructors_at, same_finite}
use Rattle.cub_proto.specs.StateOf.{IsStateOf, signature_of}
use Rattle.cub_proto.specs.Fits.{literal_fits, is_finite, place_fits, process_side_fits}
use Rattle.cub_proto.specs.Truth.{is_true, all_true}
use Rattle.cub_proto.specs.Legal.{AreDistinctAlive}
use Rattle.cub_proto.specs.Order.{term_cmp, process_side_cmp, integer_side_cmp, lit_cmp}
use Rattle.cub_cube.specs.Normal.{ordered, is_true_alone, subject, subject_cmp, joined, inserted, placed, normal_form, subjects_rise, are_two_places, has_ordered_sides, is_plain, is_normal}
use Rattle.cub_base.proofs.Bools.{and_left, and_right, and_both, and_swap, and_assoc, and_comm, and_true, same_comm, less_is, is_less}
use Rattle.cub_cube.proofs.Orders.{subject_cmp_total, term_cmp_total, process_side_cmp_total}
use Rattle.cub_cube.proofs.Subjects.{OneSubject, masks, equal_terms, unequal_terms, equal_processes, unequal_processes, bounds, one_subject, joined_true, ordered_true, int_le-int_min}
use Rattle.cub_cube.proofs.Alone.{alone_true, not_same, is_not_same}

less_from : (o : Ordering) → IsTrue (is_lt o) → o ≡ Less
less_from Less h = refl
less_from Equal h = cc
less_from Greater h = cc

is_lt_from : (o : Ordering) → o ≡ Less → IsTrue (is_lt o)
is_lt_from o h = ap is_lt h

pub greater_back : (l m : Lit) → subject_cmp l m ≡ Greater → subject_cmp m l ≡ Less
greater_back l m h = subject_cmp_total.antisymm m l ∙ ap ordering_reverse h

pub less_back : (l m : Lit) → subject_cmp l m ≡ Less → subject_cmp m l ≡ Greater
less_back l m h = subject_cmp_total.antisymm m l ∙ ap ordering_reverse h

pub subject-joined : (l m : Lit) → OneSubject l m → subject (joined m l) ≡ subject m
subject-joined _ _ (masks t m n) = refl
subject-joined _ _ (equal_terms a b) = refl
subject-joined _ _ (unequal_terms a b) = refl
subject-joined _ _ (equal_processes a b) = refl
subject-joined _ _ (unequal_processes a b) = refl
subject-joined _ _ (bounds a b m n) = refl

-- ---- meaning
module _ (s : Configuration) (places : List ℕ) where
  pub inserted_true : (form : List Lit) (l : Lit) → all_true s places (inserted form l) ≡ (is_true s places l && all_true s places form)
  inserted_true [] l = refl
  inserted_true (m ∷ ms) l = by (subject_cmp l m) refl (inserted_true ms l)
    where
      by : (o : Ordering) → subject_cmp l m ≡ o → all_true s places (inserted ms l) ≡ (is_true s places l && all_true s places ms)
          → all_true s places (match_ordering o (l ∷ m ∷ ms) (joined m l ∷ ms) (m ∷ inserted ms l)) ≡ (is_true s places l && all_true s places (m ∷ ms))
      by Less e rest = refl
      by Equal e rest =
          ap (λ b. b && all_true s places ms) (joined_true s places l m (one_subject l m e))
          ∙ and_assoc (is_true s places m) (is_true s places l) (all_true s places ms)
          ∙ and_swap (is_true s places m) (is_true s places l) (all_true s places ms)
      by Greater e rest = ap (λ b. is_true s places m && b) rest ∙ and_swap (is_true s places m) (is_true s places l) (all_true s places ms)

module _ (p : Protocol) (s : Configuration) (places : List ℕ) (state : IsStateOf p s) (distinct : AreDistinctAlive s places) where
  placed_true : (form : List Lit) (l : Lit) → IsTrue (literal_fits (signature_of p) (length places) l)
      → all_true s places (placed (signature_of p) form l) ≡ (is_true s places l && all_true s places form)
  placed_true form l fits = by (is_true_alone (signature_of p) l) refl
    where
      by : (b : Bool) → is_true_alone (signature_of p) l ≡ b → all_true s places (cond b form (inserted form (ordered l))) ≡ (is_true s places l && all_true s places form)
      by true e = ap (λ b. b && all_true s places form) (sym (alone_true p s places state distinct l fits e))
      by false e = inserted_true s places form (ordered l) ∙ ap (λ b. b && all_true s places form) (ordered_true s places l)

  pub fold_true : (form lits : List Lit) → IsTrue (list_all (literal_fits (signature_of p) (length places)) lits)
      → all_true s places (fold (placed (signature_of p)) form lits) ≡ (all_true s places form && all_true s places lits)
  fold_true form [] fits = sym (and_true (all_true s places form))
  fold_true form (l ∷ ls) fits =
      fold_true (placed (signature_of p) form l) ls (and_right (literal_fits (signature_of p) (length places) l) (list_all (literal_fits (signature_of p) (length places)) ls) fits)
      ∙ ap (λ b. b && all_true s places ls) (placed_true form l (and_left (literal_fits (signature_of p) (length places) l) (list_all (literal_fits (signature_of p) (length places)) ls) fits) ∙ and_comm (is_true s places l) (all_true s places form))
      ∙ and_assoc (all_true s places form) (is_true s places l) (all_true s places ls)

-- ---- order
pub below_less : (k m : Lit) → IsTrue (is_lt (subject_cmp k m)) → subject_cmp k m ≡ Less
below_less k m h = less_from (subject_cmp k m) h

-- what is below the first of a rising list is below all of it
pub below_all : (k l : Lit) (ms : List Lit) → subject_cmp k l ≡ Less → IsTrue (list_all (λ m. is_lt (subject_cmp l m)) ms) → IsTrue (list_all (λ m. is_lt (subject_cmp k m)) ms)
below_all k l [] h all = refl
below_all k l (m ∷ ms) h all =
    let first = below_less l m (and_left (is_lt (subject_cmp l m)) (list_all (λ x. is_lt (subject_cmp l x)) ms) all) in
    and_both (is_lt (subject_cmp k m)) (list_all (λ x. is_lt (subject_cmp k x)) ms)
    (is_lt_from (subject_cmp k m) (subject_cmp_total.trans k l m h first))
    (below_all k l ms h (and_right (is_lt (subject_cmp l m)) (list_all (λ x. is_lt (subject_cmp l x)) ms) all))

-- what is below a rising list and the new literal is below the list with it
below_inserted : (k : Lit) (form : List Lit) (l : Lit) → IsTrue (list_all (λ m. is_lt (subject_cmp k m)) form) → subject_cmp k l ≡ Less
    → IsTrue (list_all (λ m. is_lt (subject_cmp k m)) (inserted form l))
below_inserted k [] l all h = and_both (is_lt (subject_cmp k l)) true (is_lt_from (subject_cmp k l) h) refl
below_inserted k (m ∷ ms) l all h =
    by (subject_cmp l m) refl (below_inserted k ms l (and_right (is_lt (subject_cmp k m)) (list_all (λ x. is_lt (subject_cmp k x)) ms) all) h)
  where
    by : (o : Ordering) → subject_cmp l m ≡ o → IsTrue (list_all (λ x. is_lt (subject_cmp k x)) (inserted ms l))
        → IsTrue (list_all (λ x. is_lt (subject_cmp k x)) (match_ordering o (l ∷ m ∷ ms) (joined m l ∷ ms) (m ∷ inserted ms l)))
    by Less e rest = and_both (is_lt (subject_cmp k l)) (list_all (λ x. is_lt (subject_cmp k x)) (m ∷ ms)) (is_lt_from (subject_cmp k l) h) all
    by Equal e rest =
        subst (λ x. IsTrue (is_lt (lit_cmp (subject k) x) && list_all (λ x. is_lt (subject_cmp k x)) ms)) (sym (subject-joined l m (one_subject l m e))) all
    by Greater e rest =
        and_both (is_lt (subject_cmp k m)) (list_all (λ x. is_lt (subject_cmp k x)) (inserted ms l)) (and_left (is_lt (subject_cmp k m)) (list_all (λ x. is_lt (subject_cmp k x)) ms) all) rest

pub rises_inserted : (form : List Lit) (l : Lit) → IsTrue (subjects_rise form) → IsTrue (subjects_rise (inserted form l))
rises_inserted [] l rises = refl
rises_inserted (m ∷ ms) l rises =
    by (subject_cmp l m) refl (rises_inserted ms l (and_right (list_all (λ x. is_lt (subject_cmp m x)) ms) (subjects_rise ms) rises))
  where
    by : (o : Ordering) → subject_cmp l m ≡ o → IsTrue (subjects_rise (inserted ms l))
        → IsTrue (subjects_rise (match_ordering o (l ∷ m ∷ ms) (joined m l ∷ ms) (m ∷ inserted ms l)))
    by Less e rest =
        and_both (list_all (λ x. is_lt (subject_cmp l x)) (m ∷ ms)) (subjects_rise (m ∷ ms))
        (and_both (is_lt (subject_cmp l m)) (list_all (λ x. is_lt (subject_cmp l x)) ms) (is_lt_from (subject_cmp l m) e)
        (below_all l m ms e (and_left (list_all (λ x. is_lt (subject_cmp m x)) ms) (subjects_rise ms) rises)))
        rises
    by Equal e rest =
        subst (λ y. IsTrue (list_all (λ x. is_lt (lit_cmp y (subject x))) ms && subjects_rise ms)) (sym (subject-joined l m (one_subject l m e))) rises
    by Greater e rest =
        and_both (list_all (λ x. is_lt (subject_cmp m x)) (inserted ms l)) (subjects_rise (inserted ms l))
        (below_inserted m ms l (and_left (list_all (λ x. is_lt (subject_cmp m x)) ms) (subjects_rise ms) rises) (greater_back l m e)) rest

pub rises_placed : (sig : Signature) (form : List Lit) (l : Lit) → IsTrue (subjects_rise form) → IsTrue (subjects_rise (placed sig form l))
rises_placed sig form l rises = by (is_true_alone sig l)
  where
    by : (b : Bool) → IsTrue (subjects_rise (cond b form (inserted form (ordered l))))
    by true = rises
    by false = rises_inserted form (ordered l) rises

pub rises_fold : (sig : Signature) (form lits : List Lit) → IsTrue (subjects_rise form) → IsTrue (subjects_rise (fold (placed sig) form lits))
rises_fold sig form [] rises = rises
rises_fold sig form (l ∷ ls) rises = rises_fold sig (placed sig form l) ls (rises_placed sig form l rises)

-- ---- fit and form of each literal
same_finite_back : (x y : Option Sort) → IsTrue (same_finite x y) → IsTrue (same_finite y x)
same_finite_back (Some (Sort.Fin j)) (Some (Sort.Fin k)) h = same_comm j k ∙ h
same_finite_back (Some (Sort.Fin j)) (Some Sort.Proc) h = cc
same_finite_back (Some (Sort.Fin j)) (Some Sort.Int) h = cc
same_finite_back (Some (Sort.Fin j)) None h = cc
same_finite_back (Some Sort.Proc) y h = cc
same_finite_back (Some Sort.Int) y h = cc
same_finite_back None y h = cc

swapped_terms_fit : (sig : Signature) (width : ℕ) (a b : Term) → IsTrue (literal_fits sig width (FinEq a b)) → IsTrue (literal_fits sig width (FinEq b a))
swapped_terms_fit sig width a b h =
    let left = and_left (same_finite (sort_of sig a) (sort_of sig b) && place_fits width a) (place_fits width b) h in
    and_both (same_finite (sort_of sig b) (sort_of sig a) && place_fits width b) (place_fits width a)
    (and_both (same_finite (sort_of sig b) (sort_of sig a)) (place_fits width b)
    (same_finite_back (sort_of sig a) (sort_of sig b) (and_left (same_finite (sort_of sig a) (sort_of sig b)) (place_fits width a) left))
    (and_right (same_finite (sort_of sig a) (sort_of sig b) && place_fits width a) (place_fits width b) h))
    (and_right (same_finite (sort_of sig a) (sort_of sig b)) (place_fits width a) left)

pub ordered_fits : (sig : Signature) (width : ℕ) (l : Lit) → IsTrue (literal_fits sig width l) → IsTrue (literal_fits sig width (ordered l))
ordered_fits sig width (FinIn t mask) h = h
ordered_fits sig width (FinEq a b) h = by (is_gt (term_cmp a b))
  where
    by : (x : Bool) → IsTrue (literal_fits sig width (cond x (FinEq b a) (FinEq a b)))
    by true = swapped_terms_fit sig width a b h
    by false = h
ordered_fits sig width (FinNe a b) h = by (is_gt (term_cmp a b))
  where
    by : (x : Bool) → IsTrue (literal_fits sig width (cond x (FinNe b a) (FinNe a b)))
    by true = swapped_terms_fit sig width a b h
    by false = h
ordered_fits sig width (ProcEq a b) h = by (is_gt (process_side_cmp a b))
  where
    by : (x : Bool) → IsTrue (literal_fits sig width (cond x (ProcEq b a) (ProcEq a b)))
    by true = and_both (process_side_fits sig width b) (process_side_fits sig width a) (and_right (process_side_fits sig width a) (process_side_fits sig width b) h) (and_left (process_side_fits sig width a) (process_side_fits sig width b) h)
    by false = h
ordered_fits sig width (ProcNe a b) h = by (is_gt (process_side_cmp a b))
  where
    by : (x : Bool) → IsTrue (literal_fits sig width (cond x (ProcNe b a) (ProcNe a b)))
    by true = and_both (process_side_fits sig width b) (process_side_fits sig width a) (and_right (process_side_fits sig width a) (process_side_fits sig width b) h) (and_left (process_side_fits sig width a) (process_side_fits sig width b) h)
    by false = h
ordered_fits sig width (Diff a b bound) h = h

-- the joined mask has no constructor that the masks lack
mask_stays : (m n limit : ℕ) → nat_lt n limit ≡ true → nat_lt (bit_and n m) limit ≡ true
mask_stays m n limit h =
    let le = and_le_l n m in
    let lt = less_is n limit h in
    let below : bit_and n m < limit = omega arith in is_less (bit_and n m) limit below

pub joined_fits : (sig : Signature) (width : ℕ) (l m : Lit) → OneSubject l m → IsTrue (literal_fits sig width l) → IsTrue (literal_fits sig width m) → IsTrue (literal_fits sig width (joined m l))
joined_fits sig width _ _ (masks t m n) h k =
    and_both (is_finite (sort_of sig t) && place_fits width t) (nat_lt (bit_and n m) (2 ^ constructors_at sig t))
    (and_left (is_finite (sort_of sig t) && place_fits width t) (nat_lt n (2 ^ constructors_at sig t)) k)
    (mask_stays m n (2 ^ constructors_at sig t) (and_right (is_finite (sort_of sig t) && place_fits width t) (nat_lt n (2 ^ constructors_at sig t)) k))
joined_fits sig width _ _ (equal_terms a b) h k = h
joined_fits sig width _ _ (unequal_terms a b) h k = h
joined_fits sig width _ _ (equal_processes a b) h k = h
joined_fits sig width _ _ (unequal_processes a b) h k = h
joined_fits sig width _ _ (bounds a b m n) h k = h

-- what holds of each literal and of two joined ones holds of the list with one more
module _ (P : Lit → Bool) (keep : (l m : Lit) → OneSubject l m → IsTrue (P l) → IsTrue (P m) → IsTrue (P (joined m l))) where
  pub all_inserted : (form : List Lit) (l : Lit) → IsTrue (list_all P form) → IsTrue (P l) → IsTrue (list_all P (inserted form l))
  all_inserted [] l all h = and_both (P l) true h refl
  all_inserted (m ∷ ms) l all h = by (subject_cmp l m) refl (all_inserted ms l (and_right (P m) (list_all P ms) all) h)
    where
      by : (o : Ordering) → subject_cmp l m ≡ o → IsTrue (list_all P (inserted ms l)) → IsTrue (list_all P (match_ordering o (l ∷ m ∷ ms) (joined m l ∷ ms) (m ∷ inserted ms l)))
      by Less e rest = and_both (P l) (list_all P (m ∷ ms)) h all
      by Equal e rest = and_both (P (joined m l)) (list_all P ms) (keep l m (one_subject l m e) h (and_left (P m) (list_all P ms) all)) (and_right (P m) (list_all P ms) all)
      by Greater e rest = and_both (P m) (list_all P (inserted ms l)) (and_left (P m) (list_all P ms) all) rest

pub fold_fits : (sig : Signature) (width : ℕ) (form lits : List Lit) → IsTrue (list_all (literal_fits sig width) form) → IsTrue (list_all (literal_fits sig width) lits)
    → IsTrue (list_all (literal_fits sig width) (fold (placed sig) form lits))
fold_fits sig width form [] all fits = all
fold_fits sig width form (l ∷ ls) all fits =
    fold_fits sig width (placed sig form l) ls (by (is_true_alone sig l)) (and_right (literal_fits sig width l) (list_all (literal_fits sig width) ls) fits)
  where
    by : (b : Bool) → IsTrue (list_all (literal_fits sig width) (cond b form (inserted form (ordered l))))
    by true = all
    by false = all_inserted (literal_fits sig width) (joined_fits sig width) form (ordered l) all (ordered_fits sig width l (and_left (literal_fits sig width l) (list_all (literal_fits sig width) ls) fits))

-- ---- plain literals
flipped_gt : (o : Ordering) → is_gt o ≡ true → not (is_gt (ordering_reverse o)) ≡ true
flipped_gt Less h = cc
flipped_gt Equal h = cc
flipped_gt Greater h = refl

not_gt : (b : Bool) → b ≡ false → not b ≡ true
not_gt b h = ap not h

pub ordered_sides : (l : Lit) → IsTrue (has_ordered_sides (ordered l))
ordered_sides (FinIn t mask) = refl
ordered_sides (FinEq a b) = by (is_gt (term_cmp a b)) refl
  where
    by : (x : Bool) → is_gt (term_cmp a b) ≡ x → IsTrue (has_ordered_sides (cond x (FinEq b a) (FinEq a b)))
    by true e = ap (λ o. not (is_gt o)) (term_cmp_total.antisymm b a) ∙ flipped_gt (term_cmp a b) e
    by false e = not_gt (is_gt (term_cmp a b)) e
ordered_sides (FinNe a b) = by (is_gt (term_cmp a b)) refl
  where
    by : (x : Bool) → is_gt (term_cmp a b) ≡ x → IsTrue (has_ordered_sides (cond x (FinNe b a) (FinNe a b)))
    by true e = ap (λ o. not (is_gt o)) (term_cmp_total.antisymm b a) ∙ flipped_gt (term_cmp a b) e
    by false e = not_gt (is_gt (term_cmp a b)) e
ordered_sides (ProcEq a b) = by (is_gt (process_side_cmp a b)) refl
  where
    by : (x : Bool) → is_gt (process_side_cmp a b) ≡ x → IsTrue (has_ordered_sides (cond x (ProcEq b a) (ProcEq a b)))
    by true e = ap (λ o. not (is_gt o)) (process_side_cmp_total.antisymm b a) ∙ flipped_gt (process_side_cmp a b) e
    by false e = not_gt (is_gt (process_side_cmp a b)) e
ordered_sides (ProcNe a b) = by (is_gt (process_side_cmp a b)) refl
  where
    by : (x : Bool) → is_gt (process_side_cmp a b) ≡ x → IsTrue (has_ordered_sides (cond x (ProcNe b a) (ProcNe a b)))
    by true e = ap (λ o. not (is_gt o)) (process_side_cmp_total.antisymm b a) ∙ flipped_gt (process_side_cmp a b) e
    by false e = not_gt (is_gt (process_side_cmp a b)) e
ordered_sides (Diff a b bound) = refl

flipped_eq : (o : Ordering) → is_eq (ordering_reverse o) ≡ is_eq o
flipped_eq Less = refl
flipped_eq Equal = refl
flipped_eq Greater = refl

two_places_back : (a b : PSide) → are_two_places b a ≡ are_two_places a b
two_places_back (PSide.Global g) (PSide.Global h) = refl
two_places_back (PSide.Global g) (PSide.Place q) = refl
two_places_back (PSide.Place p) (PSide.Global h) = refl
two_places_back (PSide.Place p) (PSide.Place q) = ap not (same_comm q p)

-- the order of the sides does not matter
pub alone-ordered : (sig : Signature) (l : Lit) → is_true_alone sig (ordered l) ≡ is_true_alone sig l
alone-ordered sig (FinIn t mask) = refl
alone-ordered sig (FinEq a b) = by (is_gt (term_cmp a b))
  where
    by : (x : Bool) → is_true_alone sig (cond x (FinEq b a) (FinEq a b)) ≡ is_true_alone sig (FinEq a b)
    by true = ap is_eq (term_cmp_total.antisymm b a) ∙ flipped_eq (term_cmp a b)
    by false = refl
alone-ordered sig (FinNe a b) = by (is_gt (term_cmp a b))
  where
    by : (x : Bool) → is_true_alone sig (cond x (FinNe b a) (FinNe a b)) ≡ is_true_alone sig (FinNe a b)
    by true = refl
    by false = refl
alone-ordered sig (ProcEq a b) = by (is_gt (process_side_cmp a b))
  where
    by : (x : Bool) → is_true_alone sig (cond x (ProcEq b a) (ProcEq a b)) ≡ is_true_alone sig (ProcEq a b)
    by true = ap is_eq (process_side_cmp_total.antisymm b a) ∙ flipped_eq (process_side_cmp a b)
    by false = refl
alone-ordered sig (ProcNe a b) = by (is_gt (process_side_cmp a b))
  where
    by : (x : Bool) → is_true_alone sig (cond x (ProcNe b a) (ProcNe a b)) ≡ is_true_alone sig (ProcNe a b)
    by true = two_places_back a b
    by false = refl
alone-ordered sig (Diff a b bound) = refl

-- a literal that fits and is plain
fits_plain : Signature → ℕ → Lit → Bool
fits_plain sig width l = literal_fits sig width l && is_plain sig l

not_full : (n m full : ℕ) → n < full + 1 → IsTrue (not (n == full)) → not (bit_and n m == full) ≡ true
not_full n m full within differ =
    let le = and_le_l n m in
    let apart : n ≡ full → ⊥ = is_not_same n full differ in
    let less : bit_and n m < full = omega arith in not_same (bit_and n m) full (λ e. let no : ⊥ = omega arith in no)

mask_not_full : (n m k : ℕ) → IsTrue (nat_lt n (2 ^ k)) → IsTrue (not (n == (2 ^ k - 1))) → not (bit_and n m == (2 ^ k - 1)) ≡ true
mask_not_full n m k fits differ =
    let below = less_is n (2 ^ k) fits in
    not_full n m (2 ^ k - 1) (omega arith) differ

least_not_alone : (e : Bool) (m n : ℤ) → IsTrue (not (e && int_le (pos 0) n)) → not (e && int_le (pos 0) (int_min n m)) ≡ true
least_not_alone false m n h = refl
least_not_alone true m n h = ap not (int_le-int_min (pos 0) n m) ∙ by (int_le (pos 0) n) h
  where
    by : (b : Bool) → IsTrue (not b) → not (b && int_le (pos 0) m) ≡ true
    by true k = cc
    by false k = refl

joined_plain : (sig : Signature) (width : ℕ) (l m : Lit) → OneSubject l m → IsTrue (fits_plain sig width l) → IsTrue (fits_plain sig width m) → IsTrue (fits_plain sig width (joined m l))
unfolding fits_plain
joined_plain sig width _ _ (masks t m n) h k =
    let fits = and_left (literal_fits sig width (FinIn t n)) (is_plain sig (FinIn t n)) k in
    and_both (literal_fits sig width (joined (FinIn t n) (FinIn t m))) (is_plain sig (joined (FinIn t n) (FinIn t m)))
    (joined_fits sig width (FinIn t m) (FinIn t n) (masks t m n) (and_left (literal_fits sig width (FinIn t m)) (is_plain sig (FinIn t m)) h) fits)
    (mask_not_full n m (constructors_at sig t) (and_right (is_finite (sort_of sig t) && place_fits width t) (nat_lt n (2 ^ constructors_at sig t)) fits)
    (and_right (literal_fits sig width (FinIn t n)) (is_plain sig (FinIn t n)) k))
joined_plain sig width _ _ (equal_terms a b) h k = h
joined_plain sig width _ _ (unequal_terms a b) h k = h
joined_plain sig width _ _ (equal_processes a b) h k = h
joined_plain sig width _ _ (unequal_processes a b) h k = h
joined_plain sig width _ _ (bounds a b m n) h k =
    and_both (literal_fits sig width (Diff a b n)) (is_plain sig (joined (Diff a b n) (Diff a b m)))
    (and_left (literal_fits sig width (Diff a b n)) (is_plain sig (Diff a b n)) k)
    (least_not_alone (is_eq (integer_side_cmp a b)) m n (and_right (literal_fits sig width (Diff a b n)) (is_plain sig (Diff a b n)) k))

fold_plain : (sig : Signature) (width : ℕ) (form lits : List Lit) → IsTrue (list_all (fits_plain sig width) form) → IsTrue (list_all (literal_fits sig width) lits)
    → IsTrue (list_all (fits_plain sig width) (fold (placed sig) form lits))
unfolding fits_plain
fold_plain sig width form [] all fits = all
fold_plain sig width form (l ∷ ls) all fits =
    fold_plain sig width (placed sig form l) ls (by (is_true_alone sig l) refl) (and_right (literal_fits sig width l) (list_all (literal_fits sig width) ls) fits)
  where
    plain : is_true_alone sig l ≡ false → IsTrue (fits_plain sig width (ordered l))
    plain e =
        and_both (literal_fits sig width (ordered l)) (is_plain sig (ordered l)) (ordered_fits sig width l (and_left (literal_fits sig width l) (list_all (literal_fits sig width) ls) fits))
        (and_both (has_ordered_sides (ordered l)) (not (is_true_alone sig (ordered l))) (ordered_sides l) (ap not (alone-ordered sig l ∙ e)))

    by : (b : Bool) → is_true_alone sig l ≡ b → IsTrue (list_all (fits_plain sig width) (cond b form (inserted form (ordered l))))
    by true e = all
    by false e = all_inserted (fits_plain sig width) (joined_plain sig width) form (ordered l) all (plain e)

all_plain : (sig : Signature) (width : ℕ) (lits : List Lit) → IsTrue (list_all (fits_plain sig width) lits) → IsTrue (list_all (is_plain sig) lits)
unfolding fits_plain
all_plain sig width [] h = refl
all_plain sig width (l ∷ ls) h =
    and_both (is_plain sig l) (list_all (is_plain sig) ls)
    (and_right (literal_fits sig width l) (is_plain sig l) (and_left (fits_plain sig width l) (list_all (fits_plain sig width) ls) h))
    (all_plain sig width ls (and_right (fits_plain sig width l) (list_all (fits_plain sig width) ls) h))

pub form_is_normal : (sig : Signature) (width : ℕ) (lits : List Lit) → IsTrue (list_all (literal_fits sig width) lits) → IsTrue (is_normal sig (normal_form sig lits))
form_is_normal sig width lits fits =
    and_both (list_all (is_plain sig) (normal_form sig lits)) (subjects_rise (normal_form sig lits))
    (all_plain sig width (normal_form sig lits) (fold_plain sig width [] lits refl fits)) (rises_fold sig [] lits refl)

-- ---- a normal form stays
ordered-plain : (l : Lit) → IsTrue (has_ordered_sides l) → ordered l ≡ l
ordered-plain (FinIn t mask) h = refl
ordered-plain (FinEq a b) h = by (is_gt (term_cmp a b)) h
  where
    by : (x : Bool) → IsTrue (not x) → cond x (FinEq b a) (FinEq a b) ≡ FinEq a b
    by true k = cc
    by false k = refl
ordered-plain (FinNe a b) h = by (is_gt (term_cmp a b)) h
  where
    by : (x : Bool) → IsTrue (not x) → cond x (FinNe b a) (FinNe a b) ≡ FinNe a b
    by true k = cc
    by false k = refl
ordered-plain (ProcEq a b) h = by (is_gt (process_side_cmp a b)) h
  where
    by : (x : Bool) → IsTrue (not x) → cond x (ProcEq b a) (ProcEq a b) ≡ ProcEq a b
    by true k = cc
    by false k = refl
ordered-plain (ProcNe a b) h = by (is_gt (process_side_cmp a b)) h
  where
    by : (x : Bool) → IsTrue (not x) → cond x (ProcNe b a) (ProcNe a b) ≡ ProcNe a b
    by true k = cc
    by false k = refl
ordered-plain (Diff a b bound) h = refl

placed-plain : (sig : Signature) (form : List Lit) (l : Lit) → IsTrue (is_plain sig l) → placed sig form l ≡ inserted form l
placed-plain sig form l h = by (is_true_alone sig l) (and_right (has_ordered_sides l) (not (is_true_alone sig l)) h)
  where
    by : (x : Bool) → IsTrue (not x) → cond x form (inserted form (ordered l)) ≡ inserted form l
    by true k = cc
    by false k = ap (inserted form) (ordered-plain l (and_left (has_ordered_sides l) (not (is_true_alone sig l)) h))

pub all_at : {X : Type 0} (f : X → Bool) (xs : List X) (j : ℕ) (d : X) → IsTrue (list_all f xs) → j < length xs → IsTrue (f (get_or xs j d))
all_at f [] j d h below = absurd (omega arith)
all_at f (x ∷ xs) zero d h below = and_left (f x) (list_all f xs) h
all_at f (x ∷ xs) (suc j) d h below = all_at f xs j d (and_right (f x) (list_all f xs) h) (omega arith)

middle_holds : {X : Type 0} (f : X → Bool) (xs : List X) (y : X) (ys : List X) → IsTrue (list_all f (xs ++ y ∷ ys)) → IsTrue (f y)
middle_holds f [] y ys h = and_left (f y) (list_all f ys) h
middle_holds f (x ∷ xs) y ys h = middle_holds f xs y ys (and_right (f x) (list_all f (xs ++ y ∷ ys)) h)

inserted_end : (form : List Lit) (l : Lit) (ls : List Lit) → IsTrue (subjects_rise (form ++ l ∷ ls)) → inserted form l ≡ form ++ l ∷ []
inserted_end [] l ls rises = refl
inserted_end (m ∷ ms) l ls rises =
    ap (λ o. match_ordering o (l ∷ m ∷ ms) (joined m l ∷ ms) (m ∷ inserted ms l))
    (less_back m l (below_less m l (middle_holds (λ x. is_lt (subject_cmp m x)) ms l ls (and_left (list_all (λ x. is_lt (subject_cmp m x)) (ms ++ l ∷ ls)) (subjects_rise (ms ++ l ∷ ls)) rises))))
    ∙ ap (λ xs. m ∷ xs) (inserted_end ms l ls (and_right (list_all (λ x. is_lt (subject_cmp m x)) (ms ++ l ∷ ls)) (subjects_rise (ms ++ l ∷ ls)) rises))

fold_end : (sig : Signature) (form lits : List Lit) → IsTrue (list_all (is_plain sig) lits) → IsTrue (subjects_rise (form ++ lits)) → fold (placed sig) form lits ≡ form ++ lits
fold_end sig form [] plain rises = sym (append-nil form)
fold_end sig form (l ∷ ls) plain rises =
    ap (λ xs. fold (placed sig) xs ls) (placed-plain sig form l (and_left (is_plain sig l) (list_all (is_plain sig) ls) plain) ∙ inserted_end form l ls rises)
    ∙ fold_end sig (form ++ l ∷ []) ls (and_right (is_plain sig l) (list_all (is_plain sig) ls) plain) (subst (λ xs. IsTrue (subjects_rise xs)) (sym (append_assoc form (l ∷ []) ls)) rises)
    ∙ append_assoc form (l ∷ []) ls

pub form_stays : (sig : Signature) (lits : List Lit) → IsTrue (is_normal sig lits) → normal_form sig lits ≡ lits
form_stays sig lits h = fold_end sig [] lits (and_left (list_all (is_plain sig) lits) (subjects_rise lits) h) (and_right (list_all (is_plain sig) lits) (subjects_rise lits) h)

-- ---- insertion by number
less_than_greater : (m x l : Lit) → IsTrue (is_lt (subject_cmp m x)) → subject_cmp l x ≡ Greater → subject_cmp l m ≡ Greater
less_than_greater m x l h k = less_back m l (subject_cmp_total.trans m x l (below_less m x h) (greater_back l x k))

less_than_equal : (m x l : Lit) → IsTrue (is_lt (subject_cmp m x)) → subject_cmp l x ≡ Equal → subject_cmp l m ≡ Greater
less_than_equal m x l h k = subject_cmp_total.congr l x m k ∙ less_back m x (below_less m x h)

pub inserted_at : (form : List Lit) (l : Lit) (n : ℕ) → IsTrue (subjects_rise form) → n ≤ length form → ByRecursion (λ m. subject_cmp l m ≡ Less) (drop n form)
    → ((k : ℕ) → suc k ≡ n → subject_cmp l (get_or form k l) ≡ Greater) → take n form ++ l ∷ drop n form ≡ inserted form l
inserted_at [] l zero rises within after before = refl
inserted_at [] l (suc n) rises within after before = absurd (omega arith)
inserted_at (m ∷ ms) l zero rises within after before =
    sym (ap (λ o. match_ordering o (l ∷ m ∷ ms) (joined m l ∷ ms) (m ∷ inserted ms l)) after.0)
inserted_at (m ∷ ms) l (suc n) rises within after before =
    ap (λ xs. m ∷ xs) (inserted_at ms l n (and_right (list_all (λ x. is_lt (subject_cmp m x)) ms) (subjects_rise ms) rises) (omega arith) after (λ k e. before (suc k) (ap suc e)))
    ∙ sym (ap (λ o. match_ordering o (l ∷ m ∷ ms) (joined m l ∷ ms) (m ∷ inserted ms l)) (greater n within before))
  where
    greater : (j : ℕ) → suc j ≤ suc (length ms) → ((k : ℕ) → suc k ≡ suc j → subject_cmp l (get_or (m ∷ ms) k l) ≡ Greater) → subject_cmp l m ≡ Greater
    greater zero below last = last 0 refl
    greater (suc j) below last =
        less_than_greater m (get_or ms j l) l (all_at (λ x. is_lt (subject_cmp m x)) ms j l (and_left (list_all (λ x. is_lt (subject_cmp m x)) ms) (subjects_rise ms) rises) (omega arith)) (last (suc j) refl)

pub joined_at : (form : List Lit) (l : Lit) (k : ℕ) → IsTrue (subjects_rise form) → k < length form → subject_cmp l (get_or form k l) ≡ Equal → set form k (joined (get_or form k l) l) ≡ inserted form l
joined_at [] l k rises within same = absurd (omega arith)
joined_at (m ∷ ms) l zero rises within same = sym (ap (λ o. match_ordering o (l ∷ m ∷ ms) (joined m l ∷ ms) (m ∷ inserted ms l)) same)
joined_at (m ∷ ms) l (suc k) rises within same =
    ap (λ xs. m ∷ xs) (joined_at ms l k (and_right (list_all (λ x. is_lt (subject_cmp m x)) ms) (subjects_rise ms) rises) (omega arith) same)
    ∙ sym (ap (λ o. match_ordering o (l ∷ m ∷ ms) (joined m l ∷ ms) (m ∷ inserted ms l))
    (less_than_equal m (get_or ms k l) l (all_at (λ x. is_lt (subject_cmp m x)) ms k l (and_left (list_all (λ x. is_lt (subject_cmp m x)) ms) (subjects_rise ms) rises) (omega arith)) same))
