-- A form of a cube that fits fits, and its bounds are among those of the cube.
use Rattle.std.proofs.Common.{◌≡◌, ℕ, ◌^◌, ◌≤◌, Bool, true, false, ◌&&◌, cond, List, get_or, refl, sym, ap, ◌∙◌, subst, is_gt, le_trans}
use Rattle.std.specs.Prelude.{Option, Some, None, IsTrue, Contains, nat_lt, unsigned_abs}
use Rattle.std.specs.List.{list_all}
use Rattle.std.proofs.lemmas.List.Elements.{All-contains, Contains-get_or}
use Rattle.cub_base.proofs.Conjunctions.{list_all_weaker}
use Rattle.cub_base.proofs.Bools.{is_le, le_is, and_left, and_right, and_both, same_comm}
use Rattle.cub_base.proofs.Elements.{all_from, from_all}
use Rattle.cub_proto.specs.declared.literal.Sort.{Sort}
use Rattle.cub_proto.specs.declared.literal.Term.{Term}
use Rattle.cub_proto.specs.declared.literal.PSide.{PSide}
use Rattle.cub_proto.specs.declared.literal.ISide.{ISide}
use Rattle.cub_proto.specs.declared.literal.ISide.TheVariants.{Zero, At}
use Rattle.cub_proto.specs.declared.literal.Lit.{Lit}
use Rattle.cub_proto.specs.declared.literal.Lit.TheVariants.{FinIn, FinEq, FinNe, ProcEq, ProcNe, Diff}
use Rattle.cub_proto.specs.declared.protocol.Protocol.{Protocol}
use Rattle.cub_proto.specs.Signature.{Signature, sort_of, declared_sort, constructors_at, same_finite, is_sort}
use Rattle.cub_proto.specs.StateOf.{signature_of}
use Rattle.cub_proto.specs.Order.{term_cmp, process_side_cmp}
use Rattle.cub_proto.specs.Fits.{literal_fits, is_bounded, is_finite, place_fits, process_side_fits, integer_side_fits}
use Rattle.cub_cube.specs.declared.cube.Cube.{Cube}
use Rattle.cub_cube.specs.Normal.{ordered}
use Rattle.cub_cube.specs.Rename.{renamed, renamed_term, renamed_process_side, renamed_integer_side, is_within, process_side_within, integer_side_within}
use Rattle.log_form.specs.Pieces.{IsFit}
use Rattle.log_form.specs.Forms.{IsForm}

-- ---- the sorts of a literal, whatever its places
abbrev process_sorted : Signature → PSide → Bool
process_sorted sig (PSide.Global g) = is_sort (declared_sort sig.globals g) Sort.Proc
process_sorted sig (PSide.Place p) = true

abbrev integer_sorted : Signature → ISide → Bool
integer_sorted sig Zero = true
integer_sorted sig (At t) = is_sort (sort_of sig t) Sort.Int

abbrev sorted : Signature → Lit → Bool
sorted sig (FinIn t mask) = is_finite (sort_of sig t) && nat_lt mask (2 ^ constructors_at sig t)
sorted sig (FinEq a b) = same_finite (sort_of sig a) (sort_of sig b)
sorted sig (FinNe a b) = same_finite (sort_of sig a) (sort_of sig b)
sorted sig (ProcEq a b) = process_sorted sig a && process_sorted sig b
sorted sig (ProcNe a b) = process_sorted sig a && process_sorted sig b
sorted sig (Diff a b bound) = integer_sorted sig a && integer_sorted sig b

process_has_sort : (sig : Signature) (width : ℕ) (a : PSide) → IsTrue (process_side_fits sig width a) → IsTrue (process_sorted sig a)
process_has_sort sig width (PSide.Global g) h = h
process_has_sort sig width (PSide.Place p) h = refl

process_fits_within : (sig : Signature) (width : ℕ) (a : PSide) → IsTrue (process_sorted sig a) → IsTrue (process_side_within width a) → IsTrue (process_side_fits sig width a)
process_fits_within sig width (PSide.Global g) h k = h
process_fits_within sig width (PSide.Place p) h k = k

integer_has_sort : (sig : Signature) (width : ℕ) (a : ISide) → IsTrue (integer_side_fits sig width a) → IsTrue (integer_sorted sig a)
integer_has_sort sig width Zero h = refl
integer_has_sort sig width (At t) h = and_left (is_sort (sort_of sig t) Sort.Int) (place_fits width t) h

integer_fits_within : (sig : Signature) (width : ℕ) (a : ISide) → IsTrue (integer_sorted sig a) → IsTrue (integer_side_within width a) → IsTrue (integer_side_fits sig width a)
integer_fits_within sig width Zero h k = refl
integer_fits_within sig width (At t) h k = and_both (is_sort (sort_of sig t) Sort.Int) (place_fits width t) h k

two_sorts : (sig : Signature) (width : ℕ) (a b : Term) → IsTrue (literal_fits sig width (FinEq a b)) → IsTrue (same_finite (sort_of sig a) (sort_of sig b))
two_sorts sig width a b h =
    and_left (same_finite (sort_of sig a) (sort_of sig b)) (place_fits width a) (and_left (same_finite (sort_of sig a) (sort_of sig b) && place_fits width a) (place_fits width b) h)

two_fit : (sig : Signature) (width : ℕ) (a b : Term) → IsTrue (same_finite (sort_of sig a) (sort_of sig b)) → IsTrue (place_fits width a && place_fits width b) → IsTrue (literal_fits sig width (FinEq a b))
two_fit sig width a b h k =
    and_both (same_finite (sort_of sig a) (sort_of sig b) && place_fits width a) (place_fits width b)
    (and_both (same_finite (sort_of sig a) (sort_of sig b)) (place_fits width a) h (and_left (place_fits width a) (place_fits width b) k))
    (and_right (place_fits width a) (place_fits width b) k)

has_sorts : (sig : Signature) (width : ℕ) (l : Lit) → IsTrue (literal_fits sig width l) → IsTrue (sorted sig l)
has_sorts sig width (FinIn t mask) h =
    and_both (is_finite (sort_of sig t)) (nat_lt mask (2 ^ constructors_at sig t))
    (and_left (is_finite (sort_of sig t)) (place_fits width t) (and_left (is_finite (sort_of sig t) && place_fits width t) (nat_lt mask (2 ^ constructors_at sig t)) h))
    (and_right (is_finite (sort_of sig t) && place_fits width t) (nat_lt mask (2 ^ constructors_at sig t)) h)
has_sorts sig width (FinEq a b) h = two_sorts sig width a b h
has_sorts sig width (FinNe a b) h = two_sorts sig width a b h
has_sorts sig width (ProcEq a b) h =
    and_both (process_sorted sig a) (process_sorted sig b) (process_has_sort sig width a (and_left (process_side_fits sig width a) (process_side_fits sig width b) h))
    (process_has_sort sig width b (and_right (process_side_fits sig width a) (process_side_fits sig width b) h))
has_sorts sig width (ProcNe a b) h =
    and_both (process_sorted sig a) (process_sorted sig b) (process_has_sort sig width a (and_left (process_side_fits sig width a) (process_side_fits sig width b) h))
    (process_has_sort sig width b (and_right (process_side_fits sig width a) (process_side_fits sig width b) h))
has_sorts sig width (Diff a b bound) h =
    and_both (integer_sorted sig a) (integer_sorted sig b) (integer_has_sort sig width a (and_left (integer_side_fits sig width a) (integer_side_fits sig width b) h))
    (integer_has_sort sig width b (and_right (integer_side_fits sig width a) (integer_side_fits sig width b) h))

fits_within : (sig : Signature) (width : ℕ) (l : Lit) → IsTrue (sorted sig l) → IsTrue (is_within width l) → IsTrue (literal_fits sig width l)
fits_within sig width (FinIn t mask) h k =
    and_both (is_finite (sort_of sig t) && place_fits width t) (nat_lt mask (2 ^ constructors_at sig t))
    (and_both (is_finite (sort_of sig t)) (place_fits width t) (and_left (is_finite (sort_of sig t)) (nat_lt mask (2 ^ constructors_at sig t)) h) k)
    (and_right (is_finite (sort_of sig t)) (nat_lt mask (2 ^ constructors_at sig t)) h)
fits_within sig width (FinEq a b) h k = two_fit sig width a b h k
fits_within sig width (FinNe a b) h k = two_fit sig width a b h k
fits_within sig width (ProcEq a b) h k =
    and_both (process_side_fits sig width a) (process_side_fits sig width b)
    (process_fits_within sig width a (and_left (process_sorted sig a) (process_sorted sig b) h) (and_left (process_side_within width a) (process_side_within width b) k))
    (process_fits_within sig width b (and_right (process_sorted sig a) (process_sorted sig b) h) (and_right (process_side_within width a) (process_side_within width b) k))
fits_within sig width (ProcNe a b) h k =
    and_both (process_side_fits sig width a) (process_side_fits sig width b)
    (process_fits_within sig width a (and_left (process_sorted sig a) (process_sorted sig b) h) (and_left (process_side_within width a) (process_side_within width b) k))
    (process_fits_within sig width b (and_right (process_sorted sig a) (process_sorted sig b) h) (and_right (process_side_within width a) (process_side_within width b) k))
fits_within sig width (Diff a b bound) h k =
    and_both (integer_side_fits sig width a) (integer_side_fits sig width b)
    (integer_fits_within sig width a (and_left (integer_sorted sig a) (integer_sorted sig b) h) (and_left (integer_side_within width a) (integer_side_within width b) k))
    (integer_fits_within sig width b (and_right (integer_sorted sig a) (integer_sorted sig b) h) (and_right (integer_side_within width a) (integer_side_within width b) k))

-- ---- sorts stay under renaming and ordering of sides
same_sort_of : (sig : Signature) (r : List ℕ) (t : Term) → sort_of sig (renamed_term r t) ≡ sort_of sig t
same_sort_of sig r (Term.Global g) = refl
same_sort_of sig r (Term.Cell a p) = refl

same_process : (sig : Signature) (r : List ℕ) (a : PSide) → process_sorted sig (renamed_process_side r a) ≡ process_sorted sig a
same_process sig r (PSide.Global g) = refl
same_process sig r (PSide.Place p) = refl

same_integer : (sig : Signature) (r : List ℕ) (a : ISide) → integer_sorted sig (renamed_integer_side r a) ≡ integer_sorted sig a
same_integer sig r Zero = refl
same_integer sig r (At t) = ap (λ s. is_sort s Sort.Int) (same_sort_of sig r t)

same_mask : (sig : Signature) (r : List ℕ) (t : Term) (mask : ℕ) → sorted sig (renamed r (FinIn t mask)) ≡ sorted sig (FinIn t mask)
same_mask sig r (Term.Global g) mask = refl
same_mask sig r (Term.Cell a p) mask = refl

sorted-renamed : (sig : Signature) (r : List ℕ) (l : Lit) → sorted sig (renamed r l) ≡ sorted sig l
sorted-renamed sig r (FinIn t mask) = same_mask sig r t mask
sorted-renamed sig r (FinEq a b) = ap (λ s. same_finite s (sort_of sig (renamed_term r b))) (same_sort_of sig r a) ∙ ap (same_finite (sort_of sig a)) (same_sort_of sig r b)
sorted-renamed sig r (FinNe a b) = ap (λ s. same_finite s (sort_of sig (renamed_term r b))) (same_sort_of sig r a) ∙ ap (same_finite (sort_of sig a)) (same_sort_of sig r b)
sorted-renamed sig r (ProcEq a b) = ap (λ x. x && process_sorted sig (renamed_process_side r b)) (same_process sig r a) ∙ ap (λ x. process_sorted sig a && x) (same_process sig r b)
sorted-renamed sig r (ProcNe a b) = ap (λ x. x && process_sorted sig (renamed_process_side r b)) (same_process sig r a) ∙ ap (λ x. process_sorted sig a && x) (same_process sig r b)
sorted-renamed sig r (Diff a b bound) = ap (λ x. x && integer_sorted sig (renamed_integer_side r b)) (same_integer sig r a) ∙ ap (λ x. integer_sorted sig a && x) (same_integer sig r b)

same_finite_back : (x y : Option Sort) → IsTrue (same_finite x y) → IsTrue (same_finite y x)
same_finite_back (Some (Sort.Fin j)) (Some (Sort.Fin k)) h = same_comm j k ∙ h
same_finite_back (Some (Sort.Fin j)) (Some Sort.Proc) h = cc
same_finite_back (Some (Sort.Fin j)) (Some Sort.Int) h = cc
same_finite_back (Some (Sort.Fin j)) None h = cc
same_finite_back (Some Sort.Proc) y h = cc
same_finite_back (Some Sort.Int) y h = cc
same_finite_back None y h = cc

swapped : (x y : Bool) → IsTrue (x && y) → IsTrue (y && x)
swapped x y h = and_both y x (and_right x y h) (and_left x y h)

sorted_ordered : (sig : Signature) (l : Lit) → IsTrue (sorted sig (ordered l)) → IsTrue (sorted sig l)
sorted_ordered sig (FinIn t mask) h = h
sorted_ordered sig (FinEq a b) h = by (is_gt (term_cmp a b)) h
  where
    by : (x : Bool) → IsTrue (sorted sig (cond x (FinEq b a) (FinEq a b))) → IsTrue (sorted sig (FinEq a b))
    by true k = same_finite_back (sort_of sig b) (sort_of sig a) k
    by false k = k
sorted_ordered sig (FinNe a b) h = by (is_gt (term_cmp a b)) h
  where
    by : (x : Bool) → IsTrue (sorted sig (cond x (FinNe b a) (FinNe a b))) → IsTrue (sorted sig (FinNe a b))
    by true k = same_finite_back (sort_of sig b) (sort_of sig a) k
    by false k = k
sorted_ordered sig (ProcEq a b) h = by (is_gt (process_side_cmp a b)) h
  where
    by : (x : Bool) → IsTrue (sorted sig (cond x (ProcEq b a) (ProcEq a b))) → IsTrue (sorted sig (ProcEq a b))
    by true k = swapped (process_sorted sig b) (process_sorted sig a) k
    by false k = k
sorted_ordered sig (ProcNe a b) h = by (is_gt (process_side_cmp a b)) h
  where
    by : (x : Bool) → IsTrue (sorted sig (cond x (ProcNe b a) (ProcNe a b))) → IsTrue (sorted sig (ProcNe a b))
    by true k = swapped (process_sorted sig b) (process_sorted sig a) k
    by false k = k
sorted_ordered sig (Diff a b bound) h = h

-- ---- a bound stays
bounded_back : (limit : ℕ) (r : List ℕ) (l : Lit) → IsTrue (is_bounded limit (ordered (renamed r l))) → IsTrue (is_bounded limit l)
bounded_back limit r (FinIn t mask) h = refl
bounded_back limit r (FinEq a b) h = refl
bounded_back limit r (FinNe a b) h = refl
bounded_back limit r (ProcEq a b) h = refl
bounded_back limit r (ProcNe a b) h = refl
bounded_back limit r (Diff a b bound) h = h

-- ---- a form of a cube
all_if : (test : Lit → Bool) (lits : List Lit) → ((l : Lit) → Contains lits l → IsTrue (test l)) → IsTrue (list_all test lits)
all_if test lits h = from_all test lits (λ k d below. h (get_or lits k d) (Contains-get_or lits k d below))

contained : (test : Lit → Bool) (lits : List Lit) (l : Lit) → IsTrue (list_all test lits) → Contains lits l → IsTrue (test l)
contained test lits l h inside = All-contains (λ m. IsTrue (test m)) lits l (all_from test lits h) inside

pub form_fit : (p : Protocol) (wide limit : ℕ) (piece : Cube) (places : List ℕ) (c : Cube) → IsForm p piece places c → IsFit p wide limit piece → IsFit p wide limit c
form_fit p wide limit piece places c form fit = record {
  narrow = subst (λ n. n ≤ wide) (sym form.width) fit.narrow;
  fits = subst (λ n. IsTrue (list_all (literal_fits (signature_of p) n) c.lits)) (sym form.width)
      (all_if (literal_fits (signature_of p) piece.width) c.lits (λ l inside.
      fits_within (signature_of p) piece.width l
      (subst IsTrue (sorted-renamed (signature_of p) places l)
      (sorted_ordered (signature_of p) (renamed places l)
      (has_sorts (signature_of p) piece.width (ordered (renamed places l)) (contained (literal_fits (signature_of p) piece.width) piece.lits (ordered (renamed places l)) fit.fits (form.some l inside)))))
      (contained (is_within piece.width) c.lits l form.within inside)));
  normal = form.normal;
  bounded = all_if (is_bounded limit) c.lits (λ l inside.
      bounded_back limit places l (contained (is_bounded limit) piece.lits (ordered (renamed places l)) fit.bounded (form.some l inside)));
}

-- ---- a greater limit
bounded_more : (limit more : ℕ) → limit ≤ more → (l : Lit) → IsTrue (is_bounded limit l) → IsTrue (is_bounded more l)
bounded_more limit more le (FinIn t mask) h = refl
bounded_more limit more le (FinEq a b) h = refl
bounded_more limit more le (FinNe a b) h = refl
bounded_more limit more le (ProcEq a b) h = refl
bounded_more limit more le (ProcNe a b) h = refl
bounded_more limit more le (Diff a b bound) h = is_le (unsigned_abs bound) more (le_trans (le_is (unsigned_abs bound) limit h) le)

pub fit_more : (p : Protocol) (wide limit more : ℕ) (c : Cube) → limit ≤ more → IsFit p wide limit c → IsFit p wide more c
fit_more p wide limit more c le fit = record {
  narrow = fit.narrow;
  fits = fit.fits;
  normal = fit.normal;
  bounded = list_all_weaker (is_bounded limit) (is_bounded more) (λ l h. bounded_more limit more le l h) c.lits fit.bounded;
}

pub fit_wider : (p : Protocol) (wide wider limit : ℕ) (c : Cube) → wide ≤ wider → IsFit p wide limit c → IsFit p wider limit c
fit_wider p wide wider limit c le fit = record { narrow = le_trans fit.narrow le; fits = fit.fits; normal = fit.normal; bounded = fit.bounded }
