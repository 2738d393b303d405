-- A renamed literal fits the width of the big thing.
use Rattle.std.proofs.Common.{◌≡◌, ℕ, ◌<◌, ◌^◌, List, [], ◌∷◌, length, refl, subst, ◌∙◌, sym}
use Rattle.std.specs.Prelude.{◌&&◌, IsTrue, nat_lt, All, slice_index}
use Rattle.std.specs.List.{list_all}
use Rattle.cub_proto.specs.declared.literal.Sort.TheVariants as Sort
use Rattle.cub_proto.specs.declared.literal.Term.{Term}
use Rattle.cub_proto.specs.declared.literal.PSide.{PSide}
use Rattle.cub_proto.specs.declared.literal.ISide.{ISide}
use Rattle.cub_proto.specs.declared.literal.ISide.TheVariants.{Zero, At}
use Rattle.cub_proto.specs.declared.literal.Lit.{Lit}
use Rattle.cub_proto.specs.declared.literal.Lit.TheVariants.{FinIn, FinEq, FinNe, ProcEq, ProcNe, Diff}
use Rattle.cub_proto.specs.declared.protocol.Protocol.{Protocol}
use Rattle.cub_proto.specs.Configuration.{Configuration}
use Rattle.cub_proto.specs.Truth.{all_true}
use Rattle.cub_proto.specs.Signature.{Signature, sort_of, declared_sort, constructors_at, is_sort, same_finite}
use Rattle.cub_proto.specs.StateOf.{signature_of}
use Rattle.cub_proto.specs.Fits.{literal_fits, is_finite, place_fits, process_side_fits, integer_side_fits}
use Rattle.cub_cube.specs.Normal.{normal_form}
use Rattle.cub_cube.specs.Rename.{renamed, renamed_all, renamed_term, renamed_process_side, renamed_integer_side, along, is_within, process_side_within, integer_side_within}
use Rattle.cub_cube.specs.Meaning.{AreAtPlaces}
use Rattle.cub_base.proofs.Bools.{and_left, and_right, and_both, less_is, is_less}
use Rattle.cub_cube.proofs.Renames.{renamed_all_true}
use Rattle.cub_cube.proofs.Form.{fold_true}

module _ (sig : Signature) (width : ℕ) (r : List ℕ) (within : All (λ p. p < width) r) where
  renamed_place : (t : Term) → IsTrue (place_fits (length r) t) → IsTrue (place_fits width (renamed_term r t))
  renamed_place (Term.Global g) h = refl
  renamed_place (Term.Cell a p) h = is_less (slice_index r p) width (within p 0 (less_is p (length r) h))

  same_sort_of : (t : Term) → sort_of sig (renamed_term r t) ≡ sort_of sig t
  same_sort_of (Term.Global g) = refl
  same_sort_of (Term.Cell a p) = refl

  renamed_terms : (a b : Term) → IsTrue (literal_fits sig (length r) (FinEq a b)) → IsTrue (literal_fits sig width (FinEq (renamed_term r a) (renamed_term r b)))
  renamed_terms a b h =
      let left = and_left (same_finite (sort_of sig a) (sort_of sig b) && place_fits (length r) a) (place_fits (length r) b) h in
      let sorts = and_left (same_finite (sort_of sig a) (sort_of sig b)) (place_fits (length r) a) left in
      and_both (same_finite (sort_of sig (renamed_term r a)) (sort_of sig (renamed_term r b)) && place_fits width (renamed_term r a)) (place_fits width (renamed_term r b))
      (and_both (same_finite (sort_of sig (renamed_term r a)) (sort_of sig (renamed_term r b))) (place_fits width (renamed_term r a))
      (subst (λ x. IsTrue (same_finite x (sort_of sig (renamed_term r b)))) (sym (same_sort_of a)) (subst (λ y. IsTrue (same_finite (sort_of sig a) y)) (sym (same_sort_of b)) sorts))
      (renamed_place a (and_right (same_finite (sort_of sig a) (sort_of sig b)) (place_fits (length r) a) left)))
      (renamed_place b (and_right (same_finite (sort_of sig a) (sort_of sig b) && place_fits (length r) a) (place_fits (length r) b) h))

  renamed_process_fits : (a : PSide) → IsTrue (process_side_fits sig (length r) a) → IsTrue (process_side_fits sig width (renamed_process_side r a))
  renamed_process_fits (PSide.Global g) h = h
  renamed_process_fits (PSide.Place p) h = is_less (slice_index r p) width (within p 0 (less_is p (length r) h))

  renamed_integer_fits : (a : ISide) → IsTrue (integer_side_fits sig (length r) a) → IsTrue (integer_side_fits sig width (renamed_integer_side r a))
  renamed_integer_fits Zero h = refl
  renamed_integer_fits (At t) h =
      and_both (is_sort (sort_of sig (renamed_term r t)) Sort.Int) (place_fits width (renamed_term r t))
      (subst (λ x. IsTrue (is_sort x Sort.Int)) (sym (same_sort_of t)) (and_left (is_sort (sort_of sig t) Sort.Int) (place_fits (length r) t) h))
      (renamed_place t (and_right (is_sort (sort_of sig t) Sort.Int) (place_fits (length r) t) h))

  renamed_processes : (a b : PSide) → IsTrue (process_side_fits sig (length r) a && process_side_fits sig (length r) b) → IsTrue (process_side_fits sig width (renamed_process_side r a) && process_side_fits sig width (renamed_process_side r b))
  renamed_processes a b h =
      and_both (process_side_fits sig width (renamed_process_side r a)) (process_side_fits sig width (renamed_process_side r b))
      (renamed_process_fits a (and_left (process_side_fits sig (length r) a) (process_side_fits sig (length r) b) h))
      (renamed_process_fits b (and_right (process_side_fits sig (length r) a) (process_side_fits sig (length r) b) h))

  renamed_mask : (t : Term) (mask : ℕ) → IsTrue (literal_fits sig (length r) (FinIn t mask)) → IsTrue (literal_fits sig width (FinIn (renamed_term r t) mask))
  renamed_mask (Term.Global g) mask h = h
  renamed_mask (Term.Cell a p) mask h =
      let front = and_left (is_finite (declared_sort sig.arrays a) && place_fits (length r) (Term.Cell a p)) (nat_lt mask (2 ^ constructors_at sig (Term.Cell a p))) h in
      and_both (is_finite (declared_sort sig.arrays a) && place_fits width (renamed_term r (Term.Cell a p))) (nat_lt mask (2 ^ constructors_at sig (Term.Cell a p)))
      (and_both (is_finite (declared_sort sig.arrays a)) (place_fits width (renamed_term r (Term.Cell a p)))
      (and_left (is_finite (declared_sort sig.arrays a)) (place_fits (length r) (Term.Cell a p)) front)
      (renamed_place (Term.Cell a p) (and_right (is_finite (declared_sort sig.arrays a)) (place_fits (length r) (Term.Cell a p)) front)))
      (and_right (is_finite (declared_sort sig.arrays a) && place_fits (length r) (Term.Cell a p)) (nat_lt mask (2 ^ constructors_at sig (Term.Cell a p))) h)

  pub renamed_fits : (l : Lit) → IsTrue (literal_fits sig (length r) l) → IsTrue (literal_fits sig width (renamed r l))
  renamed_fits (FinIn t mask) h = renamed_mask t mask h
  renamed_fits (FinEq a b) h = renamed_terms a b h
  renamed_fits (FinNe a b) h = renamed_terms a b h
  renamed_fits (ProcEq a b) h = renamed_processes a b h
  renamed_fits (ProcNe a b) h = renamed_processes a b h
  renamed_fits (Diff a b bound) h =
      and_both (integer_side_fits sig width (renamed_integer_side r a)) (integer_side_fits sig width (renamed_integer_side r b))
      (renamed_integer_fits a (and_left (integer_side_fits sig (length r) a) (integer_side_fits sig (length r) b) h))
      (renamed_integer_fits b (and_right (integer_side_fits sig (length r) a) (integer_side_fits sig (length r) b) h))

  pub renamed_all_fits : (lits : List Lit) → IsTrue (list_all (literal_fits sig (length r)) lits) → IsTrue (list_all (literal_fits sig width) (renamed_all r lits))
  renamed_all_fits [] h = refl
  renamed_all_fits (l ∷ ls) h =
      and_both (literal_fits sig width (renamed r l)) (list_all (literal_fits sig width) (renamed_all r ls))
      (renamed_fits l (and_left (literal_fits sig (length r) l) (list_all (literal_fits sig (length r)) ls) h))
      (renamed_all_fits ls (and_right (literal_fits sig (length r) l) (list_all (literal_fits sig (length r)) ls) h))

-- ---- what fits has its places below the width
module _ (sig : Signature) (width : ℕ) where
  process_within : (a : PSide) → IsTrue (process_side_fits sig width a) → IsTrue (process_side_within width a)
  process_within (PSide.Global g) h = refl
  process_within (PSide.Place p) h = h

  integer_within : (a : ISide) → IsTrue (integer_side_fits sig width a) → IsTrue (integer_side_within width a)
  integer_within Zero h = refl
  integer_within (At t) h = and_right (is_sort (sort_of sig t) Sort.Int) (place_fits width t) h

  terms_within : (a b : Term) → IsTrue (literal_fits sig width (FinEq a b)) → IsTrue (place_fits width a && place_fits width b)
  terms_within a b h =
      and_both (place_fits width a) (place_fits width b)
      (and_right (same_finite (sort_of sig a) (sort_of sig b)) (place_fits width a) (and_left (same_finite (sort_of sig a) (sort_of sig b) && place_fits width a) (place_fits width b) h))
      (and_right (same_finite (sort_of sig a) (sort_of sig b) && place_fits width a) (place_fits width b) h)

  processes_within_both : (a b : PSide) → IsTrue (process_side_fits sig width a && process_side_fits sig width b) → IsTrue (process_side_within width a && process_side_within width b)
  processes_within_both a b h =
      and_both (process_side_within width a) (process_side_within width b)
      (process_within a (and_left (process_side_fits sig width a) (process_side_fits sig width b) h)) (process_within b (and_right (process_side_fits sig width a) (process_side_fits sig width b) h))

  pub fits_within : (l : Lit) → IsTrue (literal_fits sig width l) → IsTrue (is_within width l)
  fits_within (FinIn t mask) h =
      and_right (is_finite (sort_of sig t)) (place_fits width t) (and_left (is_finite (sort_of sig t) && place_fits width t) (nat_lt mask (2 ^ constructors_at sig t)) h)
  fits_within (FinEq a b) h = terms_within a b h
  fits_within (FinNe a b) h = terms_within a b h
  fits_within (ProcEq a b) h = processes_within_both a b h
  fits_within (ProcNe a b) h = processes_within_both a b h
  fits_within (Diff a b bound) h =
      and_both (integer_side_within width a) (integer_side_within width b)
      (integer_within a (and_left (integer_side_fits sig width a) (integer_side_fits sig width b) h)) (integer_within b (and_right (integer_side_fits sig width a) (integer_side_fits sig width b) h))

  pub all_fits_within : (lits : List Lit) → IsTrue (list_all (literal_fits sig width) lits) → IsTrue (list_all (is_within width) lits)
  all_fits_within [] h = refl
  all_fits_within (l ∷ ls) h =
      and_both (is_within width l) (list_all (is_within width) ls) (fits_within l (and_left (literal_fits sig width l) (list_all (literal_fits sig width) ls) h))
      (all_fits_within ls (and_right (literal_fits sig width l) (list_all (literal_fits sig width) ls) h))

-- a renamed normal form has the meaning at the composed places
pub renamed_form_true : (p : Protocol) (width : ℕ) (r : List ℕ) (lits : List Lit) → All (λ q. q < width) r → IsTrue (list_all (literal_fits (signature_of p) (length r)) lits)
    → (s : Configuration) (places : List ℕ) → AreAtPlaces p s places width → all_true s places (normal_form (signature_of p) (renamed_all r lits)) ≡ all_true s (along r places) lits
renamed_form_true p width r lits within fits s places at =
    fold_true p s places at.state at.processes [] (renamed_all r lits)
    (subst (λ n. IsTrue (list_all (literal_fits (signature_of p) n) (renamed_all r lits))) (sym at.one_each) (renamed_all_fits (signature_of p) width r within lits fits))
    ∙ renamed_all_true s r places lits (all_fits_within (signature_of p) (length r) lits fits)
