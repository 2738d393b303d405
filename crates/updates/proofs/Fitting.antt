-- What fits at the places where an update is read fits at the width of the cube, once renamed.
use Rattle.std.proofs.Common.{◌≡◌, ℕ, suc, zero, ◌<◌, Bool, true, false, List, [], ◌∷◌, ◌++◌, length, take, Option, Some, None, refl, sym, ap, ◌∙◌, subst}
use Rattle.std.specs.Prelude.{map, All, IsTrue, ◌&&◌, if◌then◌else◌, find, nat_lt, nat_le, slice_get, slice_index, slice_index_or, unsigned_abs}
use Rattle.std.specs.List.{list_all, AllZip}
use Rattle.std.specs.Option.{option_map_or}
use Rattle.std.proofs.lemmas.List.{map-append, length_push}
use Rattle.std.proofs.lemmas.List.Elements.{All-push}
use Rattle.cub_proto.specs.declared.literal.Sort.{Sort}
use Rattle.cub_proto.specs.declared.literal.Term.{Term}
use Rattle.cub_proto.specs.declared.literal.PSide.{PSide}
use Rattle.cub_proto.specs.declared.literal.ISide.{ISide}
use Rattle.cub_proto.specs.declared.literal.ISide.TheVariants.{Zero, At}
use Rattle.cub_proto.specs.declared.literal.Lit.{Lit}
use Rattle.cub_proto.specs.declared.literal.Value.{Value}
use Rattle.cub_proto.specs.declared.transition.Target.{Target}
use Rattle.cub_proto.specs.declared.transition.Branch.{Branch}
use Rattle.cub_proto.specs.declared.transition.Update.{Update}
use Rattle.cub_proto.specs.declared.protocol.Protocol.{Protocol}
use Rattle.cub_proto.specs.Signature.{Signature, sort_of, target_sort, declared_sort, is_sort}
use Rattle.cub_proto.specs.StateOf.{signature_of}
use Rattle.cub_proto.specs.Fits.{literal_fits, place_fits, term_fits, process_side_fits, integer_side_fits, is_bounded, greatest_bound, greatest_constant, conjunction_fits, value_fits, branch_fits, update_fits, update_fits_sort, update_width, is_any}
use Rattle.cub_proto.specs.Effect.{update_of, same_target}
use Rattle.cub_proto.specs.Negation.{negated}
use Rattle.cub_proto.proofs.Targets.{target_is}
use Rattle.cub_cube.specs.Rename.{along, renamed_term, renamed_process_side, renamed_integer_side, renamed_value, value_within}
use Rattle.cub_cube.specs.Replace.{constant, can_replace}
use Rattle.cub_cube.specs.Step.{target_of, update_places}
use Rattle.cub_base.proofs.Bools.{and_left, and_right, and_both, less_is, is_less}
use Rattle.cub_base.proofs.Members.{Has}
use Rattle.cub_cube.proofs.Negations.{negated_fits}
use Rattle.updates.specs.Ways.{numbers, way, failing, condition, way_lits, way_value}
use Rattle.updates.specs.Chosen.{reading_places}
use Rattle.updates.proofs.Products.{number_has, product_has}
use Rattle.updates.proofs.WayLemmas.{all_at, conditions_fit, IsWay}

-- ---- the places where an update is read
pub along_reading : (params places : List ℕ) (t : Term) → along (reading_places params t) places ≡ update_places (along params places) places t
along_reading params places (Term.Global g) = refl
along_reading params places (Term.Cell a p) = map-append (λ q. slice_index places q) params (p ∷ [])

pub length_reading : (params : List ℕ) (t : Term) → length (reading_places params t) ≡ update_width (length params) (target_of t)
length_reading params (Term.Global g) = refl
length_reading params (Term.Cell a p) = length_push params p

pub reading_within : (width : ℕ) (params : List ℕ) (t : Term) → All (λ q. q < width) params → IsTrue (place_fits width t) → All (λ q. q < width) (reading_places params t)
reading_within width params (Term.Global g) inside h = inside
reading_within width params (Term.Cell a p) inside h = All-push (λ q. q < width) params p inside (less_is p width h)

pub target_sort_is : (sig : Signature) (t : Term) → target_sort sig (target_of t) ≡ sort_of sig t
target_sort_is sig (Term.Global g) = refl
target_sort_is sig (Term.Cell a p) = refl

-- ---- the update of a term
pub record UpdateFits (sig : Signature) (width : ℕ) (t : Term) (u : Update) : Type 0 where
  pub sort : Sort
  pub is_sort : sort_of sig t ≡ Some sort
  pub branches : IsTrue (list_all (branch_fits sig width sort) u.branches)
  pub last : IsTrue (value_fits sig width sort u.last)

pub update_parts : (sig : Signature) (width : ℕ) (t : Term) (u : Update) (o : Option Sort) → o ≡ sort_of sig t → IsTrue (update_fits_sort sig width o u) → UpdateFits sig width t u
update_parts sig width t u None is h = cc
update_parts sig width t u (Some sort) is h =
    let front = and_left (nat_le (length u.branches) 64 && list_all (branch_fits sig width sort) u.branches) (value_fits sig width sort u.last) h in
    record {
      sort = sort;
      is_sort = sym is;
      branches = and_right (nat_le (length u.branches) 64) (list_all (branch_fits sig width sort) u.branches) front;
      last = and_right (nat_le (length u.branches) 64 && list_all (branch_fits sig width sort) u.branches) (value_fits sig width sort u.last) h;
    }

pub found_update : (sig : Signature) (params : ℕ) (updates : List Update) (target : Target) (u : Update) → IsTrue (list_all (update_fits sig params) updates) → update_of updates target ≡ Some u
    → IsTrue (update_fits sig params u) × (u.target ≡ target)
found_update sig params [] target u h e = cc
found_update sig params (v ∷ vs) target u h e = by (same_target v.target target) refl e (found_update sig params vs target u (and_right (update_fits sig params v) (list_all (update_fits sig params) vs) h))
  where
    by : (b : Bool) → same_target v.target target ≡ b → (if b then Some v else find (λ x. same_target x.target target) vs) ≡ Some u → (update_of vs target ≡ Some u → IsTrue (update_fits sig params u) × (u.target ≡ target))
        → IsTrue (update_fits sig params u) × (u.target ≡ target)
    by true is e rest =
        let same : v ≡ u = cc in
        (subst (λ x. IsTrue (update_fits sig params x)) same (and_left (update_fits sig params v) (list_all (update_fits sig params) vs) h), sym (ap (λ x. x.target) same) ∙ target_is v.target target is)
    by false is e rest = rest e

-- the update of a term fits at the places where it is read
pub term_update : (sig : Signature) (params : List ℕ) (updates : List Update) (t : Term) (u : Update) → IsTrue (list_all (update_fits sig (length params)) updates) → update_of updates (target_of t) ≡ Some u
    → UpdateFits sig (length (reading_places params t)) t u
term_update sig params updates t u h e =
    let found = found_update sig (length params) updates (target_of t) u h e in
    update_parts sig (length (reading_places params t)) t u (target_sort sig u.target) (ap (target_sort sig) found.1 ∙ target_sort_is sig t)
    (subst (λ n. IsTrue (update_fits_sort sig n (target_sort sig u.target) u)) (ap (update_width (length params)) found.1 ∙ sym (length_reading params t)) found.0)

-- ---- its conditions and values
pub conjunction_literals : (sig : Signature) (width : ℕ) (lits : List Lit) → IsTrue (conjunction_fits sig width lits) → IsTrue (list_all (literal_fits sig width) lits)
conjunction_literals sig width lits h =
    and_right (nat_le (length lits) 64) (list_all (literal_fits sig width) lits) (and_left (nat_le (length lits) 64 && list_all (literal_fits sig width) lits) (list_all (is_bounded greatest_bound) lits) h)

pub conditions_from : (p : Protocol) (width : ℕ) (sort : Sort) (branches : List Branch) → IsTrue (list_all (branch_fits (signature_of p) width sort) branches) → IsTrue (conditions_fit p width branches)
conditions_from p width sort [] h = refl
conditions_from p width sort (b ∷ bs) h =
    and_both (list_all (literal_fits (signature_of p) width) b.cond) (conditions_fit p width bs)
    (conjunction_literals (signature_of p) width b.cond (and_left (conjunction_fits (signature_of p) width b.cond) (value_fits (signature_of p) width sort b.value) (and_left (branch_fits (signature_of p) width sort b) (list_all (branch_fits (signature_of p) width sort) bs) h)))
    (conditions_from p width sort bs (and_right (branch_fits (signature_of p) width sort b) (list_all (branch_fits (signature_of p) width sort) bs) h))

branch_value_fits : (sig : Signature) (width : ℕ) (sort : Sort) (branches : List Branch) (last : Value) (n : ℕ) → IsTrue (list_all (branch_fits sig width sort) branches) → IsTrue (value_fits sig width sort last)
    → IsTrue (value_fits sig width sort (option_map_or (λ b. b.value) (slice_get branches n) last))
branch_value_fits sig width sort [] last n h l = l
branch_value_fits sig width sort (b ∷ bs) last zero h l =
    and_right (conjunction_fits sig width b.cond) (value_fits sig width sort b.value) (and_left (branch_fits sig width sort b) (list_all (branch_fits sig width sort) bs) h)
branch_value_fits sig width sort (b ∷ bs) last (suc n) h l = branch_value_fits sig width sort bs last n (and_right (branch_fits sig width sort b) (list_all (branch_fits sig width sort) bs) h) l

pub way_value_fits : (sig : Signature) (width : ℕ) (t : Term) (u : Update) (n : ℕ) (fits : UpdateFits sig width t u) → IsTrue (value_fits sig width fits.sort (way_value u n))
way_value_fits sig width t u n fits = branch_value_fits sig width fits.sort u.branches u.last n fits.branches fits.last

all_append : {A : Type 0} (test : A → Bool) (xs ys : List A) → IsTrue (list_all test xs) → IsTrue (list_all test ys) → IsTrue (list_all test (xs ++ ys))
all_append test [] ys h k = k
all_append test (x ∷ xs) ys h k = and_both (test x) (list_all test (xs ++ ys)) (and_left (test x) (list_all test xs) h) (all_append test xs ys (and_right (test x) (list_all test xs) h) k)

pub condition_fits : (p : Protocol) (width : ℕ) (branches : List Branch) (n : ℕ) → IsTrue (conditions_fit p width branches) → IsTrue (list_all (literal_fits (signature_of p) width) (condition branches n))
condition_fits p width [] n h = refl
condition_fits p width (b ∷ bs) zero h = and_left (list_all (literal_fits (signature_of p) width) b.cond) (conditions_fit p width bs) h
condition_fits p width (b ∷ bs) (suc n) h = condition_fits p width bs n (and_right (list_all (literal_fits (signature_of p) width) b.cond) (conditions_fit p width bs) h)

failing_fits : (p : Protocol) (width : ℕ) (branches : List Branch) (fails : List ℕ) → IsTrue (conditions_fit p width branches) → AllZip Has (map (λ b. numbers b.cond) branches) fails
    → IsTrue (list_all (literal_fits (signature_of p) width) (failing (signature_of p) branches fails))
failing_fits p width [] fails h each = refl
failing_fits p width (b ∷ bs) [] h each = refl
failing_fits p width (b ∷ bs) (f ∷ fs) h each =
    let l : Lit = slice_index_or b.cond f (constant true) in
    and_both (literal_fits (signature_of p) width (negated (signature_of p) l)) (list_all (literal_fits (signature_of p) width) (failing (signature_of p) bs fs))
    (negated_fits (signature_of p) width l (all_at (literal_fits (signature_of p) width) b.cond f (constant true) (and_left (list_all (literal_fits (signature_of p) width) b.cond) (conditions_fit p width bs) h) (number_has b.cond f each.0)))
    (failing_fits p width bs fs (and_right (list_all (literal_fits (signature_of p) width) b.cond) (conditions_fit p width bs) h) each.1)

pub first_fit : (p : Protocol) (width : ℕ) (branches : List Branch) (n : ℕ) → IsTrue (conditions_fit p width branches) → IsTrue (conditions_fit p width (take n branches))
first_fit p width branches zero h = refl
first_fit p width [] (suc n) h = refl
first_fit p width (b ∷ bs) (suc n) h =
    and_both (list_all (literal_fits (signature_of p) width) b.cond) (conditions_fit p width (take n bs)) (and_left (list_all (literal_fits (signature_of p) width) b.cond) (conditions_fit p width bs) h)
    (first_fit p width bs n (and_right (list_all (literal_fits (signature_of p) width) b.cond) (conditions_fit p width bs) h))

pub way_lits_fit : (p : Protocol) (width : ℕ) (branches : List Branch) (n : ℕ) (fails : List ℕ) → IsTrue (conditions_fit p width branches) → IsWay branches n fails
    → IsTrue (list_all (literal_fits (signature_of p) width) (way_lits (signature_of p) branches (way n fails)))
way_lits_fit p width branches n fails h is =
    all_append (literal_fits (signature_of p) width) (condition branches n) (failing (signature_of p) (take n branches) fails) (condition_fits p width branches n h)
    (failing_fits p width (take n branches) fails (first_fit p width branches n h) (product_has (map (λ b. numbers b.cond) (take n branches)) fails is.fail))

-- ---- renamed values
pub fits_value_within : (sig : Signature) (width : ℕ) (sort : Sort) (v : Value) → IsTrue (value_fits sig width sort v) → IsTrue (value_within width v)
fits_value_within sig width sort (Value.Con c) h = refl
fits_value_within sig width (Sort.Fin k) (Value.Read t) h = and_right (is_sort (sort_of sig t) (Sort.Fin k)) (place_fits width t) h
fits_value_within sig width Sort.Proc (Value.Read t) h = cc
fits_value_within sig width Sort.Int (Value.Read t) h = cc
fits_value_within sig width (Sort.Fin k) (Value.Proc side) h = cc
fits_value_within sig width Sort.Proc (Value.Proc (PSide.Global g)) h = refl
fits_value_within sig width Sort.Proc (Value.Proc (PSide.Place q)) h = h
fits_value_within sig width Sort.Int (Value.Proc side) h = cc
fits_value_within sig width (Sort.Fin k) (Value.Sum base add) h = cc
fits_value_within sig width Sort.Proc (Value.Sum base add) h = cc
fits_value_within sig width Sort.Int (Value.Sum Zero add) h = refl
fits_value_within sig width Sort.Int (Value.Sum (At t) add) h =
    and_right (is_sort (sort_of sig t) Sort.Int) (place_fits width t) (and_left (term_fits sig width Sort.Int t) (nat_le (unsigned_abs add) greatest_constant) h)
fits_value_within sig width sort Value.Any h = refl

module _ (sig : Signature) (width : ℕ) (r : List ℕ) (within : All (λ p. p < width) r) where
  renamed_fits_term : (sort : Sort) (t : Term) → IsTrue (term_fits sig (length r) sort t) → IsTrue (term_fits sig width sort (renamed_term r t))
  renamed_fits_term sort (Term.Global g) h = h
  renamed_fits_term sort (Term.Cell a p) h =
      and_both (is_sort (declared_sort sig.arrays a) sort) (nat_lt (slice_index r p) width) (and_left (is_sort (declared_sort sig.arrays a) sort) (nat_lt p (length r)) h)
      (is_less (slice_index r p) width (within p 0 (less_is p (length r) (and_right (is_sort (declared_sort sig.arrays a) sort) (nat_lt p (length r)) h))))

  renamed_fits_side : (side : PSide) → IsTrue (process_side_fits sig (length r) side) → IsTrue (process_side_fits sig width (renamed_process_side r side))
  renamed_fits_side (PSide.Global g) h = h
  renamed_fits_side (PSide.Place p) h = is_less (slice_index r p) width (within p 0 (less_is p (length r) h))

  renamed_fits_base : (base : ISide) → IsTrue (integer_side_fits sig (length r) base) → IsTrue (integer_side_fits sig width (renamed_integer_side r base))
  renamed_fits_base Zero h = refl
  renamed_fits_base (At t) h = renamed_fits_term Sort.Int t h

  -- a renamed value that is not `?` can stand for a term of its sort
  pub renamed_can : (sort : Sort) (v : Value) → IsTrue (value_fits sig (length r) sort v) → is_any v ≡ false → IsTrue (can_replace sig width sort (renamed_value r v))
  renamed_can (Sort.Fin k) (Value.Con c) h e = h
  renamed_can (Sort.Fin k) (Value.Read t) h e = renamed_fits_term (Sort.Fin k) t h
  renamed_can (Sort.Fin k) (Value.Proc side) h e = cc
  renamed_can (Sort.Fin k) (Value.Sum base add) h e = cc
  renamed_can sort Value.Any h e = cc
  renamed_can Sort.Proc (Value.Con c) h e = cc
  renamed_can Sort.Proc (Value.Read t) h e = cc
  renamed_can Sort.Proc (Value.Proc side) h e = renamed_fits_side side h
  renamed_can Sort.Proc (Value.Sum base add) h e = cc
  renamed_can Sort.Int (Value.Con c) h e = cc
  renamed_can Sort.Int (Value.Read t) h e = cc
  renamed_can Sort.Int (Value.Proc side) h e = cc
  renamed_can Sort.Int (Value.Sum base add) h e =
      and_both (integer_side_fits sig width (renamed_integer_side r base)) (nat_le (unsigned_abs add) greatest_constant)
      (renamed_fits_base base (and_left (integer_side_fits sig (length r) base) (nat_le (unsigned_abs add) greatest_constant) h)) (and_right (integer_side_fits sig (length r) base) (nat_le (unsigned_abs add) greatest_constant) h)

pub renamed_any : (r : List ℕ) (v : Value) → is_any (renamed_value r v) ≡ is_any v
renamed_any r (Value.Con c) = refl
renamed_any r (Value.Read t) = refl
renamed_any r (Value.Proc side) = refl
renamed_any r (Value.Sum base add) = refl
renamed_any r Value.Any = refl
