-- Renamings turned round, and renamings one after another.
use Rattle.std.proofs.Common.{◌≡◌, ℕ, zero, suc, ◌+◌, ◌<◌, Bool, true, false, List, [], ◌∷◌, ◌++◌, length, refl, sym, ap, ◌∙◌, subst, arith, eqb}
use Rattle.std.specs.Prelude.{◌==◌, IsTrue, slice_index, not, if◌then◌else◌, cond}
use Rattle.std.specs.List.{list_all, range_with_len}
use Rattle.std.proofs.lemmas.List.{ext_get_or}
use Rattle.std.proofs.lemmas.List.FromFn.{length-range_with_len, get_or-map-range_with_len, length-map-range_with_len}
use Rattle.cub_base.proofs.Bools.{and_left, and_right, less_is, same_comm}
use Rattle.cub_proto.specs.declared.literal.Term.{Term}
use Rattle.cub_proto.specs.declared.literal.PSide.{PSide}
use Rattle.cub_proto.specs.declared.literal.ISide.{ISide}
use Rattle.cub_proto.specs.declared.literal.ISide.TheVariants.{Zero, At}
use Rattle.cub_proto.specs.declared.literal.Lit.{Lit}
use Rattle.cub_proto.specs.declared.literal.Lit.TheVariants.{FinIn, FinEq, FinNe, ProcEq, ProcNe, Diff}
use Rattle.cub_proto.specs.Fits.{place_fits}
use Rattle.cub_cube.specs.Rename.{along, renamed, renamed_all, renamed_term, renamed_process_side, renamed_integer_side, is_within, process_side_within, integer_side_within, IsInjection}
use Rattle.cub_cube.proofs.Renames.{at_along, length-along}
use Rattle.cub_cube.proofs.Placing.{identity, identity_at, identity_injection, along-identity, place_of, each_is_item, inverse, length-inverse, inverse_injection, along-inverse, along-along-inverse}
use Rattle.cube_form.specs.Name.{number_in, turned}

-- one number more from the end
pub range_more : (a n : ℕ) → range_with_len a (suc n) ≡ range_with_len a n ++ (a + n) ∷ []
range_more a zero = let same : a ≡ a + zero = omega arith in ap (λ m. m ∷ []) same
range_more a (suc n) =
    let same : a + 1 + n ≡ a + suc n = omega arith in
    ap (λ xs. a ∷ xs) (range_more (a + 1) n ∙ ap (λ m. range_with_len (a + 1) n ++ m ∷ []) same)

number_is : (xs : List ℕ) (q : ℕ) → number_in xs q ≡ place_of xs q
number_is [] q = refl
number_is (x ∷ xs) q = by (eqb q x) (same_comm x q) (number_is xs q)
  where
    by : (b : Bool) → (x == q) ≡ b → number_in xs q ≡ place_of xs q → cond (not (x == q)) (1 + number_in xs q) 0 ≡ (if b then 0 else suc (place_of xs q))
    by true e rest = ap (λ t. cond (not t) (1 + number_in xs q) 0) e
    by false e rest = let one : 1 + number_in xs q ≡ suc (number_in xs q) = omega arith in ap (λ t. cond (not t) (1 + number_in xs q) 0) e ∙ one ∙ ap suc rest

pub length-turned : (r : List ℕ) → length (turned r) ≡ length r
length-turned r = length-map-range_with_len (number_in r) 0 (length r)

module _ (n : ℕ) (r : List ℕ) (onto : IsInjection n n r) where
  inverse_is : (q : ℕ) → q < n → slice_index (inverse n r onto) q ≡ place_of r q
  inverse_is q below =
      let item = each_is_item n r onto q below in
      let number : place_of r q < n = subst (λ m. place_of r q < m) onto.one_each item.0 in
      ap (slice_index (inverse n r onto)) (sym item.1) ∙ sym (at_along r (inverse n r onto) (place_of r q) item.0)
      ∙ ap (λ xs. slice_index xs (place_of r q)) (along-inverse n r onto) ∙ identity_at n (place_of r q) number

  pub turned_is : turned r ≡ inverse n r onto
  turned_is =
      ext_get_or 0 (turned r) (inverse n r onto) (length-turned r ∙ onto.one_each ∙ sym (length-inverse n r onto))
      (λ q below.
      let inside : q < length r = subst (λ m. q < m) (length-turned r) below in
      get_or-map-range_with_len (number_in r) 0 (length r) q q 0 inside (omega arith) ∙ number_is r q ∙ sym (inverse_is q (subst (λ m. q < m) onto.one_each inside)))

  -- the places at which the places of the big thing stand
  pub turned_injection : IsInjection n n (turned r)
  turned_injection = subst (λ (xs : List ℕ). IsInjection n n xs) (sym turned_is) (inverse_injection n r onto)

  pub turned_at : (q : ℕ) → q < n → (slice_index (turned r) q < length r) × (slice_index r (slice_index (turned r) q) ≡ q)
  turned_at q below =
      let item = each_is_item n r onto q below in
      let is : slice_index (turned r) q ≡ place_of r q = ap (λ xs. slice_index xs q) turned_is ∙ inverse_is q below in
      (subst (λ m. m < length r) (sym is) item.0, ap (slice_index r) is ∙ item.1)

  pub turned_along : along (turned r) r ≡ identity n
  turned_along =
      ext_get_or 0 (along (turned r) r) (identity n) (length-along (turned r) r ∙ length-turned r ∙ onto.one_each ∙ sym (length-range_with_len 0 n))
      (λ q below.
      let inside : q < length (turned r) = subst (λ m. q < m) (length-along (turned r) r) below in
      let narrow : q < n = subst (λ m. q < m) (length-turned r ∙ onto.one_each) inside in
      at_along (turned r) r q inside ∙ (turned_at q narrow).1 ∙ sym (identity_at n q narrow))

  -- going there and back, both ways
  pub there_and_back : (places : List ℕ) → length places ≡ n → along r (along (turned r) places) ≡ places
  there_and_back places size = ap (λ s. along r (along s places)) turned_is ∙ along-along-inverse n r onto places size

  pub back_and_there : (places : List ℕ) → length places ≡ n → along (turned r) (along r places) ≡ places
  back_and_there places size =
      ext_get_or 0 (along (turned r) (along r places)) places (length-along (turned r) (along r places) ∙ length-turned r ∙ onto.one_each ∙ sym size)
      (λ q below.
      let inside : q < length (turned r) = subst (λ m. q < m) (length-along (turned r) (along r places)) below in
      let narrow : q < n = subst (λ m. q < m) (length-turned r ∙ onto.one_each) inside in
      let item = turned_at q narrow in
      at_along (turned r) (along r places) q inside ∙ at_along r places (slice_index (turned r) q) item.0 ∙ ap (slice_index places) item.1)

-- places that stay
pub turned_identity : (n : ℕ) → turned (identity n) ≡ identity n
turned_identity n =
    turned_is n (identity n) (identity_injection n)
    ∙ sym (along-identity (inverse n (identity n) (identity_injection n)))
    ∙ ap (λ m. along (identity m) (inverse n (identity n) (identity_injection n))) (length-inverse n (identity n) (identity_injection n))
    ∙ along-inverse n (identity n) (identity_injection n)

module _ (n : ℕ) where
  same_term : (t : Term) → IsTrue (place_fits n t) → renamed_term (identity n) t ≡ t
  same_term (Term.Global g) h = refl
  same_term (Term.Cell a p) h = ap (Term.Cell a) (identity_at n p (less_is p n h))

  same_process_side : (a : PSide) → IsTrue (process_side_within n a) → renamed_process_side (identity n) a ≡ a
  same_process_side (PSide.Global g) h = refl
  same_process_side (PSide.Place p) h = ap (λ q. PSide.Place q) (identity_at n p (less_is p n h))

  same_integer_side : (a : ISide) → IsTrue (integer_side_within n a) → renamed_integer_side (identity n) a ≡ a
  same_integer_side Zero h = refl
  same_integer_side (At t) h = ap (λ u. At u) (same_term t h)

  pub same_literal : (l : Lit) → IsTrue (is_within n l) → renamed (identity n) l ≡ l
  same_literal (FinIn t mask) h = ap (λ u. FinIn u mask) (same_term t h)
  same_literal (FinEq a b) h =
      ap (λ u. FinEq u (renamed_term (identity n) b)) (same_term a (and_left (place_fits n a) (place_fits n b) h))
      ∙ ap (FinEq a) (same_term b (and_right (place_fits n a) (place_fits n b) h))
  same_literal (FinNe a b) h =
      ap (λ u. FinNe u (renamed_term (identity n) b)) (same_term a (and_left (place_fits n a) (place_fits n b) h))
      ∙ ap (FinNe a) (same_term b (and_right (place_fits n a) (place_fits n b) h))
  same_literal (ProcEq a b) h =
      ap (λ u. ProcEq u (renamed_process_side (identity n) b)) (same_process_side a (and_left (process_side_within n a) (process_side_within n b) h))
      ∙ ap (ProcEq a) (same_process_side b (and_right (process_side_within n a) (process_side_within n b) h))
  same_literal (ProcNe a b) h =
      ap (λ u. ProcNe u (renamed_process_side (identity n) b)) (same_process_side a (and_left (process_side_within n a) (process_side_within n b) h))
      ∙ ap (ProcNe a) (same_process_side b (and_right (process_side_within n a) (process_side_within n b) h))
  same_literal (Diff a b bound) h =
      ap (λ u. Diff u (renamed_integer_side (identity n) b) bound) (same_integer_side a (and_left (integer_side_within n a) (integer_side_within n b) h))
      ∙ ap (λ u. Diff a u bound) (same_integer_side b (and_right (integer_side_within n a) (integer_side_within n b) h))

  pub same_literals : (lits : List Lit) → IsTrue (list_all (is_within n) lits) → renamed_all (identity n) lits ≡ lits
  same_literals [] h = refl
  same_literals (l ∷ ls) h =
      ap (λ m. m ∷ renamed_all (identity n) ls) (same_literal l (and_left (is_within n l) (list_all (is_within n) ls) h))
      ∙ ap (λ ms. l ∷ ms) (same_literals ls (and_right (is_within n l) (list_all (is_within n) ls) h))

-- ---- one renaming after another
module _ (r s : List ℕ) where
  twice_term : (t : Term) → IsTrue (place_fits (length r) t) → renamed_term s (renamed_term r t) ≡ renamed_term (along r s) t
  twice_term (Term.Global g) h = refl
  twice_term (Term.Cell a p) h = ap (Term.Cell a) (sym (at_along r s p (less_is p (length r) h)))

  twice_process_side : (a : PSide) → IsTrue (process_side_within (length r) a) → renamed_process_side s (renamed_process_side r a) ≡ renamed_process_side (along r s) a
  twice_process_side (PSide.Global g) h = refl
  twice_process_side (PSide.Place p) h = ap (λ q. PSide.Place q) (sym (at_along r s p (less_is p (length r) h)))

  twice_integer_side : (a : ISide) → IsTrue (integer_side_within (length r) a) → renamed_integer_side s (renamed_integer_side r a) ≡ renamed_integer_side (along r s) a
  twice_integer_side Zero h = refl
  twice_integer_side (At t) h = ap (λ u. At u) (twice_term t h)

  pub twice : (l : Lit) → IsTrue (is_within (length r) l) → renamed s (renamed r l) ≡ renamed (along r s) l
  twice (FinIn t mask) h = ap (λ u. FinIn u mask) (twice_term t h)
  twice (FinEq a b) h =
      ap (λ u. FinEq u (renamed_term s (renamed_term r b))) (twice_term a (and_left (place_fits (length r) a) (place_fits (length r) b) h))
      ∙ ap (FinEq (renamed_term (along r s) a)) (twice_term b (and_right (place_fits (length r) a) (place_fits (length r) b) h))
  twice (FinNe a b) h =
      ap (λ u. FinNe u (renamed_term s (renamed_term r b))) (twice_term a (and_left (place_fits (length r) a) (place_fits (length r) b) h))
      ∙ ap (FinNe (renamed_term (along r s) a)) (twice_term b (and_right (place_fits (length r) a) (place_fits (length r) b) h))
  twice (ProcEq a b) h =
      ap (λ u. ProcEq u (renamed_process_side s (renamed_process_side r b))) (twice_process_side a (and_left (process_side_within (length r) a) (process_side_within (length r) b) h))
      ∙ ap (ProcEq (renamed_process_side (along r s) a)) (twice_process_side b (and_right (process_side_within (length r) a) (process_side_within (length r) b) h))
  twice (ProcNe a b) h =
      ap (λ u. ProcNe u (renamed_process_side s (renamed_process_side r b))) (twice_process_side a (and_left (process_side_within (length r) a) (process_side_within (length r) b) h))
      ∙ ap (ProcNe (renamed_process_side (along r s) a)) (twice_process_side b (and_right (process_side_within (length r) a) (process_side_within (length r) b) h))
  twice (Diff a b bound) h =
      ap (λ u. Diff u (renamed_integer_side s (renamed_integer_side r b)) bound) (twice_integer_side a (and_left (integer_side_within (length r) a) (integer_side_within (length r) b) h))
      ∙ ap (λ u. Diff (renamed_integer_side (along r s) a) u bound) (twice_integer_side b (and_right (integer_side_within (length r) a) (integer_side_within (length r) b) h))
