-- Injections of places: identity, composition, inverse; distinct alive processes at composed places.
use Rattle.std.proofs.Common.{◌≡◌, ◌≢◌, ◌⊎◌, ℕ, suc, ◌<◌, ◌≤◌, Bool, true, false, List, [], ◌∷◌, length, get_or, refl, sym, ap, ◌∙◌, subst, arith, eqb, inl, inr}
use Rattle.std.specs.Prelude.{IsTrue, if◌then◌else◌, slice_index, All, AllPairs, map, ◌||◌}
use Rattle.std.specs.List.{list_any, IsDistinct, AllByRecursion, range_with_len}
use Rattle.std.proofs.lemmas.List.{get_or-map, ext_get_or, length-map}
use Rattle.std.proofs.lemmas.List.Elements.{All-map, All-weaker, All-cons, recursion_from_All}
use Rattle.std.proofs.lemmas.List.FromFn.{get_or-range_with_len, length-range_with_len}
use Rattle.std.proofs.lemmas.Bool.{cases_lt}
use Rattle.std.proofs.lemmas.Bool.Decides.{nat_tests}
use Rattle.std.proofs.lemmas.Map.Steps.{length-le_from_distinct_below}
use Rattle.cub_proto.specs.declared.literal.Lit.{Lit}
use Rattle.cub_proto.specs.Configuration.{Configuration, IsAlive}
use Rattle.cub_proto.specs.Truth.{all_true}
use Rattle.cub_proto.specs.Legal.{AreDistinctAlive}
use Rattle.cub_proto.specs.Meets.{Satisfies}
use Rattle.cub_cube.specs.Rename.{along, IsInjection}
use Rattle.cub_base.proofs.Bools.{same_is, or_left, or_right}
use Rattle.cub_cube.proofs.States.{apart}
use Rattle.cub_cube.proofs.Renames.{at_along, length-along, along-along}

-- distinct alive processes stay so at composed places
pub along_processes : (s : Configuration) (places r : List ℕ) (from : ℕ) → IsInjection from (length places) r → AreDistinctAlive s places → AreDistinctAlive s (along r places)
along_processes s places r from injection processes = record {
  alive = All-map (IsAlive s) (λ p. slice_index places p) r
      (All-weaker (λ p. p < length places) (λ p. IsAlive s (slice_index places p)) (λ p below. processes.alive p 0 below) r injection.within);
  distinct = λ i j d order below same.
      let inside : j < length r = subst (λ n. j < n) (length-along r places) below in
      let first : i < length r = omega arith in
      apart s places processes (get_or r i 0) (get_or r j 0) (injection.within i 0 first) (injection.within j 0 inside) (injection.apart i j 0 order inside)
      (sym (get_or-map (λ p. slice_index places p) r i 0 d first) ∙ same ∙ get_or-map (λ p. slice_index places p) r j 0 d inside);
}

-- and satisfy what is true there
pub along_satisfies : (s : Configuration) (places r : List ℕ) (from : ℕ) (lits : List Lit) → IsInjection from (length places) r → AreDistinctAlive s places → IsTrue (all_true s (along r places) lits) → Satisfies s (along r places) from lits
along_satisfies s places r from lits injection processes holds = record {
  one_each = length-along r places ∙ injection.one_each;
  processes = along_processes s places r from injection processes;
  holds = holds;
}

-- each place for itself
abbrev pub identity : ℕ → List ℕ
identity width = range_with_len 0 width

pub identity_at : (width p : ℕ) → p < width → slice_index (identity width) p ≡ p
identity_at width p below = get_or-range_with_len 0 width p 0 below ∙ (omega arith)

pub identity_injection : (width : ℕ) → IsInjection width width (identity width)
identity_injection width = record {
  one_each = length-range_with_len 0 width;
  within = λ k d below.
      let inside : k < width = subst (λ n. k < n) (length-range_with_len 0 width) below in
      let at = get_or-range_with_len 0 width k d inside in omega arith;
  apart = λ i j d order below same.
      let inside : j < width = subst (λ n. j < n) (length-range_with_len 0 width) below in
      let first : i < width = omega arith in
      let at = get_or-range_with_len 0 width i d first in
      let there = get_or-range_with_len 0 width j d inside in omega arith;
}

pub along-identity : (places : List ℕ) → along (identity (length places)) places ≡ places
along-identity places =
    ext_get_or 0 (along (identity (length places)) places) places (length-along (identity (length places)) places ∙ length-range_with_len 0 (length places))
    (λ i below.
    let inside : i < length places = subst (λ n. i < n) (length-along (identity (length places)) places ∙ length-range_with_len 0 (length places)) below in
    at_along (identity (length places)) places i (subst (λ n. i < n) (sym (length-range_with_len 0 (length places))) inside)
    ∙ ap (slice_index places) (identity_at (length places) i inside))

-- one injection after another
pub composed_injection : (from middle to : ℕ) (q r : List ℕ) → IsInjection from middle q → IsInjection middle to r → IsInjection from to (along q r)
composed_injection from middle to q r first second = record {
  one_each = length-along q r ∙ first.one_each;
  within = All-map (λ p. p < to) (λ p. slice_index r p) q
      (All-weaker (λ p. p < middle) (λ p. slice_index r p < to) (λ p below. second.within p 0 (subst (λ n. p < n) (sym second.one_each) below)) q first.within);
  apart = λ i j d order below same.
      let inside : j < length q = subst (λ n. j < n) (length-along q r) below in
      let early : i < length q = omega arith in
      let a = get_or q i 0 in
      let b = get_or q j 0 in
      let a_within : a < length r = subst (λ n. a < n) (sym second.one_each) (first.within i 0 early) in
      let b_within : b < length r = subst (λ n. b < n) (sym second.one_each) (first.within j 0 inside) in
      items_apart to r a b second a_within b_within (first.apart i j 0 order inside)
      (sym (get_or-map (λ p. slice_index r p) q i 0 d early) ∙ same ∙ get_or-map (λ p. slice_index r p) q j 0 d inside);
}
  where
    items_apart : (to : ℕ) (r : List ℕ) (a b : ℕ) → IsInjection middle to r → a < length r → b < length r → a ≢ b → slice_index r a ≡ slice_index r b → ⊥
    items_apart to r a b second h k differ same = by (cases_lt a b)
      where
        by : (a < b) ⊎ (b ≤ a) → ⊥
        by (inl less) = second.apart a b 0 less k same
        by (inr more) = let other : b < a = omega arith in second.apart b a 0 other h (sym same)

-- ---- an injection of a width into itself has an inverse
differ_test : (x y : ℕ) → x ≢ y → eqb x y ≡ false
differ_test x y h = grind (arith, nat_tests)

distinct_from : (xs : List ℕ) → AllPairs (λ p q. p ≢ q) xs → IsDistinct eqb xs
unfolding IsDistinct
distinct_from [] apart = tt
distinct_from (x ∷ xs) apart = (
  recursion_from_All (λ y. eqb x y ≡ false) xs (λ k d below. differ_test x (get_or xs k d) (apart 0 (suc k) d (omega arith) (omega arith))),
  distinct_from xs (λ i j d order below. apart (suc i) (suc j) d (omega arith) (omega arith)),
)

none_test : (q : ℕ) (xs : List ℕ) → list_any (eqb q) xs ≡ false → AllByRecursion (λ y. eqb q y ≡ false) xs
none_test q [] h = tt
none_test q (x ∷ xs) h = (or_left (eqb q x) (list_any (eqb q) xs) h, none_test q xs (or_right (eqb q x) (list_any (eqb q) xs) h))

any_below : (n : ℕ) (xs : List ℕ) → All (λ x. x < n) xs → (q : ℕ) → list_any (eqb q) xs ≡ true → q < n
any_below n [] all q h = cc
any_below n (x ∷ xs) all q h = by (eqb q x) refl (any_below n xs (λ k d below. all (suc k) d (omega arith)) q)
  where
    by : (b : Bool) → eqb q x ≡ b → (list_any (eqb q) xs ≡ true → q < n) → q < n
    by true e rest = subst (λ m. m < n) (sym (same_is q x e)) (all 0 0 (omega arith))
    by false e rest = rest (ap (λ b. b || list_any (eqb q) xs) (sym e) ∙ h)

-- where a number stands in a list
abbrev pub place_of : List ℕ → ℕ → ℕ
place_of [] q = 0
place_of (x ∷ xs) q = if eqb q x then 0 else suc (place_of xs q)

place_found : (xs : List ℕ) (q : ℕ) → list_any (eqb q) xs ≡ true → (place_of xs q < length xs) × (slice_index xs (place_of xs q) ≡ q)
place_found [] q h = cc
place_found (x ∷ xs) q h = by (eqb q x) refl (λ rest. place_found xs q rest)
  where
    by : (b : Bool) → eqb q x ≡ b → (list_any (eqb q) xs ≡ true → (place_of xs q < length xs) × (slice_index xs (place_of xs q) ≡ q))
        → ((if b then 0 else suc (place_of xs q)) < length (x ∷ xs)) × (slice_index (x ∷ xs) (if b then 0 else suc (place_of xs q)) ≡ q)
    by true e rest = (omega arith, sym (same_is q x e))
    by false e rest =
        let found = rest (ap (λ b. b || list_any (eqb q) xs) (sym e) ∙ h) in (omega (arith, found.0), found.1)

module _ (n : ℕ) (r : List ℕ) (onto : IsInjection n n r) where
  -- each place is an item
  pub each_is_item : (p : ℕ) → p < n → (place_of r p < length r) × (slice_index r (place_of r p) ≡ p)
  unfolding IsDistinct
  each_is_item p below = by (list_any (eqb p) r) refl
    where
      by : (b : Bool) → list_any (eqb p) r ≡ b → (place_of r p < length r) × (slice_index r (place_of r p) ≡ p)
      by true e = place_found r p e
      by false e =
          let few : length (p ∷ r) ≤ n = length-le_from_distinct_below (p ∷ r) n (none_test p r e, distinct_from r onto.apart)
          (any_below n (p ∷ r) (All-cons (λ x. x < n) p r below onto.within)) in
          let count = onto.one_each in
          absurd (omega arith)

  pub inverse : List ℕ
  inverse = map (place_of r) (identity n)

  pub length-inverse : length inverse ≡ n
  unfolding inverse
  length-inverse = length-map (identity n) (place_of r) ∙ length-range_with_len 0 n

  inverse_at : (p d : ℕ) → p < n → get_or inverse p d ≡ place_of r p
  unfolding inverse
  inverse_at p d below =
      get_or-map (place_of r) (identity n) p 0 d (subst (λ m. p < m) (sym (length-range_with_len 0 n)) below) ∙ ap (place_of r) (identity_at n p below)

  pub inverse_injection : IsInjection n n inverse
  inverse_injection = record {
    one_each = length-inverse;
    within = λ k d below.
        let inside : k < n = subst (λ m. k < m) length-inverse below in
        subst (λ m. m < n) (sym (inverse_at k d inside)) (subst (λ m. place_of r k < m) onto.one_each (each_is_item k inside).0);
    apart = λ i j d order below same.
        let inside : j < n = subst (λ m. j < m) length-inverse below in
        let first : i < n = omega arith in
        let there : place_of r i ≡ place_of r j = sym (inverse_at i d first) ∙ same ∙ inverse_at j d inside in
        let equal : i ≡ j = sym (each_is_item i first).1 ∙ ap (slice_index r) there ∙ (each_is_item j inside).1 in
        omega arith;
  }

  -- the inverse at an item is the item's place
  inverse_back : (i : ℕ) → i < n → slice_index inverse (slice_index r i) ≡ i
  inverse_back i below =
      let inside : i < length r = subst (λ m. i < m) (sym onto.one_each) below in
      let item : slice_index r i < n = onto.within i 0 inside in
      let found = each_is_item (slice_index r i) item in
      inverse_at (slice_index r i) 0 item ∙ same_place i (place_of r (slice_index r i)) inside found.0 (sym found.1)
    where
      same_place : (i j : ℕ) → i < length r → j < length r → slice_index r i ≡ slice_index r j → j ≡ i
      same_place i j h k same = by (cases_lt i j)
        where
          by : (i < j) ⊎ (j ≤ i) → j ≡ i
          by (inl less) = absurd (onto.apart i j 0 less k same)
          by (inr more) = by_more (cases_lt j i)
            where
              by_more : (j < i) ⊎ (i ≤ j) → j ≡ i
              by_more (inl less) = absurd (onto.apart j i 0 less h (sym same))
              by_more (inr le) = omega arith

  pub along-inverse : along r inverse ≡ identity n
  along-inverse =
      ext_get_or 0 (along r inverse) (identity n) (length-along r inverse ∙ onto.one_each ∙ sym (length-range_with_len 0 n))
      (λ i below.
      let inside : i < n = subst (λ m. i < m) (length-along r inverse ∙ onto.one_each) below in
      at_along r inverse i (subst (λ m. i < m) (sym onto.one_each) inside) ∙ inverse_back i inside ∙ sym (identity_at n i inside))

  -- going there and back
  pub along-along-inverse : (places : List ℕ) → length places ≡ n → along r (along inverse places) ≡ places
  along-along-inverse places size =
      sym (along-along r inverse places (All-weaker (λ p. p < n) (λ p. p < length inverse) (λ p h. subst (λ m. p < m) (sym length-inverse) h) r onto.within))
      ∙ ap (λ q. along q places) (along-inverse ∙ ap identity (sym size))
      ∙ along-identity places
