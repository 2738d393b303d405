-- The placings of parameters are exactly the ways in which distinct processes lie in a cube's places and behind them.
use Rattle.std.proofs.Common.{◌≡◌, ◌⊎◌, ℕ, suc, zero, ◌+◌, ◌<◌, ◌≤◌, Bool, true, false, List, [], ◌∷◌, ◌++◌, length, refl, sym, ap, ◌∙◌, subst, arith, inl, inr}
use Rattle.std.specs.Prelude.{if◌then◌else◌, slice_index}
use Rattle.std.specs.List.{flat_map, range_with_len}
use Rattle.std.proofs.lemmas.List.{length_push, append_assoc, append-nil}
use Rattle.std.proofs.lemmas.Bool.{cases_lt}
use Rattle.cub_cube.specs.Rename.{along}
use Rattle.cub_base.proofs.Members.{Has, has_left, has_right, has_cases, has_flat_map, flat_map_has, Distinct}
use Rattle.updates.proofs.Products.{has_below, below_has}
use Rattle.piece_choices.specs.Placings.{Placing, placing, is_among, placings_from, placings}
use Rattle.piece_choices.proofs.ListLemmas.{not_among, among_not, among_or_not, has_place, place_has, at_end, along_front}

-- ---- one more item
pub distinct_push : (xs : List ℕ) (x : ℕ) → Distinct xs → (Has xs x → ⊥) → Distinct (xs ++ x ∷ [])
distinct_push [] x h new = (λ none. none, tt)
distinct_push (y ∷ ys) x h new =
    (λ at. by (has_cases ys (x ∷ []) y at), distinct_push ys x h.1 (λ at. new (inr at)))
  where
    by : Has ys y ⊎ Has (x ∷ []) y → ⊥
    by (inl early) = h.0 early
    by (inr (inl same)) = new (inl (sym same))
    by (inr (inr none)) = none

pub has_push : (xs : List ℕ) (x i : ℕ) → Has (xs ++ x ∷ []) i → Has xs i ⊎ (x ≡ i)
has_push xs x i h = by (has_cases xs (x ∷ []) i h)
  where
    by : Has xs i ⊎ Has (x ∷ []) i → Has xs i ⊎ (x ≡ i)
    by (inl early) = inl early
    by (inr (inl same)) = inr same
    by (inr (inr none)) = absurd none

-- ---- what a placing is
pub record IsPlacing (width count : ℕ) (x : Placing) : Type 0 where
  pub one_each : length x.params ≡ count
  pub below : (q : ℕ) → Has x.params q → q < x.width
  pub distinct : Distinct x.params
  pub wide : width ≤ x.width
  pub few : x.width ≤ width + count

pub placing_is : (width : ℕ) (params : List ℕ) (next more count : ℕ) (x : Placing) → length params + more ≡ count → ((q : ℕ) → Has params q → q < next) → Distinct params → width ≤ next → next + more ≤ width + count
    → Has (placings_from width params next more) x → IsPlacing width count x
placing_is width params next zero count x size below distinct wide few (inl same) =
    subst (IsPlacing width count) same (record { one_each = omega arith; below = below; distinct = distinct; wide = wide; few = omega arith })
placing_is width params next zero count x size below distinct wide few (inr none) = absurd none
placing_is width params next (suc more) count x size below distinct wide few h =
    by (has_cases (flat_map choice_at (range_with_len 0 width)) (placings_from width (params ++ next ∷ []) (next + 1) more) x h)
    (λ q. placing_is width (params ++ q ∷ []) next more count x) (placing_is width (params ++ next ∷ []) (next + 1) more count x)
  where
    choice_at : ℕ → List Placing
    choice_at q = if is_among params q then [] else placings_from width (params ++ q ∷ []) next more

    still : (q to : ℕ) → next ≤ to → q < to → (i : ℕ) → Has (params ++ q ∷ []) i → i < to
    still q to le lt i at = split (has_push params q i at)
      where
        split : Has params i ⊎ (q ≡ i) → i < to
        split (inl early) = omega (arith, below i early)
        split (inr same) = omega arith

    by : Has (flat_map choice_at (range_with_len 0 width)) x ⊎ Has (placings_from width (params ++ next ∷ []) (next + 1) more) x
        → ((q : ℕ) → length (params ++ q ∷ []) + more ≡ count → ((i : ℕ) → Has (params ++ q ∷ []) i → i < next) → Distinct (params ++ q ∷ []) → width ≤ next → next + more ≤ width + count → Has (placings_from width (params ++ q ∷ []) next more) x → IsPlacing width count x)
        → (length (params ++ next ∷ []) + more ≡ count → ((i : ℕ) → Has (params ++ next ∷ []) i → i < next + 1) → Distinct (params ++ next ∷ []) → width ≤ next + 1 → next + 1 + more ≤ width + count → Has (placings_from width (params ++ next ∷ []) (next + 1) more) x → IsPlacing width count x)
        → IsPlacing width count x
    by (inl old) at_old at_new =
        let found = flat_map_has choice_at (range_with_len 0 width) x old in
        let q = found.0 in
        let inside : q < width = below_has width q found.1 in
        split q (is_among params q) refl inside found.2
      where
        split : (q : ℕ) (b : Bool) → is_among params q ≡ b → q < width → Has (if b then [] else placings_from width (params ++ q ∷ []) next more) x → IsPlacing width count x
        split q true e inside none = absurd none
        split q false e inside at =
            at_old q (let l = length_push params q in omega arith) (still q next (omega arith) (omega arith)) (distinct_push params q distinct (among_not params q e)) wide (omega arith) at
    by (inr new) at_old at_new =
        at_new (let l = length_push params next in omega arith) (still next (next + 1) (omega arith) (omega arith)) (distinct_push params next distinct (λ at. let l = below next at in omega arith)) (omega arith) (omega arith) new

pub is_placing : (width count : ℕ) (x : Placing) → Has (placings width count) x → IsPlacing width count x
is_placing width count x h = placing_is width [] width count count x (omega arith) (λ q none. absurd none) tt (omega arith) (omega arith) h

-- ---- every list of distinct processes has a placing
pub record Placed (width : ℕ) (params : List ℕ) (next : ℕ) (places target : List ℕ) (more : ℕ) : Type 0 where
  pub its : Placing
  pub inside : Has (placings_from width params next more) its
  pub new : List ℕ
  pub size : length (places ++ new) ≡ its.width
  pub distinct : Distinct (places ++ new)
  pub from : (i : ℕ) → Has new i → Has target i
  pub at : along its.params (places ++ new) ≡ target

along_push : (r : List ℕ) (q : ℕ) (places : List ℕ) → along (r ++ q ∷ []) places ≡ along r places ++ slice_index places q ∷ []
along_push [] q places = refl
along_push (p ∷ r) q places = ap (λ xs. slice_index places p ∷ xs) (along_push r q places)

has_along : (r places : List ℕ) (q : ℕ) → Has r q → Has (along r places) (slice_index places q)
has_along [] places q h = absurd h
has_along (p ∷ r) places q (inl same) = inl (ap (slice_index places) same)
has_along (p ∷ r) places q (inr later) = inr (has_along r places q later)

apart_distinct : (xs : List ℕ) → Distinct xs → (i j : ℕ) → i < length xs → j < length xs → slice_index xs i ≡ slice_index xs j → i ≡ j
apart_distinct [] h i j a b e = absurd (omega arith)
apart_distinct (x ∷ xs) h zero zero a b e = refl
apart_distinct (x ∷ xs) h zero (suc j) a b e = absurd (h.0 (subst (Has xs) (sym e) (place_has xs j (omega arith))))
apart_distinct (x ∷ xs) h (suc i) zero a b e = absurd (h.0 (subst (Has xs) e (place_has xs i (omega arith))))
apart_distinct (x ∷ xs) h (suc i) (suc j) a b e = ap suc (apart_distinct xs h.1 i j (omega arith) (omega arith) e)

pub places_apart : (xs : List ℕ) → Distinct xs → (i j : ℕ) → i < length xs → j < length xs → slice_index xs i ≡ slice_index xs j → i ≡ j
places_apart xs h i j a b e = apart_distinct xs h i j a b e

distinct_right : (xs ys : List ℕ) (x : ℕ) → Distinct (xs ++ x ∷ ys) → Has xs x → ⊥
distinct_right [] ys x h at = at
distinct_right (z ∷ zs) ys x h (inl same) = h.0 (has_right zs (x ∷ ys) z (inl (sym same)))
distinct_right (z ∷ zs) ys x h (inr later) = distinct_right zs ys x h.1 later

pub place_all : (width : ℕ) (params : List ℕ) (places done rest : List ℕ) → width ≤ length places → Distinct places → ((q : ℕ) → Has params q → q < length places) → ((q : ℕ) → width ≤ q → q < length places → Has params q)
    → along params places ≡ done → Distinct (done ++ rest) → Placed width params (length places) places (done ++ rest) (length rest)
place_all width params places done [] wide distinct below news at apart = record {
  its = placing params (length places);
  inside = inl refl;
  new = [];
  size = ap length (append-nil places);
  distinct = subst Distinct (sym (append-nil places)) distinct;
  from = λ i none. absurd none;
  at = ap (along params) (append-nil places) ∙ at ∙ sym (append-nil done);
}
place_all width params places done (x ∷ rest) wide distinct below news at apart =
    by (among_or_not places x) (λ q. place_all width (params ++ q ∷ []) places (done ++ x ∷ []) rest) (place_all width (params ++ length places ∷ []) (places ++ x ∷ []) (done ++ x ∷ []) rest)
  where
    regroup : (done ++ x ∷ []) ++ rest ≡ done ++ x ∷ rest
    regroup = append_assoc done (x ∷ []) rest

    choice_at : ℕ → List Placing
    choice_at q = if is_among params q then [] else placings_from width (params ++ q ∷ []) (length places) (length rest)

    Rest : List ℕ → List ℕ → ℕ → Type 0
    Rest ps qs next = width ≤ length qs → Distinct qs → ((q : ℕ) → Has ps q → q < length qs) → ((q : ℕ) → width ≤ q → q < length qs → Has ps q)
        → along ps qs ≡ done ++ x ∷ [] → Distinct ((done ++ x ∷ []) ++ rest) → Placed width ps (length qs) qs ((done ++ x ∷ []) ++ rest) (length rest)

    by : Has places x ⊎ (Has places x → ⊥) → ((q : ℕ) → Rest (params ++ q ∷ []) places 0) → Rest (params ++ length places ∷ []) (places ++ x ∷ []) 0 → Placed width params (length places) places (done ++ x ∷ rest) (length (x ∷ rest))
    by (inl old) at_old at_new =
        let found = has_place places x old in
        let q = found.0 in
        let fresh : Has params q → ⊥ = λ h. distinct_right done rest x apart (subst (λ xs. Has xs x) at (subst (Has (along params places)) found.2 (has_along params places q h))) in
        let inside : q < width = small q found.1 fresh in
        let rest_of = at_old q wide distinct (λ i h. split q found.1 i (has_push params q i h)) (λ i le lt. has_left params (q ∷ []) i (news i le lt))
        (along_push params q places ∙ ap (λ xs. xs ++ slice_index places q ∷ []) at ∙ ap (λ i. done ++ i ∷ []) found.2) (subst Distinct (sym regroup) apart) in
        record {
          its = rest_of.its;
          inside = has_left (flat_map choice_at (range_with_len 0 width)) (placings_from width (params ++ length places ∷ []) (length places + 1) (length rest)) rest_of.its
              (has_flat_map choice_at (range_with_len 0 width) q rest_of.its (has_below width q inside)
              (subst (λ b. Has (if b then [] else placings_from width (params ++ q ∷ []) (length places) (length rest)) rest_of.its) (sym (not_among params q fresh)) rest_of.inside));
          new = rest_of.new;
          size = rest_of.size;
          distinct = rest_of.distinct;
          from = λ i h. subst (λ xs. Has xs i) regroup (rest_of.from i h);
          at = rest_of.at ∙ regroup;
        }
      where
        small : (q : ℕ) → q < length places → (Has params q → ⊥) → q < width
        small q lt fresh = pick_side (cases_lt q width)
          where
            pick_side : (q < width) ⊎ (width ≤ q) → q < width
            pick_side (inl h) = h
            pick_side (inr h) = absurd (fresh (news q h lt))

        split : (q : ℕ) → q < length places → (i : ℕ) → Has params i ⊎ (q ≡ i) → i < length places
        split q lt i (inl early) = below i early
        split q lt i (inr same) = omega arith
    by (inr new) at_old at_new =
        let longer = length_push places x in
        let next : length (places ++ x ∷ []) ≡ length places + 1 = longer in
        let rest_of = at_new (omega arith) (distinct_push places x distinct new) (λ i h. split i (has_push params (length places) i h)) (λ i le lt. late i le lt)
        (along_push params (length places) (places ++ x ∷ []) ∙ ap (λ xs. xs ++ slice_index (places ++ x ∷ []) (length places) ∷ []) (along_front params places (x ∷ []) below ∙ at) ∙ ap (λ i. done ++ i ∷ []) (at_end places x))
        (subst Distinct (sym regroup) apart) in
        record {
          its = rest_of.its;
          inside = has_right (flat_map choice_at (range_with_len 0 width)) (placings_from width (params ++ length places ∷ []) (length places + 1) (length rest)) rest_of.its
              (subst (λ n. Has (placings_from width (params ++ length places ∷ []) n (length rest)) rest_of.its) next rest_of.inside);
          new = x ∷ rest_of.new;
          size = ap length (sym (append_assoc places (x ∷ []) rest_of.new)) ∙ rest_of.size;
          distinct = subst Distinct (append_assoc places (x ∷ []) rest_of.new) rest_of.distinct;
          from = λ i h. come rest_of.new i h rest_of.from;
          at = ap (along rest_of.its.params) (sym (append_assoc places (x ∷ []) rest_of.new)) ∙ rest_of.at ∙ regroup;
        }
      where
        split : (i : ℕ) → Has params i ⊎ (length places ≡ i) → i < length (places ++ x ∷ [])
        split i (inl early) = omega (arith, below i early, length_push places x)
        split i (inr same) = omega (arith, length_push places x)

        late : (i : ℕ) → width ≤ i → i < length (places ++ x ∷ []) → Has (params ++ length places ∷ []) i
        late i le lt = side (cases_lt i (length places))
          where
            side : (i < length places) ⊎ (length places ≤ i) → Has (params ++ length places ∷ []) i
            side (inl early) = has_left params (length places ∷ []) i (news i le early)
            side (inr end) = has_right params (length places ∷ []) i (inl (omega (arith, length_push places x)))

        come : (places_new : List ℕ) (i : ℕ) → Has (x ∷ places_new) i → ((j : ℕ) → Has places_new j → Has ((done ++ x ∷ []) ++ rest) j) → Has (done ++ x ∷ rest) i
        come places_new i (inl same) from = has_right done (x ∷ rest) i (inl same)
        come places_new i (inr later) from = subst (λ xs. Has xs i) regroup (from i later)
