-- Where the literals of a way are true its value counts, and some way's literals are true.
use Rattle.std.proofs.Common.{◌≡◌, ℕ, suc, zero, ◌+◌, ◌<◌, ◌≤◌, Bool, true, false, List, [], ◌∷◌, ◌++◌, length, get_or, take, refl, sym, ap, ◌∙◌, subst, arith, inl}
use Rattle.std.specs.Prelude.{map, All, IsTrue, not, ◌&&◌, if◌then◌else◌, slice_get, slice_index_or}
use Rattle.std.specs.List.{list_all, range_with_len}
use Rattle.std.specs.Option.{option_map_or}
use Rattle.cub_proto.specs.declared.literal.Lit.{Lit}
use Rattle.cub_proto.specs.declared.literal.Value.{Value}
use Rattle.cub_proto.specs.declared.transition.Branch.{Branch}
use Rattle.cub_proto.specs.declared.protocol.Protocol.{Protocol}
use Rattle.cub_proto.specs.Configuration.{Configuration, process_count}
use Rattle.cub_proto.specs.StateOf.{IsStateOf, signature_of}
use Rattle.cub_proto.specs.Fits.{literal_fits}
use Rattle.cub_proto.specs.Truth.{is_true, all_true}
use Rattle.cub_proto.specs.Effect.{chosen}
use Rattle.cub_proto.specs.Negation.{negated}
use Rattle.cub_proto.proofs.Opposite.{negated_is}
use Rattle.cub_cube.specs.Replace.{constant}
use Rattle.cub_base.proofs.Bools.{and_left, and_right, and_both}
use Rattle.cub_base.proofs.Members.{Has, has_map, has_flat_map, map_has, flat_map_has}
use Rattle.updates.specs.Ways.{numbers, Way, way, failures, ways, failing, condition}
use Rattle.updates.proofs.Products.{has_number, number_has, product_has, has_product, has_below, below_has}

-- ---- conjunctions
pub true_append : (s : Configuration) (places : List ℕ) (xs ys : List Lit) → all_true s places (xs ++ ys) ≡ (all_true s places xs && all_true s places ys)
true_append s places [] ys = refl
true_append s places (x ∷ xs) ys = ap (λ b. is_true s places x && b) (true_append s places xs ys) ∙ by (is_true s places x) (all_true s places xs) (all_true s places ys)
  where
    by : (a b c : Bool) → (a && (b && c)) ≡ ((a && b) && c)
    by true b c = refl
    by false b c = refl

pub true_left : (s : Configuration) (places : List ℕ) (xs ys : List Lit) → IsTrue (all_true s places (xs ++ ys)) → IsTrue (all_true s places xs)
true_left s places xs ys h = and_left (all_true s places xs) (all_true s places ys) (sym (true_append s places xs ys) ∙ h)

pub true_right : (s : Configuration) (places : List ℕ) (xs ys : List Lit) → IsTrue (all_true s places (xs ++ ys)) → IsTrue (all_true s places ys)
true_right s places xs ys h = and_right (all_true s places xs) (all_true s places ys) (sym (true_append s places xs ys) ∙ h)

pub true_both : (s : Configuration) (places : List ℕ) (xs ys : List Lit) → IsTrue (all_true s places xs) → IsTrue (all_true s places ys) → IsTrue (all_true s places (xs ++ ys))
true_both s places xs ys h k = true_append s places xs ys ∙ and_both (all_true s places xs) (all_true s places ys) h k

-- what a test of all says of one item
pub all_at : {A : Type 0} (test : A → Bool) (xs : List A) (i : ℕ) (d : A) → IsTrue (list_all test xs) → i < length xs → IsTrue (test (get_or xs i d))
all_at test [] i d h below = absurd (omega arith)
all_at test (x ∷ xs) zero d h below = and_left (test x) (list_all test xs) h
all_at test (x ∷ xs) (suc i) d h below = all_at test xs i d (and_right (test x) (list_all test xs) h) (omega arith)

-- a test of all that fails, fails at an item
pub not_all_at : {A : Type 0} (test : A → Bool) (xs : List A) (d : A) → list_all test xs ≡ false → (i : ℕ) × (i < length xs) × (test (get_or xs i d) ≡ false)
not_all_at test [] d h = absurd (let e : true ≡ false = h in cc)
not_all_at {A} test (x ∷ xs) d h = by (test x) refl h (not_all_at test xs d)
  where
    by : (b : Bool) → test x ≡ b → (b && list_all test xs) ≡ false → (list_all test xs ≡ false → (i : ℕ) × (i < length xs) × (test (get_or xs i d) ≡ false))
        → (i : ℕ) × (i < length (x ∷ xs)) × (test (get_or (x ∷ xs) i d) ≡ false)
    by true e h rest = let found = rest h in (suc found.0, omega (arith, found.1), found.2)
    by false e h rest = (0, omega arith, e)

pub all_fails : {A : Type 0} (test : A → Bool) (xs : List A) (i : ℕ) (d : A) → i < length xs → test (get_or xs i d) ≡ false → list_all test xs ≡ false
all_fails test [] i d below h = absurd (omega arith)
all_fails test (x ∷ xs) zero d below h = ap (λ b. b && list_all test xs) h
all_fails test (x ∷ xs) (suc i) d below h = ap (λ b. test x && b) (all_fails test xs i d (omega arith) h) ∙ by (test x)
  where
    by : (b : Bool) → (b && false) ≡ false
    by true = refl
    by false = refl

-- the conditions fit
abbrev pub conditions_fit : Protocol → ℕ → List Branch → Bool
conditions_fit p width branches = list_all (λ b. list_all (literal_fits (signature_of p) width) b.cond) branches

not_not_true : (b : Bool) → not b ≡ true → b ≡ false
not_not_true true h = cc
not_not_true false h = refl

-- the way and its failing literals
pub record IsWay (branches : List Branch) (n : ℕ) (fails : List ℕ) : Type 0 where
  pub within : n ≤ length branches
  pub fail : Has (failures (take n branches)) fails

pub way_in : (branches : List Branch) (w : Way) → Has (ways branches) w → IsWay branches w.branch w.fails
way_in branches w h =
    let found = flat_map_has (λ n. map (way n) (failures (take n branches))) (range_with_len 0 (length branches + 1)) w h in
    let last = map_has (way found.0) (failures (take found.0 branches)) w found.2 in
    let below : found.0 < length branches + 1 = below_has (length branches + 1) found.0 found.1 in
    subst (λ v. IsWay branches v.branch v.fails) last.2 (record { within = omega arith; fail = last.1 })

pub in_ways : (branches : List Branch) (n : ℕ) (fails : List ℕ) → IsWay branches n fails → Has (ways branches) (way n fails)
in_ways branches n fails is =
    let within = is.within in
    has_flat_map (λ m. map (way m) (failures (take m branches))) (range_with_len 0 (length branches + 1)) n (way n fails)
    (has_below (length branches + 1) n (omega arith)) (has_map (way n) (failures (take n branches)) fails is.fail)

module _ (p : Protocol) (s : Configuration) (places : List ℕ) (state : IsStateOf p s) (processes : All (λ i. i < process_count s) places) where
  abbrev given : List Branch → ℕ → List ℕ → List Lit
  given branches n fails = condition branches n ++ failing (signature_of p) (take n branches) fails

  one_fails : (b : Branch) (f : ℕ) → IsTrue (list_all (literal_fits (signature_of p) (length places)) b.cond) → f < length b.cond
      → IsTrue (is_true s places (negated (signature_of p) (slice_index_or b.cond f (constant true)))) → all_true s places b.cond ≡ false
  one_fails b f fits below h =
      all_fails (is_true s places) b.cond f (constant true) below
      (not_not_true (is_true s places (get_or b.cond f (constant true)))
      (sym (negated_is p s places state processes (get_or b.cond f (constant true)) (all_at (literal_fits (signature_of p) (length places)) b.cond f (constant true) fits below)) ∙ h))

  pub counts_from : (branches : List Branch) (last : Value) (n : ℕ) (fails : List ℕ) → IsTrue (conditions_fit p (length places) branches) → IsWay branches n fails
      → IsTrue (all_true s places (given branches n fails)) → chosen s places branches last ≡ option_map_or (λ b. b.value) (slice_get branches n) last
  counts_from [] last n fails fits is h = refl
  counts_from (b ∷ bs) last zero fails fits is h =
      ap (λ t. if t then b.value else chosen s places bs last) (true_left s places b.cond (failing (signature_of p) [] fails) h)
  counts_from (b ∷ bs) last (suc n) [] fits is h = absurd (product_has (map (λ b. numbers b.cond) (b ∷ take n bs)) [] is.fail)
  counts_from (b ∷ bs) last (suc n) (f ∷ fs) fits is h =
      let each = product_has (map (λ b. numbers b.cond) (b ∷ take n bs)) (f ∷ fs) is.fail in
      let within = is.within in
      let rest : IsWay bs n fs = record { within = omega arith; fail = has_product (map (λ b. numbers b.cond) (take n bs)) fs each.1 } in
      let fails = true_right s places (condition bs n) (negated (signature_of p) (slice_index_or b.cond f (constant true)) ∷ failing (signature_of p) (take n bs) fs) h in
      let here = one_fails b f (and_left (list_all (literal_fits (signature_of p) (length places)) b.cond) (conditions_fit p (length places) bs) fits) (number_has b.cond f each.0)
      (and_left (is_true s places (negated (signature_of p) (slice_index_or b.cond f (constant true)))) (all_true s places (failing (signature_of p) (take n bs) fs)) fails) in
      ap (λ t. if t then b.value else chosen s places bs last) here
      ∙ counts_from bs last n fs (and_right (list_all (literal_fits (signature_of p) (length places)) b.cond) (conditions_fit p (length places) bs) fits) rest
      (true_both s places (condition bs n) (failing (signature_of p) (take n bs) fs) (true_left s places (condition bs n) (negated (signature_of p) (slice_index_or b.cond f (constant true)) ∷ failing (signature_of p) (take n bs) fs) h)
      (and_right (is_true s places (negated (signature_of p) (slice_index_or b.cond f (constant true)))) (all_true s places (failing (signature_of p) (take n bs) fs)) fails))

  pub record Found (branches : List Branch) : Type 0 where
    pub branch : ℕ
    pub fails : List ℕ
    pub is : IsWay branches branch fails
    pub holds : IsTrue (all_true s places (given branches branch fails))

  pub way_found : (branches : List Branch) → IsTrue (conditions_fit p (length places) branches) → Found branches
  way_found [] fits = record { branch = 0; fails = []; is = record { within = omega arith; fail = inl refl }; holds = refl }
  way_found (b ∷ bs) fits = by (all_true s places b.cond) refl (way_found bs (and_right (list_all (literal_fits (signature_of p) (length places)) b.cond) (conditions_fit p (length places) bs) fits))
    where
      by : (t : Bool) → all_true s places b.cond ≡ t → Found bs → Found (b ∷ bs)
      by true e rest = record {
        branch = 0;
        fails = [];
        is = record { within = omega arith; fail = inl refl };
        holds = true_both s places b.cond [] e refl;
      }
      by false e rest =
          let at = not_all_at (is_true s places) b.cond (constant true) e in
          let fit = all_at (literal_fits (signature_of p) (length places)) b.cond at.0 (constant true) (and_left (list_all (literal_fits (signature_of p) (length places)) b.cond) (conditions_fit p (length places) bs) fits) at.1 in
          let opposite : IsTrue (is_true s places (negated (signature_of p) (get_or b.cond at.0 (constant true)))) = negated_is p s places state processes (get_or b.cond at.0 (constant true)) fit ∙ ap not at.2 in
          let within = rest.is.within in
          record {
            branch = suc rest.branch;
            fails = at.0 ∷ rest.fails;
            is = record {
              within = omega arith;
              fail = has_product (map (λ b. numbers b.cond) (b ∷ take rest.branch bs)) (at.0 ∷ rest.fails) (has_number b.cond at.0 at.1, product_has (map (λ b. numbers b.cond) (take rest.branch bs)) rest.fails rest.is.fail);
            };
            holds =
                true_both s places (condition bs rest.branch) (negated (signature_of p) (get_or b.cond at.0 (constant true)) ∷ failing (signature_of p) (take rest.branch bs) rest.fails)
                (true_left s places (condition bs rest.branch) (failing (signature_of p) (take rest.branch bs) rest.fails) rest.holds)
                (and_both (is_true s places (negated (signature_of p) (get_or b.cond at.0 (constant true)))) (all_true s places (failing (signature_of p) (take rest.branch bs) rest.fails)) opposite
                (true_right s places (condition bs rest.branch) (failing (signature_of p) (take rest.branch bs) rest.fails) rest.holds));
          }
