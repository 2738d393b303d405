-- Covering is reflexive and transitive, its least injection is one, and it goes along with renamings that keep the meaning.
use Rattle.std.proofs.Common.{◌≡◌, ◌⊎◌, ℕ, ◌<◌, ◌≤◌, List, [], ◌∷◌, length, get_or, refl, sym, ap, ◌∙◌, subst, arith, inl, inr}
use Rattle.std.specs.Prelude.{IsTrue, ◌&&◌, ◌==◌, nat_lt, All}
use Rattle.std.proofs.lemmas.Bool.{cases_lt}
use Rattle.cub_proto.specs.declared.literal.Lit.{Lit}
use Rattle.cub_proto.specs.declared.protocol.Protocol.{Protocol}
use Rattle.cub_proto.specs.Configuration.{Configuration}
use Rattle.cub_proto.specs.Truth.{all_true}
use Rattle.cub_proto.specs.StateOf.{IsStateOf}
use Rattle.cub_proto.specs.Meets.{Satisfies, Meets}
use Rattle.cub_cube.specs.declared.cube.Cube.{Cube}
use Rattle.cub_cube.specs.Rename.{along, IsInjection}
use Rattle.cub_cube.specs.Meaning.{AreAtPlaces, SameMeaningAlong}
use Rattle.cub_cube.specs.Cover.{Covers, CoversLeast, precedes}
use Rattle.cub_base.proofs.Bools.{is_less, same_refl, and_both, or_intro_left, or_intro_right}
use Rattle.cub_cube.proofs.Renames.{along-along, length-along}
use Rattle.cub_cube.proofs.Placing.{identity, identity_injection, along-identity, composed_injection, along_satisfies, along_processes, inverse, inverse_injection, length-inverse, along-along-inverse}

pub covers_itself : (p : Protocol) (c : Cube) → Covers p c c (identity c.width)
covers_itself p c = record {
  injection = identity_injection c.width;
  follows = λ s places state sat.
      subst (λ qs. IsTrue (all_true s qs c.lits)) (sym (along-identity places) ∙ ap (λ n. along (identity n) places) sat.one_each) sat.holds;
}

-- at places that satisfy the covered cube, the composed ones satisfy the covering cube
pub covering_satisfies : (p : Protocol) (d c : Cube) (r : List ℕ) → Covers p d c r → (s : Configuration) (places : List ℕ) → IsStateOf p s → Satisfies s places c.width c.lits → Satisfies s (along r places) d.width d.lits
covering_satisfies p d c r covers s places state sat =
    along_satisfies s places r d.width d.lits (subst (λ n. IsInjection d.width n r) (sym sat.one_each) covers.injection) sat.processes (covers.follows s places state sat)

pub covering_meets : (p : Protocol) (d c : Cube) (r : List ℕ) → Covers p d c r → (s : Configuration) → IsStateOf p s → Meets s c.width c.lits → Meets s d.width d.lits
covering_meets p d c r covers s state meets = (along r meets.0, covering_satisfies p d c r covers s meets.0 state meets.1)

within_items : (n : ℕ) (q r : List ℕ) → length r ≡ n → All (λ p. p < n) q → All (λ p. p < length r) q
within_items n q r size within = λ k d below. subst (λ m. get_or q k d < m) (sym size) (within k d below)

pub covers_further : (p : Protocol) (d c b : Cube) (q r : List ℕ) → Covers p d c q → Covers p c b r → Covers p d b (along q r)
covers_further p d c b q r first second = record {
  injection = composed_injection d.width c.width b.width q r first.injection second.injection;
  follows = λ s places state sat.
      subst (λ qs. IsTrue (all_true s qs d.lits)) (sym (along-along q r places (within_items c.width q r second.injection.one_each first.injection.within)))
      (first.follows s (along r places) state (covering_satisfies p c b r second s places state sat));
}

-- ---- the least injection is one
first_decides : (x y : ℕ) (xs ys : List ℕ) → x < y → IsTrue (precedes (x ∷ xs) (y ∷ ys))
first_decides x y xs ys h = or_intro_left (nat_lt x y) (x == y && precedes xs ys) (is_less x y h)

rest_decides : (x y : ℕ) (xs ys : List ℕ) → x ≡ y → IsTrue (precedes xs ys) → IsTrue (precedes (x ∷ xs) (y ∷ ys))
rest_decides x y xs ys same h =
    or_intro_right (nat_lt x y) (x == y && precedes xs ys) (and_both (x == y) (precedes xs ys) (subst (λ z. IsTrue (x == z)) same (same_refl x)) h)

pub precedes_total : (xs ys : List ℕ) → length xs ≡ length ys → (xs ≡ ys) ⊎ (IsTrue (precedes xs ys) ⊎ IsTrue (precedes ys xs))
precedes_total [] [] h = inl refl
precedes_total [] (y ∷ ys) h = absurd (omega arith)
precedes_total (x ∷ xs) [] h = absurd (omega arith)
precedes_total (x ∷ xs) (y ∷ ys) h = by (cases_lt x y) (precedes_total xs ys (omega arith))
  where
    equal : x ≡ y → (xs ≡ ys) ⊎ (IsTrue (precedes xs ys) ⊎ IsTrue (precedes ys xs)) → ((x ∷ xs) ≡ (y ∷ ys)) ⊎ (IsTrue (precedes (x ∷ xs) (y ∷ ys)) ⊎ IsTrue (precedes (y ∷ ys) (x ∷ xs)))
    equal same (inl rest) = inl (cc)
    equal same (inr (inl rest)) = inr (inl (rest_decides x y xs ys same rest))
    equal same (inr (inr rest)) = inr (inr (rest_decides y x ys xs (sym same) rest))

    by : (x < y) ⊎ (y ≤ x) → (xs ≡ ys) ⊎ (IsTrue (precedes xs ys) ⊎ IsTrue (precedes ys xs)) → ((x ∷ xs) ≡ (y ∷ ys)) ⊎ (IsTrue (precedes (x ∷ xs) (y ∷ ys)) ⊎ IsTrue (precedes (y ∷ ys) (x ∷ xs)))
    by (inl less) rest = inr (inl (first_decides x y xs ys less))
    by (inr le) rest = by_more (cases_lt y x)
      where
        by_more : (y < x) ⊎ (x ≤ y) → ((x ∷ xs) ≡ (y ∷ ys)) ⊎ (IsTrue (precedes (x ∷ xs) (y ∷ ys)) ⊎ IsTrue (precedes (y ∷ ys) (x ∷ xs)))
        by_more (inl more) = inr (inr (first_decides y x ys xs more))
        by_more (inr ge) = equal (omega arith) rest

pub least_same : (p : Protocol) (d c : Cube) (q r : List ℕ) → CoversLeast p d c q → CoversLeast p d c r → q ≡ r
least_same p d c q r first second = by (precedes_total q r (first.covers.injection.one_each ∙ sym second.covers.injection.one_each))
  where
    by : (q ≡ r) ⊎ (IsTrue (precedes q r) ⊎ IsTrue (precedes r q)) → q ≡ r
    by (inl same) = same
    by (inr (inl less)) = absurd (second.least q first.covers less)
    by (inr (inr more)) = absurd (first.least r second.covers more)

-- ---- along a renaming that keeps the meaning, both ways
module _ (p : Protocol) (width : ℕ) (r : List ℕ) (small big : List Lit) (onto : IsInjection width width r) (same : SameMeaningAlong p width r small big) where
  pub covers_big : (d : Cube) (q : List ℕ) → Covers p d (record { width = width; lits = small }) q → Covers p d (record { width = width; lits = big }) (along q r)
  covers_big d q covers = record {
    injection = composed_injection d.width width width q r covers.injection onto;
    follows = λ s places state sat.
        let at : AreAtPlaces p s places width = record { state = state; one_each = sat.one_each; processes = sat.processes } in
        let holds : IsTrue (all_true s (along r places) small) = same s places at ∙ sat.holds in
        subst (λ qs. IsTrue (all_true s qs d.lits)) (sym (along-along q r places (within_items width q r onto.one_each covers.injection.within)))
        (covers.follows s (along r places) state
        (along_satisfies s places r width small (subst (λ n. IsInjection width n r) (sym sat.one_each) onto) sat.processes holds));
  }

  pub covers_small : (d : Cube) (q : List ℕ) → Covers p d (record { width = width; lits = big }) q → Covers p d (record { width = width; lits = small }) (along q (inverse width r onto))
  covers_small d q covers =
      let back = inverse_injection width r onto in
      record {
        injection = composed_injection d.width width width q (inverse width r onto) covers.injection back;
        follows = λ s places state sat.
            let sized : IsInjection width (length places) (inverse width r onto) = subst (λ n. IsInjection width n (inverse width r onto)) (sym sat.one_each) back in
            let there = along (inverse width r onto) places in
            let holds : IsTrue (all_true s (along r there) small) = subst (λ qs. IsTrue (all_true s qs small)) (sym (along-along-inverse width r onto places sat.one_each)) sat.holds in
            subst (λ qs. IsTrue (all_true s qs d.lits)) (sym (along-along q (inverse width r onto) places (within_items width q (inverse width r onto) (length-inverse width r onto) covers.injection.within)))
            (covers.follows s there state (moved s places state sat sized holds));
      }
    where
      moved : (s : Configuration) (places : List ℕ) → IsStateOf p s → Satisfies s places width small → IsInjection width (length places) (inverse width r onto)
          → IsTrue (all_true s (along r (along (inverse width r onto) places)) small) → Satisfies s (along (inverse width r onto) places) width big
      moved s places state sat sized holds =
          let processes = along_processes s places (inverse width r onto) width sized sat.processes in
          let size = length-along (inverse width r onto) places ∙ length-inverse width r onto in
          let at : AreAtPlaces p s (along (inverse width r onto) places) width = record { state = state; one_each = size; processes = processes } in
          record { one_each = size; processes = processes; holds = sym (same s (along (inverse width r onto) places) at) ∙ holds }
