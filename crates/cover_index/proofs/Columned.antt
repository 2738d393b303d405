-- Words turned round: what stands in them as cubes come and go, and which pairs of cubes they tell apart.
use Rattle.std.proofs.Common.{◌≡◌, ℕ, replicate, ◌+◌, ◌<◌, ◌≤◌, Bool, not, List, [], ◌∷◌, ◌++◌, length, take, inl, inr, sym, ap, ◌∙◌, subst, arith}
use Rattle.std.specs.Prelude.{IsTrue}
use Rattle.std.proofs.lemmas.Bool.{cases_lt, cases_eq, not-true, true≢false}
use Rattle.std.proofs.lemmas.List.{get_or_append_left, get_or_push, get_or_past, get_or-replicate, get_or-take, length-take, length_push}
use Rattle.cub_proto.specs.declared.protocol.Protocol.{Protocol}
use Rattle.cub_proto.specs.Truth.{has_bit}
use Rattle.cub_cube.specs.declared.cube.Cube.{Cube}
use Rattle.cub_cube.specs.Cover.{DoesCover}
use Rattle.cub_cube.specs.Meaning.{IsConsistent}
use Rattle.log_form.specs.Pieces.{IsAskable}
use Rattle.subsume.specs.declared.summary.Summary.{Summary}
use Rattle.subsume.specs.Summary.{IsSummary, IsOf}
use Rattle.subsume.specs.Marks.{IsPart}
use Rattle.log_form.specs.Links.{cube_at}
use Rattle.subsume.proofs.Summarized.{passed_over, own_summary}
use Rattle.cover_index.specs.Asked.{summary_at, no_summary, needs_key, offers_key, AreSummedTo, AreMet}
use Rattle.cover_index.specs.Columns.{column, AreColumns, needs_mark, lacks_mark, NeedsMore, OffersLess}
use Rattle.cover_index.proofs.Keyed.{either_part}

-- ---- words without bits
-- one more of them changes nothing
pub column_more : (words : List ℕ) (b : ℕ) → column (words ++ 0 ∷ []) b ≡ column words b
column_more words b = elim (cases_lt b (length words)) [
  | inl less ↦ get_or_append_left words (0 ∷ []) 0 b less
  | inr more ↦ elim (cases_eq b (length words)) [
    | inl same ↦ get_or_push words 0 0 b (sym same) ∙ sym (get_or_past words b 0 more)
    | inr other ↦
        let size = length_push words 0 in
        get_or_past (words ++ 0 ∷ []) b 0 (omega arith) ∙ sym (get_or_past words b 0 more)
  ]
]

pub no_columns : (b : ℕ) → column (replicate 64 0) b ≡ 0
no_columns b = elim (cases_lt b 64) [
  | inl less ↦ get_or-replicate 64 b 0 0 less
  | inr more ↦ get_or_past (replicate 64 0) b 0 more
]

-- ---- cubes that come and go
-- one more word among those that stay
columns_more : (old new : List ℕ) (count : ℕ) (test more : ℕ → ℕ → Bool) → AreColumns old count test
    → ((b i : ℕ) → b < 64 → i < count → has_bit (column new b) i ≡ has_bit (column old b) i) → ((i b : ℕ) → i < count → more i b ≡ test i b)
    → ((b : ℕ) → b < 64 → has_bit (column new b) count ≡ more count b) → AreColumns new (count + 1) more
columns_more old new count test more are others same own i inside b below = elim (cases_lt i count) [
  | inl less ↦ others b i below less ∙ are i less b below ∙ sym (same i b less)
  | inr last ↦
      let here : count ≡ i = omega (arith, inside, last) in
      subst (λ k. has_bit (column new b) k ≡ more k b) here (own b below)
]

module _ (summaries : List Summary) (own : Summary) where
  kept_at : (i : ℕ) → i < length summaries → summary_at (summaries ++ own ∷ []) i ≡ summary_at summaries i
  kept_at i less = get_or_append_left summaries (own ∷ []) no_summary i less

  own_at : summary_at (summaries ++ own ∷ []) (length summaries) ≡ own
  own_at = get_or_push summaries own no_summary (length summaries) (omega arith)

  pub needs_push : (old new : List ℕ) (at : ℕ) → at ≡ length summaries → AreColumns old (length summaries) (needs_mark summaries) → ((b i : ℕ) → b < 64 → i < at → has_bit (column new b) i ≡ has_bit (column old b) i)
      → ((b : ℕ) → b < 64 → has_bit (column new b) at ≡ has_bit (needs_key own) b) → AreColumns new (length (summaries ++ own ∷ [])) (needs_mark (summaries ++ own ∷ []))
  needs_push old new at last are others here =
      subst (λ n. AreColumns new n (needs_mark (summaries ++ own ∷ []))) (sym (length_push summaries own))
      (columns_more old new (length summaries) (needs_mark summaries) (needs_mark (summaries ++ own ∷ [])) are (λ b i below less. others b i below (omega (arith, last, less)))
      (λ i b less. ap (λ s. has_bit (needs_key s) b) (kept_at i less)) (λ b below. ap (λ k. has_bit (column new b) k) (sym last) ∙ here b below ∙ ap (λ s. has_bit (needs_key s) b) (sym own_at)))

  pub lacks_push : (old new : List ℕ) (at : ℕ) → at ≡ length summaries → AreColumns old (length summaries) (lacks_mark summaries) → ((b i : ℕ) → b < 64 → i < at → has_bit (column new b) i ≡ has_bit (column old b) i)
      → ((b : ℕ) → b < 64 → has_bit (column new b) at ≡ not (has_bit (offers_key own) b)) → AreColumns new (length (summaries ++ own ∷ [])) (lacks_mark (summaries ++ own ∷ []))
  lacks_push old new at last are others here =
      subst (λ n. AreColumns new n (lacks_mark (summaries ++ own ∷ []))) (sym (length_push summaries own))
      (columns_more old new (length summaries) (lacks_mark summaries) (lacks_mark (summaries ++ own ∷ [])) are (λ b i below less. others b i below (omega (arith, last, less)))
      (λ i b less. ap (λ s. not (has_bit (offers_key s) b)) (kept_at i less)) (λ b below. ap (λ k. has_bit (column new b) k) (sym last) ∙ here b below ∙ ap (λ s. not (has_bit (offers_key s) b)) (sym own_at)))

-- the same words, of which some are new and without bits
pub columns_same : (old new : List ℕ) (count : ℕ) (test : ℕ → ℕ → Bool) → ((b : ℕ) → column new b ≡ column old b) → AreColumns old count test → AreColumns new count test
columns_same old new count test same are i inside b below = ap (λ w. has_bit w i) (same b) ∙ are i inside b below

-- fewer summaries
module _ (summaries : List Summary) (n : ℕ) where
  taken_at : (i : ℕ) → i < length (take n summaries) → summary_at (take n summaries) i ≡ summary_at summaries i
  taken_at i inside = let size = length-take n summaries in get_or-take n summaries i no_summary (omega (arith, size, inside))

  taken_inside : (i : ℕ) → i < length (take n summaries) → i < length summaries
  taken_inside i inside = let size = length-take n summaries in omega (arith, size, inside)

  pub needs_take : (words : List ℕ) → AreColumns words (length summaries) (needs_mark summaries) → AreColumns words (length (take n summaries)) (needs_mark (take n summaries))
  needs_take words are i inside b below = are i (taken_inside i inside) b below ∙ ap (λ s. has_bit (needs_key s) b) (sym (taken_at i inside))

  pub lacks_take : (words : List ℕ) → AreColumns words (length summaries) (lacks_mark summaries) → AreColumns words (length (take n summaries)) (lacks_mark (take n summaries))
  lacks_take words are i inside b below = are i (taken_inside i inside) b below ∙ ap (λ s. not (has_bit (offers_key s) b)) (sym (taken_at i inside))

-- ---- pairs that are told apart
module _ (p : Protocol) (big small : Cube) (of_big of_small : Summary) where
  apart : IsOf p big of_big → IsOf p small of_small → IsAskable p big → IsAskable p small → IsConsistent p small.width small.lits
      → (b : ℕ) → b < 64 → IsTrue (has_bit (needs_key of_big) b) → IsTrue (not (has_bit (offers_key of_small) b)) → DoesCover p big small → ⊥
  apart of of_the askable fit met b below needed lacked =
      passed_over p big small of_big of_small of of_the askable fit met (λ among.
      let part : IsPart (needs_key of_big) (offers_key of_small) = either_part of_big.needs.constructors of_big.needs.values of_small.offers.constructors of_small.offers.values among.constructors among.values in
      true≢false (sym (part b below needed) ∙ not-true (has_bit (offers_key of_small) b) lacked))

-- a cube of the list that needs what the given one doesn't offer doesn't cover it
pub more_is_apart : (p : Protocol) (summaries : List Summary) (i : ℕ) (big small : Cube) (own : Summary) → NeedsMore summaries i own → IsOf p big (summary_at summaries i) → IsOf p small own
    → IsAskable p big → IsAskable p small → IsConsistent p small.width small.lits → DoesCover p big small → ⊥
more_is_apart p summaries i big small own (b, below, needed, lacked) of of_own askable fit met = apart p big small (summary_at summaries i) own of of_own askable fit met b below needed lacked

-- one that doesn't offer what the given one needs isn't covered by it
pub less_is_apart : (p : Protocol) (summaries : List Summary) (i : ℕ) (big small : Cube) (own : Summary) → OffersLess summaries i own → IsOf p big own → IsOf p small (summary_at summaries i)
    → IsAskable p big → IsAskable p small → IsConsistent p small.width small.lits → DoesCover p big small → ⊥
less_is_apart p summaries i big small own (b, below, lacked, needed) of_own of askable fit met = apart p big small own (summary_at summaries i) of_own of askable fit met b below needed lacked

-- the cubes of a part that a word tells apart from the given one don't cover it
module _ (p : Protocol) (cubes : List Cube) (summaries : List Summary) (upto : ℕ) (summed : AreSummedTo p upto cubes summaries) (cube : Cube) (own : Summary) (own_is : IsSummary p cube own) (askable : IsAskable p cube) (word : ℕ) (at end : ℕ) (within : end ≤ upto)
    (marked : (i : ℕ) → at ≤ i → i < end → IsTrue (has_bit word i)) where
  pub none_above : (consistent : Bool) → (IsTrue consistent → IsConsistent p cube.width cube.lits) → ((i : ℕ) → i < length summaries → IsTrue (has_bit word i) → IsTrue consistent × NeedsMore summaries i own)
      → (i : ℕ) → at ≤ i → i < end → DoesCover p (cube_at cubes i) cube → ⊥
  none_above consistent met told i low high =
      let below : i < upto = omega arith in
      let apart_at = told i (omega (arith, summed.enough)) (marked i low high) in
      more_is_apart p summaries i (cube_at cubes i) cube own apart_at.1 (own_summary _ _ _ (summed.own i below)) (own_summary _ _ _ own_is) (summed.askable i below) askable (met apart_at.0)

  pub none_below : (met : ℕ) → AreMet p cubes met → (are_met : Bool) → (IsTrue are_met → upto ≤ met) → ((i : ℕ) → i < length summaries → IsTrue (has_bit word i) → IsTrue are_met × OffersLess summaries i own)
      → (i : ℕ) → at ≤ i → i < end → DoesCover p cube (cube_at cubes i) → ⊥
  none_below met known are_met all told i low high =
      let below : i < upto = omega arith in
      let apart_at = told i (omega (arith, summed.enough)) (marked i low high) in
      let enough : upto ≤ met = all apart_at.0 in
      less_is_apart p summaries i cube (cube_at cubes i) own apart_at.1 (own_summary _ _ _ own_is) (own_summary _ _ _ (summed.own i below)) askable (summed.askable i below) (known i (omega arith) (omega (arith, summed.within)))
