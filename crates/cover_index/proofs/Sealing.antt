-- Cubes with their summaries, one after the other, and the summary of all.
use Rattle.std.proofs.Common.{◌≡◌, ℕ, ◌+◌, ◌/◌, ◌<◌, List, [], ◌∷◌, ◌++◌, length, inl, inr, sym, subst, arith}
use Rattle.std.proofs.lemmas.Bool.{cases_lt, cases_eq}
use Rattle.std.proofs.lemmas.List.{get_or_append_left, get_or_push}
use Rattle.cub_proto.specs.declared.protocol.Protocol.{Protocol}
use Rattle.cub_cube.specs.declared.cube.Cube.{Cube}
use Rattle.log_form.specs.Links.{cube_at}
use Rattle.subsume.specs.declared.summary.Summary.{Summary}
use Rattle.subsume.specs.Summary.{IsSummary, IsOf}
use Rattle.subsume.proofs.Summarized.{own_summary}
use Rattle.cover_index.specs.Asked.{summary_at, no_summary, AreSummed, AreGrouped, Joins}
use Rattle.cover_index.specs.Sealed.{AreOf}

-- the summary of one more cube of the list
pub sum_more : (p : Protocol) (cubes : List Cube) (summaries : List Summary) (at : ℕ) (own : Summary) → length summaries ≡ at
    → ((i : ℕ) → i < at → IsSummary p (cube_at cubes i) (summary_at summaries i)) → IsSummary p (cube_at cubes at) own
    → (i : ℕ) → i < at + 1 → IsSummary p (cube_at cubes i) (summary_at (summaries ++ own ∷ []) i)
sum_more p cubes summaries at own size each here i below = elim (cases_lt i at) [
  | inl less ↦
      let there : summary_at (summaries ++ own ∷ []) i ≡ summary_at summaries i = get_or_append_left summaries (own ∷ []) no_summary i (omega arith) in
      subst (λ x. IsSummary p (cube_at cubes i) x) (sym there) (each i less)
  | inr more ↦
      let last : at ≡ i = omega (arith, below, more) in
      let there : summary_at (summaries ++ own ∷ []) i ≡ own = get_or_push summaries own no_summary i (omega arith) in
      subst (λ x. IsSummary p (cube_at cubes i) x) (sym there) (subst (λ k. IsSummary p (cube_at cubes k) own) last here)
]

-- one more summary is joined
pub join_more : (summaries : List Summary) (at : ℕ) (all more : Summary) → ((i : ℕ) → i < at → Joins (summary_at summaries i) all) → Joins all more → Joins (summary_at summaries at) more
    → (i : ℕ) → i < at + 1 → Joins (summary_at summaries i) more
join_more summaries at all more each before here i below = elim (cases_eq i at) [
  | inl same ↦ subst (λ k. Joins (summary_at summaries k) more) (sym same) here
  | inr other ↦ λ p c it. before p c (each i (omega arith) p c it)
]

-- the summary of all is that of each cube's group
pub one_group : (p : Protocol) (size : ℕ) (cubes : List Cube) (all : Summary) → ((i : ℕ) → i < length cubes → i / size ≡ 0) → AreOf p cubes all → AreGrouped p size cubes (all ∷ [])
one_group p size cubes all first of i below =
    subst (λ k. IsOf p (cube_at cubes i) (summary_at (all ∷ []) k)) (sym (first i below)) (of i below)

pub all_of : (p : Protocol) (cubes : List Cube) (summaries : List Summary) (all : Summary) → AreSummed p cubes summaries → ((i : ℕ) → i < length summaries → Joins (summary_at summaries i) all) → AreOf p cubes all
all_of p cubes summaries all summed joins i below =
    joins i (omega (arith, summed.one_each)) p (cube_at cubes i) (own_summary p (cube_at cubes i) (summary_at summaries i) (summed.own i below))

-- ---- what searches take
module _ (p : Protocol) (cubes own_cubes : List Cube) (same : cubes ≡ own_cubes) where
  pub summed_along : (summaries own : List Summary) → summaries ≡ own → AreSummed p own_cubes own → AreSummed p cubes summaries
  summed_along summaries own alike summed = subst (λ cs. AreSummed p cs summaries) (sym same) (subst (λ ss. AreSummed p own_cubes ss) (sym alike) summed)

  pub group_along : (size : ℕ) (all : Summary) → ((i : ℕ) → i < length own_cubes → i / size ≡ 0) → AreOf p own_cubes all → AreGrouped p size cubes (all ∷ [])
  group_along size all first of = subst (λ cs. AreGrouped p size cs (all ∷ [])) (sym same) (one_group p size own_cubes all first of)
