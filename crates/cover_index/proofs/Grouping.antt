-- Groups of cubes: one more cube, fewer cubes, summaries of more cubes than before.
use Rattle.std.proofs.Common.{◌≡◌, ℕ, ◌*◌, ◌/◌, ◌<◌, ◌≤◌, List, [], ◌∷◌, ◌++◌, length, take, set, get_or, inl, inr, sym, subst, ◌∙◌, arith}
use Rattle.std.proofs.lemmas.Bool.{cases_lt, cases_eq}
use Rattle.std.proofs.lemmas.Nat.{div_below}
use Rattle.std.proofs.lemmas.List.{get_or_append_left, get_or_push, get_or-take, length_push, length-take-le, get_or-set_same, get_or-set_other, length-set, get_or_read}
use Rattle.cub_proto.specs.declared.protocol.Protocol.{Protocol}
use Rattle.cub_cube.specs.declared.cube.Cube.{Cube}
use Rattle.cub_cube.specs.Meaning.{IsConsistent}
use Rattle.log_form.specs.Links.{cube_at, no_cube}
use Rattle.subsume.specs.declared.summary.Summary.{Summary}
use Rattle.subsume.specs.Summary.{IsSummary, IsOf}
use Rattle.cover_index.specs.Asked.{summary_at, no_summary, AreGrouped, AreMet, AreKept, Joins}

-- ---- cubes of a list that has one more, or only its first
pub cube_before : (cubes : List Cube) (c : Cube) (i : ℕ) → i < length cubes → cube_at (cubes ++ c ∷ []) i ≡ cube_at cubes i
cube_before cubes c i below = get_or_append_left cubes (c ∷ []) no_cube i below

pub cube_last : (cubes : List Cube) (c : Cube) (i : ℕ) → length cubes ≡ i → cube_at (cubes ++ c ∷ []) i ≡ c
cube_last cubes c i last = get_or_push cubes c no_cube i last

pub cube_kept : (cubes : List Cube) (count i : ℕ) → i < count → cube_at (take count cubes) i ≡ cube_at cubes i
cube_kept cubes count i below = get_or-take count cubes i no_cube below

pub summary_kept : (summaries : List Summary) (count i : ℕ) → i < count → summary_at (take count summaries) i ≡ summary_at summaries i
summary_kept summaries count i below = get_or-take count summaries i no_summary below

-- ---- one summary is joined with more
pub kept_set : (old : List Summary) (at : ℕ) (s : Summary) → at < length old → Joins (summary_at old at) s → AreKept old (set old at s)
kept_set old at s below joins = record { more = let size = length-set old at s in omega arith; kept = kept }
  where
    kept : (i : ℕ) → i < length old → (p : Protocol) (c : Cube) → IsOf p c (summary_at old i) → IsOf p c (summary_at (set old at s) i)
    kept i less p c it = elim (cases_eq i at) [
      | inl same ↦
          let here : summary_at (set old at s) at ≡ s = get_or-set_same old at s no_summary below in
          subst (λ k. IsOf p c (summary_at (set old at s) k)) (sym same) (subst (λ x. IsOf p c x) (sym here) (joins p c (subst (λ k. IsOf p c (summary_at old k)) same it)))
      | inr other ↦
          let there : summary_at (set old at s) i ≡ summary_at old i = get_or-set_other old at i s no_summary other in
          subst (λ x. IsOf p c x) (sym there) it
    ]

module _ (p : Protocol) (size : ℕ) (some : 0 < size) where
  pub in_group : (i count room : ℕ) → i < count → count ≤ size * room → i / size < room
  in_group i count room below enough = div_below i size room some (omega (arith, enough, below))

  -- ---- groups with summaries of more cubes
  pub grouped_kept : (cubes : List Cube) (old new : List Summary) → length cubes ≤ size * length old → AreKept old new → AreGrouped p size cubes old → AreGrouped p size cubes new
  grouped_kept cubes old new room kept grouped i below =
      kept.kept (i / size) (in_group i (length cubes) (length old) below room) p (cube_at cubes i) (grouped i below)

  -- ---- one more cube
  pub grouped_push : (cubes : List Cube) (c : Cube) (new : List Summary) → AreGrouped p size cubes new → IsOf p c (summary_at new (length cubes / size)) → AreGrouped p size (cubes ++ c ∷ []) new
  grouped_push cubes c new grouped own i below = elim (cases_lt i (length cubes)) [
    | inl less ↦ subst (λ x. IsOf p x (summary_at new (i / size))) (sym (cube_before cubes c i less)) (grouped i less)
    | inr more ↦
        let count = length_push cubes c in
        let last : length cubes ≡ i = omega (arith, below) in
        subst (λ x. IsOf p x (summary_at new (i / size))) (sym (cube_last cubes c i last)) (subst (λ k. IsOf p c (summary_at new (k / size))) last own)
  ]

  -- ---- the first cubes
  pub grouped_take : (cubes : List Cube) (groups : List Summary) (count room : ℕ) → count ≤ length cubes → count ≤ size * room → AreGrouped p size cubes groups → AreGrouped p size (take count cubes) (take room groups)
  grouped_take cubes groups count room few enough grouped i below =
      let low : i < count = let s = length-take-le count cubes few in omega arith in
      subst (λ x. IsOf p x (summary_at (take room groups) (i / size))) (sym (cube_kept cubes count i low))
      (subst (λ x. IsOf p (cube_at cubes i) x) (sym (summary_kept groups room (i / size) (in_group i count room low enough))) (grouped i (omega (arith, few, low))))

-- ---- the summaries of the cubes
pub own_push : (p : Protocol) (cubes : List Cube) (summaries : List Summary) (c : Cube) (own : Summary) → length summaries ≡ length cubes
    → ((i : ℕ) → i < length cubes → IsSummary p (cube_at cubes i) (summary_at summaries i)) → IsSummary p c own
    → (i : ℕ) → i < length (cubes ++ c ∷ []) → IsSummary p (cube_at (cubes ++ c ∷ []) i) (summary_at (summaries ++ own ∷ []) i)
own_push p cubes summaries c own sizes each is i below = elim (cases_lt i (length cubes)) [
  | inl less ↦
      let there : summary_at (summaries ++ own ∷ []) i ≡ summary_at summaries i = get_or_append_left summaries (own ∷ []) no_summary i (omega arith) in
      subst (λ x. IsSummary p x (summary_at (summaries ++ own ∷ []) i)) (sym (cube_before cubes c i less)) (subst (λ x. IsSummary p (cube_at cubes i) x) (sym there) (each i less))
  | inr more ↦
      let count = length_push cubes c in
      let last : length cubes ≡ i = omega (arith, below) in
      let there : summary_at (summaries ++ own ∷ []) i ≡ own = get_or_push summaries own no_summary i (sizes ∙ last) in
      subst (λ x. IsSummary p x (summary_at (summaries ++ own ∷ []) i)) (sym (cube_last cubes c i last)) (subst (λ x. IsSummary p c x) (sym there) is)
]

pub own_take : (p : Protocol) (cubes : List Cube) (summaries : List Summary) (count : ℕ) → count ≤ length cubes
    → ((i : ℕ) → i < length cubes → IsSummary p (cube_at cubes i) (summary_at summaries i))
    → (i : ℕ) → i < length (take count cubes) → IsSummary p (cube_at (take count cubes) i) (summary_at (take count summaries) i)
own_take p cubes summaries count few each i below =
    let low : i < count = let s = length-take-le count cubes few in omega arith in
    subst (λ x. IsSummary p x (summary_at (take count summaries) i)) (sym (cube_kept cubes count i low))
    (subst (λ x. IsSummary p (cube_at cubes i) x) (sym (summary_kept summaries count i low)) (each i (omega (arith, few, low))))

-- ---- cubes that some state meets
pub met_push : (p : Protocol) (cubes : List Cube) (c : Cube) (met : ℕ) → met ≤ length cubes → AreMet p cubes met → AreMet p (cubes ++ c ∷ []) met
met_push p cubes c met few known i low below =
    let less : i < length cubes = omega (arith, few, low) in
    subst (λ (x : Cube). IsConsistent p x.width x.lits) (sym (cube_before cubes c i less)) (known i low less)

pub met_take : (p : Protocol) (cubes : List Cube) (count met less : ℕ) → count ≤ length cubes → less ≤ met → AreMet p cubes met → AreMet p (take count cubes) less
met_take p cubes count met less few fewer known i low below =
    let first : i < count = let s = length-take-le count cubes few in omega arith in
    subst (λ (x : Cube). IsConsistent p x.width x.lits) (sym (cube_kept cubes count i first)) (known i (omega (arith, low, fewer)) (omega (arith, first, few)))

-- what was read from the list is what stands there
pub summary_read : (summaries : List Summary) (i : ℕ) (x : Summary) → i < length summaries → x ≡ get_or summaries i x → x ≡ summary_at summaries i
summary_read summaries i x below is = get_or_read summaries i x below is no_summary
