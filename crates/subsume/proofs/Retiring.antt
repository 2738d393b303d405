-- Lists of cubes with retired ones: nothing, one more cube, fewer cubes, one more retired cube.
use Rattle.std.proofs.Common.{◌≡◌, ℕ, zero, suc, ◌+◌, ◌-◌, ◌<◌, ◌≤◌, List, [], ◌∷◌, ◌++◌, length, get_or, take, drop, map, set, cond, sym, ap, ◌∙◌, subst, arith, inl, inr}
use Rattle.std.specs.Prelude.{slice_index, All, Contains, nat_lt}
use Rattle.std.proofs.lemmas.Bool.{cases_lt, cases_eq, lt-ltb, le-ltb, cond-true, cond-false}
use Rattle.std.proofs.lemmas.List.{get_or_append_left, get_or_push, get_or-take, length_push, length-take-le, get_or-set_same, get_or-set_other, get_or-map, get_or_default, length-map, get_or_read, get_or-append_right, get_or-drop}
use Rattle.std.proofs.lemmas.List.Elements.{All-append}
use Rattle.cub_proto.specs.declared.protocol.Protocol.{Protocol}
use Rattle.cub_cube.specs.declared.cube.Cube.{Cube}
use Rattle.cub_cube.specs.Cover.{DoesCover, IsCovered}
use Rattle.cub_base.proofs.Mixed.{mix_more}
use Rattle.cub_cube.proofs.Covering.{covers_further}
use Rattle.cub_cube.specs.Rename.{along}
use Rattle.theory_laws.specs.Fitting.{AreFitting}
use Rattle.log_form.specs.Pieces.{IsAskable}
use Rattle.log_form.specs.Links.{cube_at, no_cube}
use Rattle.subsume.specs.Scanned.{Scanned, IsRetiredBy, AreRetired, IsServing}

-- what may be asked about fits the theory
pub askable_fitting : (p : Protocol) (c : Cube) → IsAskable p c → AreFitting p c.width c.lits
askable_fitting p c h = record { narrow = h.narrow; fit = h.fits; bounded = h.bounded }

-- a cube of the list by its number
pub cube_member : (cubes : List Cube) (i : ℕ) → i < length cubes → Contains cubes (cube_at cubes i)
cube_member cubes i below = (i, below, get_or_default cubes i (cube_at cubes i) no_cube below)

pub member_cube : (cubes : List Cube) (d : Cube) → Contains cubes d → (i : ℕ) × (i < length cubes) × (cube_at cubes i ≡ d)
member_cube cubes d (i, below, is) = (i, below, get_or_default cubes i no_cube d below ∙ is)

-- ---- a cube that no unretired one covers is covered by none
module _ (p : Protocol) (cubes : List Cube) (retired : List ℕ) (c : Cube) (covered : AreRetired p cubes retired)
    (none : (i : ℕ) → i < length cubes → slice_index retired i ≡ 0 → DoesCover p (cube_at cubes i) c → ⊥) where
  by_later : (k i : ℕ) → length cubes ≤ i + k → i < length cubes → DoesCover p (cube_at cubes i) c → ⊥
  by_later zero i more below covers = absurd (omega arith)
  by_later (suc k) i more below covers = elim (cases_eq (slice_index retired i) 0) [
    | inl free ↦ none i below free covers
    | inr gone ↦
        let by = slice_index retired i in
        let it : IsRetiredBy p cubes i by = covered i below (omega arith) in
        by_later k by (omega (arith, it.later)) it.inside
        (along it.covers.0 covers.0, covers_further p (cube_at cubes by) (cube_at cubes i) c it.covers.0 covers.0 it.covers.1 covers.1)
  ]

  pub none_covers : IsCovered p cubes c → ⊥
  none_covers (d, inside, covers) =
      let found = member_cube cubes d inside in
      by_later (length cubes) found.0 (omega arith) found.1 (subst (λ x. DoesCover p x c) (sym found.2) covers)

-- ---- one more cube
push_retired : (p : Protocol) (cubes : List Cube) (retired : List ℕ) (c : Cube) → length retired ≡ length cubes → AreRetired p cubes retired → AreRetired p (cubes ++ c ∷ []) (retired ++ 0 ∷ [])
push_retired p cubes retired c sizes covered i below h = elim (cases_lt i (length cubes)) [
  | inl less ↦
      let same : slice_index (retired ++ 0 ∷ []) i ≡ slice_index retired i = get_or_append_left retired (0 ∷ []) 0 i (omega arith) in
      let it : IsRetiredBy p cubes i (slice_index retired i) = covered i less (omega arith) in
      subst (λ by. IsRetiredBy p (cubes ++ c ∷ []) i by) (sym same) (record {
        later = it.later;
        inside = omega (arith, it.inside, length_push cubes c);
        covers = subst (λ x. DoesCover p x (cube_at (cubes ++ c ∷ []) i)) (sym (get_or_append_left cubes (c ∷ []) no_cube (slice_index retired i) it.inside))
            (subst (λ x. DoesCover p (cube_at cubes (slice_index retired i)) x) (sym (get_or_append_left cubes (c ∷ []) no_cube i less)) it.covers);
      })
  | inr more ↦
      let size = length_push cubes c in
      let last : length retired ≡ i = omega arith in
      let none : slice_index (retired ++ 0 ∷ []) i ≡ 0 = get_or_push retired 0 0 i last in
      absurd (omega arith)
]

pub push_serves : (p : Protocol) (s : Scanned) (c : Cube) → length s.retired ≡ length s.cubes → IsServing p s → IsAskable p c → IsServing p (record { cubes = s.cubes ++ c ∷ []; retired = s.retired ++ 0 ∷ [] })
push_serves p s c sizes serves fit = record {
  askable = All-append (IsAskable p) s.cubes (c ∷ []) serves.askable one;
  covered = push_retired p s.cubes s.retired c sizes serves.covered;
}
  where
    one : All (IsAskable p) (c ∷ [])
    one zero d below = fit
    one (suc k) d below = absurd (omega arith)

-- ---- one more retired cube
pub retire_serves : (p : Protocol) (s : Scanned) (number by : ℕ) → length s.retired ≡ length s.cubes → IsServing p s → number < by → by < length s.cubes → DoesCover p (cube_at s.cubes by) (cube_at s.cubes number)
    → IsServing p (record { cubes = s.cubes; retired = set s.retired number by })
retire_serves p s number by sizes serves later inside covers = record { askable = serves.askable; covered = covered }
  where
    covered : AreRetired p s.cubes (set s.retired number by)
    covered i below h = elim (cases_eq i number) [
      | inl same ↦
          let here : slice_index (set s.retired number by) number ≡ by = get_or-set_same s.retired number by 0 (omega arith) in
          let it : IsRetiredBy p s.cubes number by = record { later = later; inside = inside; covers = covers } in
          subst (λ k. IsRetiredBy p s.cubes k (slice_index (set s.retired number by) k)) (sym same) (subst (λ b. IsRetiredBy p s.cubes number b) (sym here) it)
      | inr other ↦
          let there : slice_index (set s.retired number by) i ≡ slice_index s.retired i = get_or-set_other s.retired number i by 0 other in
          subst (λ b. IsRetiredBy p s.cubes i b) (sym there) (serves.covered i below (subst (λ b. 0 < b) there h))
    ]

-- ---- the first cubes
abbrev pub kept_by : ℕ → ℕ → ℕ
kept_by count by = cond (nat_lt by count) by 0

pub cut_serves : (p : Protocol) (s : Scanned) (count : ℕ) → length s.retired ≡ length s.cubes → count ≤ length s.cubes → IsServing p s → IsServing p (record { cubes = take count s.cubes; retired = map (kept_by count) (take count s.retired) })
cut_serves p s count sizes few serves = record { askable = askable; covered = covered }
  where
    size : length (take count s.cubes) ≡ count
    size = length-take-le count s.cubes few

    askable : All (IsAskable p) (take count s.cubes)
    askable k d below = subst (λ x. IsAskable p x) (sym (get_or-take count s.cubes k d (omega (arith, size)))) (serves.askable k d (omega (arith, size)))

    value : (i : ℕ) → i < count → slice_index (map (kept_by count) (take count s.retired)) i ≡ kept_by count (slice_index s.retired i)
    value i below =
        get_or-map (kept_by count) (take count s.retired) i 0 0 (omega (arith, length-take-le count s.retired (omega arith)))
        ∙ ap (kept_by count) (get_or-take count s.retired i 0 below)

    covered : AreRetired p (take count s.cubes) (map (kept_by count) (take count s.retired))
    covered i below h = elim (cases_lt (slice_index s.retired i) count) [
      | inl less ↦
          let i_in : i < count = omega (arith, size) in
          let same : slice_index (map (kept_by count) (take count s.retired)) i ≡ slice_index s.retired i = value i i_in ∙ cond-true _ _ _ (lt-ltb (slice_index s.retired i) count less) in
          let it : IsRetiredBy p s.cubes i (slice_index s.retired i) = serves.covered i (omega arith) (subst (λ b. 0 < b) same h) in
          subst (λ b. IsRetiredBy p (take count s.cubes) i b) (sym same) (record {
            later = it.later;
            inside = omega (arith, size);
            covers = subst (λ x. DoesCover p x (cube_at (take count s.cubes) i)) (sym (get_or-take count s.cubes (slice_index s.retired i) no_cube less))
                (subst (λ x. DoesCover p (cube_at s.cubes (slice_index s.retired i)) x) (sym (get_or-take count s.cubes i no_cube i_in)) it.covers);
          })
      | inr more ↦
          let i_in : i < count = omega (arith, size) in
          let none : slice_index (map (kept_by count) (take count s.retired)) i ≡ 0 = value i i_in ∙ cond-false _ _ _ (le-ltb (slice_index s.retired i) count more) in
          absurd (omega arith)
    ]

-- what none below i has, and i has not, none below i + 1 has
pub none_more : (P : ℕ → Type 0) (from i : ℕ) → ((j : ℕ) → from ≤ j → j < i → P j → ⊥) → (P i → ⊥) → (j : ℕ) → from ≤ j → j < i + 1 → P j → ⊥
none_more P from i before here j low high = elim (cases_eq j i) [
  | inl same ↦ λ h. here (subst P same h)
  | inr other ↦ before j low (omega arith)
]

pub none_retired_more : (P : ℕ → Type 0) (retired : List ℕ) (i : ℕ) → ((j : ℕ) → j < i → slice_index retired j ≡ 0 → P j → ⊥) → (slice_index retired i ≡ 0 → P i → ⊥) → (j : ℕ) → j < i + 1 → slice_index retired j ≡ 0 → P j → ⊥
none_retired_more P retired i before here j high free = elim (cases_eq j i) [
  | inl same ↦ λ h. here (sym (ap (λ k. slice_index retired k) same) ∙ free) (subst P same h)
  | inr other ↦ before j (omega arith) free
]

pub cube_read : (cubes : List Cube) (i : ℕ) (x : Cube) → i < length cubes → x ≡ get_or cubes i x → cube_at cubes i ≡ x
cube_read cubes i x below is = sym (get_or_read cubes i x below is no_cube)

-- one more item of a list that is mapped in place
pub mapped_more : (f : ℕ → ℕ) (old now : List ℕ) (i v : ℕ) → i < length old → now ≡ take i (map f old) ++ drop i old → v ≡ f (get_or now i 0) → set now i v ≡ take (i + 1) (map f old) ++ drop (i + 1) old
mapped_more f old now i v below is value =
    let size : length (map f old) ≡ length old = length-map old f in
    let front : length (take i (map f old)) ≡ i = length-take-le i (map f old) (omega arith) in
    let read : get_or now i 0 ≡ get_or old i 0 =
    ap (λ xs. get_or xs i 0) is ∙ get_or-append_right (take i (map f old)) (drop i old) i i 0 front (omega arith) ∙ get_or-drop i old (i - i) 0 ∙ ap (λ n. get_or old n 0) (let e : i + (i - i) ≡ i = omega arith in e) in
    ap (λ xs. set xs i v) is
    ∙ mix_more (map f old) old i v 0 (omega arith) (sym size) (value ∙ ap f read ∙ sym (get_or-map f old i 0 0 below))
