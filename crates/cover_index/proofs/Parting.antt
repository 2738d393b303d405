-- What is found in a segment is what is found in the part of the list that it shows.
use Rattle.std.proofs.Common.{◌≡◌, ℕ, zero, suc, ◌+◌, ◌-◌, ◌<◌, ◌≤◌, List, length, Some, None, inl, inr, sym, ap, ◌∙◌, subst, arith}
use Rattle.std.specs.Prelude.{slice_index}
use Rattle.std.proofs.lemmas.Bool.{cases_eq}
use Rattle.cub_proto.specs.declared.protocol.Protocol.{Protocol}
use Rattle.cub_cube.specs.declared.cube.Cube.{Cube}
use Rattle.cub_cube.specs.Cover.{DoesCover, CoversLeast, IsCovered}
use Rattle.cub_cube.specs.Meaning.{IsConsistent}
use Rattle.log_form.specs.Pieces.{IsAskable}
use Rattle.log_form.specs.Links.{cube_at, IsFirstCover, IsFirstUnder}
use Rattle.subsume.specs.declared.summary.Summary.{Summary}
use Rattle.subsume.specs.Summary.{IsSummary, IsCandidate}
use Rattle.cover_index.specs.Asked.{summary_at, AreSummed, AreSummedTo, AreMet}
use Rattle.cover_index.specs.Counted.{AtLeast, RisesFor, RisesForCovers, RisesForUnder}
use Rattle.cover_index.specs.Sealed.{Sealed}
use Rattle.cover_index.specs.Stored.{Stored, Shows}
use Rattle.cover_index.proofs.Searching.{askable_at, covered_by}

-- all of a list are its first, as many as there are
pub summed_whole : (p : Protocol) (cubes : List Cube) (summaries : List Summary) (upto : ℕ) → upto ≤ length cubes → AreSummed p cubes summaries → AreSummedTo p upto cubes summaries
summed_whole p cubes summaries upto few summed = record {
  within = few;
  enough = omega (arith, few, summed.one_each);
  askable = λ i low. askable_at p cubes i summed.askable (omega (arith, few, low));
  own = λ i low. summed.own i (omega (arith, few, low));
}

-- ---- counts
pub at_least_along : (P Q : ℕ → Type 0) (base from upto n : ℕ) → ((j : ℕ) → j < upto → P j → Q (base + j)) → AtLeast P from upto n → AtLeast Q (base + from) (base + upto) n
at_least_along P Q base from upto zero each h = tt
at_least_along P Q base from upto (suc n) each (i, low, high, here, rest) =
    let e : base + (i + 1) ≡ base + i + 1 = omega arith in
    (base + i, omega (arith, low), omega (arith, high), each i high here, subst (λ k. AtLeast Q k (base + upto) n) e (at_least_along P Q base (i + 1) upto n each rest))

pub rises_along : (P Q : ℕ → Type 0) (base from upto start end old new : ℕ) → base + from ≡ start → base + upto ≡ end → ((j : ℕ) → j < upto → P j → Q (base + j)) → RisesFor P from upto old new → RisesFor Q start end old new
rises_along P Q base from upto start end old new first last each (n, many, most) =
    (n, subst (λ k. AtLeast Q k end n) first (subst (λ k. AtLeast Q (base + from) k n) last (at_least_along P Q base from upto n each many)), most)

-- ---- a part of a list, and the segment that shows it
module _ (p : Protocol) (stored : Stored) (segment : Sealed) (base upto end : ℕ) (shows : Shows stored base segment) (few : upto ≤ 64) (last : base + upto ≡ end) (within : end ≤ length stored.cubes)
    (cubes : List Cube) (same : cubes ≡ segment.cubes) where
  pub part_cube : (j : ℕ) → j < upto → cube_at cubes j ≡ cube_at stored.cubes (base + j)
  part_cube j low = ap (λ cs. cube_at cs j) same ∙ shows.cubes j (omega (arith, low, few)) (omega (arith, low, last, within))

  pub part_size : upto ≤ length cubes
  part_size = elim (cases_eq upto 0) [
    | inl none ↦ omega (arith, none)
    | inr some ↦
        let h : upto - 1 < length segment.cubes = shows.there (upto - 1) (omega (arith, some, few)) (omega (arith, some, last, within)) in
        let e : length cubes ≡ length segment.cubes = ap (λ cs. length cs) same in
        omega (arith, h, e, some)
  ]

  pub summed_part : (summaries : List Summary) → summaries ≡ segment.summaries → length segment.summaries ≡ length segment.cubes → AreSummed p stored.cubes stored.summaries → AreSummedTo p upto cubes summaries
  summed_part summaries alike one_each summed = record {
    within = part_size;
    enough =
        let e : length summaries ≡ length cubes = ap (λ ss. length ss) alike ∙ one_each ∙ ap (λ cs. length cs) (sym same) in
        omega (arith, e, part_size);
    askable = λ j low. subst (λ (x : Cube). IsAskable p x) (sym (part_cube j low)) (askable_at p stored.cubes (base + j) summed.askable (omega (arith, low, last, within)));
    own = λ j low.
        let there : summary_at summaries j ≡ summary_at stored.summaries (base + j) = ap (λ ss. summary_at ss j) alike ∙ shows.summaries j (omega (arith, low, few)) (omega (arith, low, last, within)) in
        subst (λ (x : Cube). IsSummary p x (summary_at summaries j)) (sym (part_cube j low))
        (subst (λ (s : Summary). IsSummary p (cube_at stored.cubes (base + j)) s) (sym there) (summed.own (base + j) (omega (arith, low, last, within))));
  }

  pub met_part : (met known : ℕ) → known ≤ upto → (0 < known → base + known ≤ met) → AreMet p stored.cubes met → (j : ℕ) → j < known → IsConsistent p (cube_at cubes j).width (cube_at cubes j).lits
  met_part met known less reach are j low =
      subst (λ (x : Cube). IsConsistent p x.width x.lits) (sym (part_cube j (omega (arith, low, less))))
      (are (base + j) (omega (arith, low, reach (omega (arith, low)))) (omega (arith, low, less, last, within)))

  -- no cube of the part, where none of the segment
  pub none_part : (P : Cube → Type 0) (from start i : ℕ) → base + from ≡ start → ((j : ℕ) → from ≤ j → j < upto → P (cube_at cubes j) → ⊥) → start ≤ i → i < end → P (cube_at stored.cubes i) → ⊥
  none_part P from start i first none low high here =
      let e : base + (i - base) ≡ i = omega (arith, first, low) in
      let small : i - base < upto = omega (arith, first, low, high, last) in
      none (i - base) (omega (arith, first, low)) small
      (subst P (sym (part_cube (i - base) small)) (subst (λ k. P (cube_at stored.cubes k)) (sym e) here))

  module _ (c : Cube) (from start : ℕ) (first : base + from ≡ start) where
    pub cover_none : IsFirstCover p cubes from upto c None → IsFirstCover p stored.cubes start end c None
    cover_none none i low high = none_part (λ d. DoesCover p d c) from start i first none low high

    pub cover_some : (i : ℕ) (places : List ℕ) → IsFirstCover p cubes from upto c (Some (i, places)) → IsFirstCover p stored.cubes start end c (Some (base + i, places))
    cover_some i places (low, high, covers, none) = (
      omega (arith, low, first),
      omega (arith, high, last),
      subst (λ (x : Cube). CoversLeast p x c places) (part_cube i high) covers,
      (λ k start_low k_high here.
          let e : base + (k - base) ≡ k = omega (arith, first, start_low) in
          let small : k - base < i = omega (arith, e, k_high) in
          none (k - base) (omega (arith, e, start_low, first)) small
          (subst (λ (x : Cube). DoesCover p x c) (sym (part_cube (k - base) (omega (arith, small, high)))) (subst (λ m. DoesCover p (cube_at stored.cubes m) c) (sym e) here))),
    )

    pub cover_tests : (old new : ℕ) → RisesForCovers p cubes from upto c old new → RisesForCovers p stored.cubes start end c old new
    cover_tests old new rises = rises_along (λ j. IsCandidate p (cube_at cubes j) c) (λ i. IsCandidate p (cube_at stored.cubes i) c) base from upto start end old new first last
        (λ j low h. subst (λ (x : Cube). IsCandidate p x c) (part_cube j low) h) rises

    pub under_none : IsFirstUnder p cubes from upto c None → IsFirstUnder p stored.cubes start end c None
    under_none none i low high = none_part (λ d. DoesCover p c d) from start i first none low high

    pub under_some : (i : ℕ) (places : List ℕ) → IsFirstUnder p cubes from upto c (Some (i, places)) → IsFirstUnder p stored.cubes start end c (Some (base + i, places))
    under_some i places (low, high, covers, none) = (
      omega (arith, low, first),
      omega (arith, high, last),
      subst (λ (x : Cube). CoversLeast p c x places) (part_cube i high) covers,
      (λ k start_low k_high here.
          let e : base + (k - base) ≡ k = omega (arith, first, start_low) in
          let small : k - base < i = omega (arith, e, k_high) in
          none (k - base) (omega (arith, e, start_low, first)) small
          (subst (λ (x : Cube). DoesCover p c x) (sym (part_cube (k - base) (omega (arith, small, high)))) (subst (λ m. DoesCover p c (cube_at stored.cubes m)) (sym e) here))),
    )

    pub under_tests : (old new : ℕ) → RisesForUnder p cubes from upto c old new → RisesForUnder p stored.cubes start end c old new
    under_tests old new rises = rises_along (λ j. IsCandidate p c (cube_at cubes j)) (λ i. IsCandidate p c (cube_at stored.cubes i)) base from upto start end old new first last
        (λ j low h. subst (λ (x : Cube). IsCandidate p c x) (part_cube j low) h) rises

    -- a live cube of the segment is one of the part
    pub none_live_in : (retired : List ℕ) → ((j : ℕ) → from ≤ j → j < upto → slice_index retired (base + j) ≡ 0 → DoesCover p (cube_at cubes j) c → ⊥)
        → (i : ℕ) → start ≤ i → i < end → slice_index retired i ≡ 0 → DoesCover p (cube_at stored.cubes i) c → ⊥
    none_live_in retired none i low high free here =
        let e : base + (i - base) ≡ i = omega (arith, first, low) in
        let small : i - base < upto = omega (arith, e, high, last) in
        none (i - base) (omega (arith, e, low, first)) small (subst (λ k. slice_index retired k ≡ 0) (sym e) free)
        (subst (λ (x : Cube). DoesCover p x c) (sym (part_cube (i - base) small)) (subst (λ k. DoesCover p (cube_at stored.cubes k) c) (sym e) here))

    -- a cube of the segment is one of the list
    pub covered_part : (j : ℕ) × (from ≤ j) × (j < upto) × DoesCover p (cube_at cubes j) c → IsCovered p stored.cubes c
    covered_part (j, low, high, covers) = covered_by p stored.cubes c (base + j) (omega (arith, high, last, within)) (subst (λ (x : Cube). DoesCover p x c) (part_cube j high) covers)
