-- Segments that show cubes: what is read from them, and how they change.
use Rattle.std.proofs.Common.{◌≡◌, ℕ, zero, suc, ◌+◌, ◌-◌, ◌*◌, ◌/◌, ◌%◌, ◌<◌, ◌≤◌, List, [], ◌∷◌, ◌++◌, length, take, map, set, refl, inl, inr, sym, ap, ◌∙◌, subst, arith, lit<}
use Rattle.std.specs.List.{range_with_len}
use Rattle.std.proofs.lemmas.Bool.{cases_eq}
use Rattle.std.proofs.lemmas.Nat.{div_below}
use Rattle.std.proofs.lemmas.List.{get_or_append_left, get_or_push, get_or-take, length-take, length-take-le, get_or-set_same, get_or-set_other, length-set, length_push}
use Rattle.std.proofs.lemmas.List.FromFn.{length-map-range_with_len, take-map-range_with_len, get_or-map-range_with_len, map-range_with_len_more}
use Rattle.cub_cube.specs.declared.cube.Cube.{Cube}
use Rattle.log_form.specs.Links.{cube_at, no_cube}
use Rattle.subsume.specs.declared.summary.Summary.{Summary}
use Rattle.cover_index.specs.Asked.{summary_at, no_summary}
use Rattle.cover_index.specs.Sealed.{Sealed, no_segment}
use Rattle.cover_index.specs.Stored.{segment_at, shown_cube, shown_summary, shown, HoldsShown, IsStillShown, Shows}

-- lists that are made by number
module _ {X : Type 0} (f g : ℕ → X) where
  pub alike : (a n : ℕ) → ((i : ℕ) → a ≤ i → i < a + n → f i ≡ g i) → map f (range_with_len a n) ≡ map g (range_with_len a n)
  alike a zero same = refl
  alike a (suc n) same =
      ap (λ x. x ∷ map f (range_with_len (a + 1) n)) (same a (omega arith) (omega arith))
      ∙ ap (λ xs. g a ∷ xs) (alike (a + 1) n (λ i low high. same i (omega (arith, low)) (omega (arith, high))))

-- ---- what is shown
module _ (segments : List Sealed) (count : ℕ) where
  pub cubes_size : length (shown segments count).cubes ≡ count
  cubes_size = length-map-range_with_len (shown_cube segments) 0 count

  pub summaries_size : length (shown segments count).summaries ≡ count
  summaries_size = length-map-range_with_len (shown_summary segments) 0 count

  pub cube_is : (i : ℕ) → i < count → cube_at (shown segments count).cubes i ≡ shown_cube segments i
  cube_is i below = get_or-map-range_with_len (shown_cube segments) 0 count i i no_cube below (omega arith)

  pub summary_is : (i : ℕ) → i < count → summary_at (shown segments count).summaries i ≡ shown_summary segments i
  summary_is i below = get_or-map-range_with_len (shown_summary segments) 0 count i i no_summary below (omega arith)

  pub segment_below : (i : ℕ) → i < count → count ≤ 64 * length segments → i / 64 < length segments
  segment_below i below enough = div_below i 64 (length segments) (lit< tt) (omega (arith, below, enough))

  -- the segment of a cube, by its places
  pub shows : (number base : ℕ) → number < count → base + number % 64 ≡ number → HoldsShown segments count → Shows (shown segments count) base (segment_at segments (number / 64))
  shows number base below from holds = record { there = there; cubes = cubes; summaries = summaries }
    where
      quotient : (j : ℕ) → j < 64 → (base + j) / 64 ≡ number / 64
      quotient j small = omega (arith, from, small)

      rest : (j : ℕ) → j < 64 → (base + j) % 64 ≡ j
      rest j small = omega (arith, from, small)

      low : (j : ℕ) → base + j < length (shown segments count).cubes → base + j < count
      low j less = omega (arith, less, cubes_size)

      there : (j : ℕ) → j < 64 → base + j < length (shown segments count).cubes → j < length (segment_at segments (number / 64)).cubes
      there j small less =
          subst (λ k. k < length (segment_at segments (number / 64)).cubes) (rest j small)
          (subst (λ q. (base + j) % 64 < length (segment_at segments q).cubes) (quotient j small) (holds (base + j) (low j less)))

      cubes : (j : ℕ) → j < 64 → base + j < length (shown segments count).cubes → cube_at (segment_at segments (number / 64)).cubes j ≡ cube_at (shown segments count).cubes (base + j)
      cubes j small less =
          ap (λ q. cube_at (segment_at segments q).cubes j) (sym (quotient j small))
          ∙ ap (λ k. cube_at (segment_at segments ((base + j) / 64)).cubes k) (sym (rest j small))
          ∙ sym (cube_is (base + j) (low j less))

      summaries : (j : ℕ) → j < 64 → base + j < length (shown segments count).cubes → summary_at (segment_at segments (number / 64)).summaries j ≡ summary_at (shown segments count).summaries (base + j)
      summaries j small less =
          ap (λ q. summary_at (segment_at segments q).summaries j) (sym (quotient j small))
          ∙ ap (λ k. summary_at (segment_at segments ((base + j) / 64)).summaries k) (sym (rest j small))
          ∙ sym (summary_is (base + j) (low j less))

-- ---- other segments that show the same
pub same_shown : (old new : List Sealed) (count : ℕ) → IsStillShown old new count → shown new count ≡ shown old count
same_shown old new count still = λ i. record {
  cubes = alike (shown_cube new) (shown_cube old) 0 count (λ k low high. still.cubes k (omega (arith, high))) i;
  summaries = alike (shown_summary new) (shown_summary old) 0 count (λ k low high. still.summaries k (omega (arith, high))) i;
}

pub still_itself : (segments : List Sealed) (count : ℕ) → HoldsShown segments count → IsStillShown segments segments count
still_itself segments count holds = record { more = omega arith; holds = holds; cubes = λ i below. refl; summaries = λ i below. refl }

-- one more segment
pub still_push : (old : List Sealed) (s : Sealed) (count : ℕ) → count ≤ 64 * length old → HoldsShown old count → IsStillShown old (old ++ s ∷ []) count
still_push old s count enough holds = record {
  more = omega (arith, length_push old s);
  holds = λ i below. subst (λ x. i % 64 < length x.cubes) (sym (before i below)) (holds i below);
  cubes = λ i below. ap (λ x. cube_at x.cubes (i % 64)) (before i below);
  summaries = λ i below. ap (λ x. summary_at x.summaries (i % 64)) (before i below);
}
  where
    before : (i : ℕ) → i < count → segment_at (old ++ s ∷ []) (i / 64) ≡ segment_at old (i / 64)
    before i below = get_or_append_left old (s ∷ []) no_segment (i / 64) (segment_below old count i below enough)

-- a segment in which the next cube comes has room
pub room_push : (old : List Sealed) (count : ℕ) → count ≤ 64 * length old → length old ≤ count / 64 → length (segment_at (old ++ no_segment ∷ []) (count / 64)).cubes ≡ count % 64
room_push old count enough last =
    let e : length old ≡ count / 64 = omega (arith, enough, last) in
    let r : 0 ≡ count % 64 = omega (arith, enough, last) in
    ap (λ x. length x.cubes) (get_or_push old no_segment no_segment (count / 64) e) ∙ r

-- the last segment with the shown cubes alone
module _ (old : List Sealed) (s : Sealed) (count : ℕ) (below : count / 64 < length old) (holds : HoldsShown old count) where
  pub used_there : count % 64 ≤ length (segment_at old (count / 64)).cubes
  used_there = elim (cases_eq (count % 64) 0) [
    | inl none ↦ omega (arith, none)
    | inr some ↦
        let q : (count - 1) / 64 ≡ count / 64 = omega (arith, some) in
        let r : (count - 1) % 64 + 1 ≡ count % 64 = omega (arith, some) in
        let h : (count - 1) % 64 < length (segment_at old (count / 64)).cubes = subst (λ k. (count - 1) % 64 < length (segment_at old k).cubes) q (holds (count - 1) (omega (arith, some))) in
        omega (arith, h, r)
  ]

  at : ℕ
  at = count / 64

  other_there : (i : ℕ) → (i / 64 ≡ count / 64 → ⊥) → segment_at (set old (count / 64) s) (i / 64) ≡ segment_at old (i / 64)
  other_there i other = get_or-set_other old (count / 64) (i / 64) s no_segment other

  same_there : (i : ℕ) → i / 64 ≡ count / 64 → segment_at (set old (count / 64) s) (i / 64) ≡ s
  same_there i same = ap (λ k. segment_at (set old (count / 64) s) k) same ∙ get_or-set_same old (count / 64) s no_segment below

  module _ (cubes : s.cubes ≡ take (count % 64) (segment_at old (count / 64)).cubes) (summaries : s.summaries ≡ take (count % 64) (segment_at old (count / 64)).summaries) where
    pub room_kept : length (segment_at (set old (count / 64) s) (count / 64)).cubes ≡ count % 64
    room_kept = ap (λ x. length x.cubes) (same_there count refl) ∙ ap (λ xs. length xs) cubes ∙ length-take-le (count % 64) (segment_at old (count / 64)).cubes used_there

    pub still_kept : IsStillShown old (set old (count / 64) s) count
    still_kept = record { more = omega (arith, length-set old (count / 64) s); holds = holds_new; cubes = cubes_new; summaries = summaries_new }
      where
        low : (i : ℕ) → i < count → i / 64 ≡ count / 64 → i % 64 < count % 64
        low i less same = omega (arith, less, same)

        holds_new : HoldsShown (set old (count / 64) s) count
        holds_new i less = elim (cases_eq (i / 64) (count / 64)) [
          | inl same ↦
              let size : length s.cubes ≡ count % 64 = ap (λ xs. length xs) cubes ∙ length-take-le (count % 64) (segment_at old (count / 64)).cubes used_there in
              subst (λ x. i % 64 < length x.cubes) (sym (same_there i same)) (omega (arith, size, low i less same))
          | inr other ↦ subst (λ x. i % 64 < length x.cubes) (sym (other_there i other)) (holds i less)
        ]

        cubes_new : (i : ℕ) → i < count → shown_cube (set old (count / 64) s) i ≡ shown_cube old i
        cubes_new i less = elim (cases_eq (i / 64) (count / 64)) [
          | inl same ↦
              ap (λ x. cube_at x.cubes (i % 64)) (same_there i same)
              ∙ ap (λ xs. cube_at xs (i % 64)) cubes
              ∙ get_or-take (count % 64) (segment_at old (count / 64)).cubes (i % 64) no_cube (low i less same)
              ∙ ap (λ k. cube_at (segment_at old k).cubes (i % 64)) (sym same)
          | inr other ↦ ap (λ x. cube_at x.cubes (i % 64)) (other_there i other)
        ]

        summaries_new : (i : ℕ) → i < count → shown_summary (set old (count / 64) s) i ≡ shown_summary old i
        summaries_new i less = elim (cases_eq (i / 64) (count / 64)) [
          | inl same ↦
              ap (λ x. summary_at x.summaries (i % 64)) (same_there i same)
              ∙ ap (λ xs. summary_at xs (i % 64)) summaries
              ∙ get_or-take (count % 64) (segment_at old (count / 64)).summaries (i % 64) no_summary (low i less same)
              ∙ ap (λ k. summary_at (segment_at old k).summaries (i % 64)) (sym same)
          | inr other ↦ ap (λ x. summary_at x.summaries (i % 64)) (other_there i other)
        ]

  -- ---- one more cube
  module _ (c : Cube) (own : Summary) (room : length (segment_at old (count / 64)).cubes ≡ count % 64) (one_each : length (segment_at old (count / 64)).summaries ≡ length (segment_at old (count / 64)).cubes)
      (cubes : s.cubes ≡ (segment_at old (count / 64)).cubes ++ c ∷ []) (summaries : s.summaries ≡ (segment_at old (count / 64)).summaries ++ own ∷ []) where
    pub holds_more : HoldsShown (set old (count / 64) s) (count + 1)
    holds_more i less = elim (cases_eq (i / 64) (count / 64)) [
      | inl same ↦
          let size : length s.cubes ≡ count % 64 + 1 = ap (λ xs. length xs) cubes ∙ length_push (segment_at old (count / 64)).cubes c ∙ ap (λ n. n + 1) room in
          subst (λ x. i % 64 < length x.cubes) (sym (same_there i same)) (omega (arith, size, less, same))
      | inr other ↦ subst (λ x. i % 64 < length x.cubes) (sym (other_there i other)) (holds i (omega (arith, less, other)))
    ]

    cube_before : (i : ℕ) → i < count → shown_cube (set old (count / 64) s) i ≡ shown_cube old i
    cube_before i less = elim (cases_eq (i / 64) (count / 64)) [
      | inl same ↦
          ap (λ x. cube_at x.cubes (i % 64)) (same_there i same)
          ∙ ap (λ xs. cube_at xs (i % 64)) cubes
          ∙ get_or_append_left (segment_at old (count / 64)).cubes (c ∷ []) no_cube (i % 64) (omega (arith, less, same, room))
          ∙ ap (λ k. cube_at (segment_at old k).cubes (i % 64)) (sym same)
      | inr other ↦ ap (λ x. cube_at x.cubes (i % 64)) (other_there i other)
    ]

    summary_before : (i : ℕ) → i < count → shown_summary (set old (count / 64) s) i ≡ shown_summary old i
    summary_before i less = elim (cases_eq (i / 64) (count / 64)) [
      | inl same ↦
          ap (λ x. summary_at x.summaries (i % 64)) (same_there i same)
          ∙ ap (λ xs. summary_at xs (i % 64)) summaries
          ∙ get_or_append_left (segment_at old (count / 64)).summaries (own ∷ []) no_summary (i % 64) (omega (arith, less, same, room, one_each))
          ∙ ap (λ k. summary_at (segment_at old k).summaries (i % 64)) (sym same)
      | inr other ↦ ap (λ x. summary_at x.summaries (i % 64)) (other_there i other)
    ]

    cube_last : shown_cube (set old (count / 64) s) count ≡ c
    cube_last =
        ap (λ x. cube_at x.cubes (count % 64)) (same_there count refl)
        ∙ ap (λ xs. cube_at xs (count % 64)) cubes
        ∙ get_or_push (segment_at old (count / 64)).cubes c no_cube (count % 64) room

    summary_last : shown_summary (set old (count / 64) s) count ≡ own
    summary_last =
        ap (λ x. summary_at x.summaries (count % 64)) (same_there count refl)
        ∙ ap (λ xs. summary_at xs (count % 64)) summaries
        ∙ get_or_push (segment_at old (count / 64)).summaries own no_summary (count % 64) (one_each ∙ room)

    pub shown_more : shown (set old (count / 64) s) (count + 1) ≡ record { cubes = (shown old count).cubes ++ c ∷ []; summaries = (shown old count).summaries ++ own ∷ [] }
    shown_more = λ i. record {
      cubes = (map-range_with_len_more (shown_cube (set old (count / 64) s)) 0 count count (omega arith)
          ∙ ap (λ xs. xs ++ shown_cube (set old (count / 64) s) count ∷ []) (alike (shown_cube (set old (count / 64) s)) (shown_cube old) 0 count (λ k low high. cube_before k (omega (arith, high))))
          ∙ ap (λ x. (shown old count).cubes ++ x ∷ []) cube_last) i;
      summaries = (map-range_with_len_more (shown_summary (set old (count / 64) s)) 0 count count (omega arith)
          ∙ ap (λ xs. xs ++ shown_summary (set old (count / 64) s) count ∷ []) (alike (shown_summary (set old (count / 64) s)) (shown_summary old) 0 count (λ k low high. summary_before k (omega (arith, high))))
          ∙ ap (λ x. (shown old count).summaries ++ x ∷ []) summary_last) i;
    }

-- ---- the first cubes
module _ (old : List Sealed) (count less groups : ℕ) (fewer : less ≤ count) (room : less ≤ 64 * groups) where
  kept : (i : ℕ) → i < less → segment_at (take groups old) (i / 64) ≡ segment_at old (i / 64)
  kept i low = get_or-take groups old (i / 64) no_segment (div_below i 64 groups (lit< tt) (omega (arith, low, room)))

  pub room_cut : count ≤ 64 * length old → less ≤ 64 * length (take groups old)
  room_cut enough = let size = length-take groups old in omega (arith, size, enough, fewer, room)

  pub holds_cut : HoldsShown old count → HoldsShown (take groups old) less
  holds_cut holds i low = subst (λ x. i % 64 < length x.cubes) (sym (kept i low)) (holds i (omega (arith, low, fewer)))

  pub shown_cut : shown (take groups old) less ≡ record { cubes = take less (shown old count).cubes; summaries = take less (shown old count).summaries }
  shown_cut = λ i. record {
    cubes = (alike (shown_cube (take groups old)) (shown_cube old) 0 less (λ k low high. ap (λ x. cube_at x.cubes (k % 64)) (kept k (omega (arith, high)))) ∙ sym (take-map-range_with_len (shown_cube old) 0 count less fewer)) i;
    summaries = (alike (shown_summary (take groups old)) (shown_summary old) 0 less (λ k low high. ap (λ x. summary_at x.summaries (k % 64)) (kept k (omega (arith, high)))) ∙ sym (take-map-range_with_len (shown_summary old) 0 count less fewer)) i;
  }
