-- Injections as far as they go: one more place, the first places, and what a whole one says.
use Rattle.std.proofs.Common.{◌≡◌, ◌≢◌, ℕ, zero, suc, ◌+◌, ◌<◌, ◌≤◌, Bool, true, false, eqb, List, [], ◌∷◌, ◌++◌, length, get_or, take, set, refl, sym, ap, ◌∙◌, subst, arith, inl, inr, ◌⊎◌}
use Rattle.std.specs.Prelude.{IsTrue, replicate, slice_index, slice_index_or, All, AllPairs, Contains}
use Rattle.std.specs.List.{list_any}
use Rattle.std.proofs.lemmas.Bool.{or_cases, cases_lt, false≢true, true≢false, eqb-true, ne_eqb}
use Rattle.std.proofs.lemmas.List.{take_more, length-take-le, get_or-take, get_or_append_left, get_or_push, length_push, get_or_default, take_all, take_more_set, take-append-le}
use Rattle.std.proofs.Math.ListN.{length-set}
use Rattle.std.proofs.lemmas.Map.Steps.{length-le_from_distinct_below}
use Rattle.std.proofs.lemmas.Map.Keys.{IsDistinct-from_apart}
use Rattle.cub_proto.specs.declared.literal.Lit.{Lit}
use Rattle.cub_proto.specs.declared.protocol.Protocol.{Protocol}
use Rattle.cub_proto.specs.StateOf.{signature_of}
use Rattle.cub_proto.specs.Truth.{is_true}
use Rattle.cub_proto.specs.Fits.{literal_fits}
use Rattle.cub_cube.specs.declared.cube.Cube.{Cube}
use Rattle.cub_cube.specs.Rename.{renamed, along, is_within}
use Rattle.cub_cube.specs.Cover.{Covers, DoesCover}
use Rattle.cub_cube.proofs.Renames.{renamed_true}
use Rattle.cub_cube.proofs.RenamedFits.{fits_within}
use Rattle.cub_base.proofs.Elements.{all_from, from_all}
use Rattle.theory_laws.specs.Entailed.{Entails}
use Rattle.cert_check.specs.Stand.{is_alone, is_joint}
use Rattle.cert_check.specs.Injections.{AloneFollow, IsRow, PlainFollow, JointFollow, IsPartial, cube_of}
use Rattle.cert_check.proofs.Mentioned.{alone_renamed, joint_within, within_cases, take_renamed, fronts_renamed, plain_renamed}

-- each literal fits so many places
abbrev pub AllFit : Protocol → ℕ → List Lit → Type 0
AllFit p n big = All (λ lit. IsTrue (literal_fits (signature_of p) n lit)) big

pub fit_at : (p : Protocol) (n : ℕ) (big : List Lit) → AllFit p n big → (lit : Lit) → Contains big lit → IsTrue (literal_fits (signature_of p) n lit)
fit_at p n big fit lit (k, below, is) = subst (λ l. IsTrue (literal_fits (signature_of p) n l)) is (fit k lit below)

pub within_at : (p : Protocol) (n : ℕ) (big : List Lit) → AllFit p n big → (lit : Lit) → Contains big lit → IsTrue (is_within n lit)
within_at p n big fit lit inside = fits_within (signature_of p) n lit (fit_at p n big fit lit inside)

pub true_unless : (b : Bool) → (b ≡ false → ⊥) → IsTrue b
true_unless true h = refl
true_unless false h = absurd (h refl)

-- ---- one more place
pub all_push : (n : ℕ) (r : List ℕ) (c : ℕ) → All (λ q. q < n) r → c < n → All (λ q. q < n) (r ++ c ∷ [])
all_push n r c all below k d h = elim (cases_lt k (length r)) [
  | inl less ↦ let e = get_or_append_left r (c ∷ []) d k less in let b = all k d less in omega arith
  | inr more ↦
      let size = length_push r c in
      let same : length r ≡ k = omega arith in
      let e = get_or_push r c d k same in
      omega arith
]

pub pairs_push : (r : List ℕ) (c : ℕ) → AllPairs (λ x y. x ≢ y) r → (Contains r c → ⊥) → AllPairs (λ x y. x ≢ y) (r ++ c ∷ [])
pairs_push r c apart free i j d order below same = elim (cases_lt j (length r)) [
  | inl less ↦ apart i j d order less (sym (get_or_append_left r (c ∷ []) d i (omega arith)) ∙ same ∙ get_or_append_left r (c ∷ []) d j less)
  | inr more ↦
      let size = length_push r c in
      let last : length r ≡ j = omega arith in
      let first : i < length r = omega arith in
      let here : get_or r i d ≡ c = sym (get_or_append_left r (c ∷ []) d i first) ∙ same ∙ get_or_push r c d j last in
      free (i, first, get_or_default r i c d first ∙ here)
]

pub replicate_at : (n c k : ℕ) → k < n → slice_index (replicate n c) k ≡ c
replicate_at zero c k below = absurd (omega arith)
replicate_at (suc n) c zero below = refl
replicate_at (suc n) c (suc k) below = replicate_at n c k (omega arith)

module _ (p : Protocol) (big : List Lit) (width : ℕ) (lits : List Lit) where
  pub partial_none : (places : List ℕ) → PlainFollow p big width lits places → IsPartial p big width lits []
  partial_none places plain = record {
    within = λ k d below. absurd (omega arith);
    apart = λ i j d order below. absurd (omega arith);
    follow = λ lit inside h. subst (λ l. Entails p width lits l) (plain_renamed places [] lit h) (plain lit inside h);
  }

  pub partial_more : (r : List ℕ) (c count : ℕ) → IsPartial p big width lits r → c < width → (Contains r c → ⊥) → length r < count → AloneFollow p big width lits count (length r) c
      → ((lit : Lit) → Contains big lit → IsTrue (is_joint (length r) lit) → Entails p width lits (renamed (r ++ c ∷ []) lit)) → IsPartial p big width lits (r ++ c ∷ [])
  partial_more r c count partial below free room alone joint = record {
    within = all_push width r c partial.within below;
    apart = pairs_push r c partial.apart free;
    follow = λ lit inside h. by lit inside (within_cases (length r) lit (subst (λ n. IsTrue (is_within n lit)) (length_push r c) h));
  }
    where
      front : take (length r) (r ++ c ∷ []) ≡ take (length r) r
      front = grind (arith, take-append-le)

      by : (lit : Lit) → Contains big lit → IsTrue (is_within (length r) lit) ⊎ (IsTrue (is_alone (length r) lit) ⊎ IsTrue (is_joint (length r) lit)) → Entails p width lits (renamed (r ++ c ∷ []) lit)
      by lit inside (inl early) =
          let size = length_push r c in
          let same : renamed r lit ≡ renamed (r ++ c ∷ []) lit = fronts_renamed (length r) r (r ++ c ∷ []) lit (omega arith) (omega arith) (sym front) early in
          subst (λ l. Entails p width lits l) same (partial.follow lit inside early)
      by lit inside (inr (inl single)) =
          let at : slice_index (replicate count c) (length r) ≡ slice_index (r ++ c ∷ []) (length r) = replicate_at count c (length r) room ∙ sym (get_or_push r c 0 (length r) refl) in
          subst (λ l. Entails p width lits l) (alone_renamed (length r) (replicate count c) (r ++ c ∷ []) at lit single) (alone lit inside single)
      by lit inside (inr (inr double)) = joint lit inside double

-- ---- what a covering injection says
module _ (p : Protocol) (big : List Lit) (count width : ℕ) (lits : List Lit) (fit : AllFit p count big) (q : List ℕ) (covers : Covers p (cube_of count big) (cube_of width lits) q) where
  pub covers_follow : (lit : Lit) → Contains big lit → Entails p width lits (renamed q lit)
  covers_follow lit inside s places state met =
      renamed_true s q places lit (subst (λ n. IsTrue (is_within n lit)) (sym covers.injection.one_each) (within_at p count big fit lit inside))
      ∙ (let found : IsTrue (is_true s (along q places) lit) =
      subst (λ l. IsTrue (is_true s (along q places) l)) inside.2 (all_from (is_true s (along q places)) big (covers.follows s places state met) inside.0 lit inside.1) in
      found)

  pub covers_plain : (places : List ℕ) → PlainFollow p big width lits places
  covers_plain places lit inside h = subst (λ l. Entails p width lits l) (plain_renamed q places lit h) (covers_follow lit inside)

  pub covers_alone : (k : ℕ) → k < count → AloneFollow p big width lits count k (slice_index q k)
  covers_alone k below lit inside single =
      subst (λ l. Entails p width lits l) (alone_renamed k q (replicate count (slice_index q k)) (sym (replicate_at count (slice_index q k) k below)) lit single) (covers_follow lit inside)

  pub covers_below : (k : ℕ) → k < count → slice_index q k < width
  covers_below k below = covers.injection.within k 0 (let size = covers.injection.one_each in omega arith)

  pub covers_joint : (k : ℕ) (places : List ℕ) → k < count → k < length places → take (k + 1) q ≡ take (k + 1) places → JointFollow p big width lits k places
  covers_joint k places below room same lit inside double =
      subst (λ l. Entails p width lits l)
      (fronts_renamed (k + 1) q places lit (let size = covers.injection.one_each in omega arith) (omega arith) same (joint_within k lit double)) (covers_follow lit inside)

  pub covers_free : (k c : ℕ) (r : List ℕ) → k < count → take k q ≡ r → slice_index q k ≡ c → Contains r c → ⊥
  covers_free k c r below front here (i, less, is) =
      let whole = covers.injection.one_each in
      let size : length r ≡ k = sym (ap length front) ∙ length-take-le k q (omega arith) in
      let at : i < k = omega arith in
      let there : get_or q i 0 ≡ c = sym (get_or-take k q i 0 at) ∙ ap (λ x. get_or x i 0) front ∙ get_or_default r i 0 c less ∙ is in
      covers.injection.apart i k 0 at (omega arith) (there ∙ sym here)

  -- a row with no free place
  pub covers_row : (k : ℕ) (row : List Bool) → k < count → IsRow p big width lits count k row → ((c : ℕ) → c < width → slice_index_or row c false ≡ false) → ⊥
  covers_row k row below is full =
      true≢false (sym ((is (slice_index q k) (covers_below k below)).1 (covers_alone k below)) ∙ full (slice_index q k) (covers_below k below))

  -- the next place of one that begins as places do
  pub covers_next : (k c : ℕ) (places : List ℕ) → k < count → k < length places → take k q ≡ take k places → slice_index q k ≡ c → slice_index places k ≡ c → take (k + 1) q ≡ take (k + 1) places
  covers_next k c places below room front here there =
      let whole = covers.injection.one_each in
      take_more q k 0 (omega arith) ∙ ap (λ x. x ++ get_or q k 0 ∷ []) front ∙ ap (λ x. take k places ++ x ∷ []) (here ∙ sym there) ∙ sym (take_more places k 0 room)

-- ---- what is whole covers
pub partial_covers : (p : Protocol) (big : List Lit) (count width : ℕ) (lits : List Lit) (r : List ℕ) → AllFit p count big → length r ≡ count → IsPartial p big width lits r → Covers p (cube_of count big) (cube_of width lits) r
partial_covers p big count width lits r fit size partial = record {
  injection = record { one_each = size; within = partial.within; apart = partial.apart };
  follows = λ s places state met. from_all (is_true s (along r places)) big (λ k d below.
      let member : Contains big (get_or big k d) = (k, below, get_or_default big k (get_or big k d) d below) in
      let within : IsTrue (is_within (length r) (get_or big k d)) = subst (λ n. IsTrue (is_within n (get_or big k d))) (sym size) (within_at p count big fit (get_or big k d) member) in
      sym (renamed_true s r places (get_or big k d) within) ∙ partial.follow (get_or big k d) member within s places state met);
}

-- the same where all literals follow
pub follow_covers : (p : Protocol) (big : List Lit) (count width : ℕ) (lits : List Lit) (r : List ℕ) → AllFit p count big → length r ≡ count → All (λ q. q < width) r → AllPairs (λ x y. x ≢ y) r
    → ((lit : Lit) → Contains big lit → Entails p width lits (renamed r lit)) → Covers p (cube_of count big) (cube_of width lits) r
follow_covers p big count width lits r fit size within apart follow =
    partial_covers p big count width lits r fit size (record { within = within; apart = apart; follow = λ lit inside h. follow lit inside })

-- ---- a big cube with more places covers no small one
pub too_wide : (p : Protocol) (d c : Cube) → c.width < d.width → DoesCover p d c → ⊥
too_wide p d c more (r, covers) =
    let few : length r ≤ c.width = length-le_from_distinct_below r c.width
    (IsDistinct-from_apart eqb r (λ i j e order below. ne_eqb (get_or r i e) (get_or r j e) (covers.injection.apart i j e order below)))
    (λ q among. let found = any_is_at q r among in let at : get_or r found.0 q < c.width = covers.injection.within found.0 q found.1 in omega (arith, found.2, at)) in
    omega (arith, few, covers.injection.one_each)
  where
    any_is_at : (q : ℕ) (xs : List ℕ) → list_any (eqb q) xs ≡ true → (k : ℕ) × (k < length xs) × (get_or xs k q ≡ q)
    any_is_at q [] h = absurd (false≢true h)
    any_is_at q (x ∷ xs) h = elim (or_cases (eqb q x) (list_any (eqb q) xs) h) [
      | inl here ↦ (0, omega arith, sym (eqb-true q x here))
      | inr later ↦ let found = any_is_at q xs later in (suc found.0, omega (arith, found.1), found.2)
    ]

-- ---- putting place k to place c
module _ (p : Protocol) (big : List Lit) (count width : ℕ) (lits : List Lit) (fit : AllFit p count big) (places : List ℕ) (k c : ℕ) (size : length places ≡ count) (inside : k < count) where
  put_is : take (k + 1) (set places k c) ≡ take k places ++ c ∷ []
  put_is = take_more_set places k c (omega arith)

  front_size : length (take k places) ≡ k
  front_size = length-take-le k places (omega arith)

  pub put_partial : (row : List Bool) → IsRow p big width lits count k row → c < width → IsTrue (slice_index_or row c false) → (Contains (take k places) c → ⊥)
      → IsPartial p big width lits (take k places) → JointFollow p big width lits k (set places k c) → IsPartial p big width lits (take (k + 1) (set places k c))
  put_partial row is below unused free partial joint =
      subst (IsPartial p big width lits) (sym put_is)
      (partial_more p big width lits (take k places) c count partial below free (omega (arith, front_size)) (subst (λ n. AloneFollow p big width lits count n c) (sym front_size) ((is c below).0 unused)) last)
    where
      last : (lit : Lit) → Contains big lit → IsTrue (is_joint (length (take k places)) lit) → Entails p width lits (renamed (take k places ++ c ∷ []) lit)
      last lit member double =
          let at : IsTrue (is_joint k lit) = subst (λ n. IsTrue (is_joint n lit)) front_size double in
          let room : k + 1 ≤ length (set places k c) = (let e = length-set places k c in omega arith) in
          let same : renamed (set places k c) lit ≡ renamed (take k places ++ c ∷ []) lit = take_renamed (k + 1) (set places k c) lit room (joint_within k lit at) ∙ ap (λ x. renamed x lit) put_is in
          subst (λ l. Entails p width lits l) same (joint lit member at)

  -- what a covering injection that puts it so says
  module _ (q : List ℕ) (covers : Covers p (cube_of count big) (cube_of width lits) q) (front : take k q ≡ take k places) (here : slice_index q k ≡ c) where
    pub put_open : (row : List Bool) → IsRow p big width lits count k row → IsTrue (slice_index_or row c false) × (Contains (take k places) c → ⊥)
    put_open row is = (
      (let below : c < width = (let b = covers_below p big count width lits fit q covers k inside in omega arith) in
          (is c below).1 (subst (AloneFollow p big width lits count k) here (covers_alone p big count width lits fit q covers k inside))),
      covers_free p big count width lits fit q covers k c (take k places) inside front here,
    )

    pub put_joint : JointFollow p big width lits k (set places k c)
    put_joint =
        let whole = covers.injection.one_each in
        let next : take (k + 1) q ≡ take (k + 1) (set places k c) =
        take_more q k 0 (omega arith) ∙ ap (λ x. x ++ get_or q k 0 ∷ []) front ∙ ap (λ x. take k places ++ x ∷ []) here ∙ sym put_is in
        covers_joint p big count width lits fit q covers k (set places k c) inside (let e = length-set places k c in omega arith) next

-- ---- going on from a place
-- what was not there before the next place, and does not have it, has a later one
pub tried_more : (Is : List ℕ → Type 0) (places : List ℕ) (k c : ℕ) → ((q : List ℕ) → Is q → take k q ≡ take k places → c ≤ slice_index q k)
    → ((q : List ℕ) → Is q → take k q ≡ take k places → slice_index q k ≡ c → ⊥) → (q : List ℕ) → Is q → take k q ≡ take k places → c + 1 ≤ slice_index q k
tried_more Is places k c tried none q is front = elim (cases_lt c (slice_index q k)) [
  | inl less ↦ omega arith
  | inr more ↦ let at = tried q is front in absurd (none q is front (omega arith))
]

-- where all places are put
pub partial_whole : (p : Protocol) (big : List Lit) (width : ℕ) (lits : List Lit) (k : ℕ) (places : List ℕ) → length places ≤ k → IsPartial p big width lits (take k places) → IsPartial p big width lits places
partial_whole p big width lits k places end partial = subst (IsPartial p big width lits) (take_all k places end) partial
