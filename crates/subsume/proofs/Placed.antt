-- Injections as far as they go: one more place, the first places, and what a whole one says.
use Rattle.std.proofs.Common.{◌≡◌, ◌≢◌, ℕ, zero, suc, ◌+◌, ◌<◌, ◌≤◌, List, [], ◌∷◌, ◌++◌, length, get_or, take, drop, set, true, eqb, refl, sym, ap, ◌∙◌, subst, arith, inl, inr}
use Rattle.std.specs.Prelude.{IsTrue, ◌&&◌, ◌==◌, nat_lt, slice_index, All, AllPairs, Contains}
use Rattle.std.specs.List.{list_all, list_any}
use Rattle.std.proofs.lemmas.Bool.{or_cases, cases_lt, false≢true, eqb-true, ne_eqb}
use Rattle.std.proofs.lemmas.List.{take-append-drop, take_more, length-take-le, get_or-take, get_or_append_left, get_or_push, length_push, get_or_default, take_all, take_more_set, take-take}
use Rattle.std.proofs.lemmas.List.Elements.{Contains-push_cases}
use Rattle.std.proofs.lemmas.Map.Steps.{length-le_from_distinct_below}
use Rattle.std.proofs.lemmas.Map.Keys.{IsDistinct-from_apart}
use Rattle.cub_proto.specs.declared.literal.Lit.{Lit}
use Rattle.cub_proto.specs.declared.protocol.Protocol.{Protocol}
use Rattle.cub_proto.specs.StateOf.{signature_of}
use Rattle.cub_proto.specs.Truth.{is_true}
use Rattle.cub_proto.specs.Fits.{literal_fits}
use Rattle.cub_cube.specs.declared.cube.Cube.{Cube}
use Rattle.cub_cube.specs.Rename.{renamed, along, is_within}
use Rattle.cub_cube.specs.Cover.{Covers, DoesCover, CoversLeast, precedes}
use Rattle.cub_cube.proofs.Renames.{renamed_true}
use Rattle.cub_cube.proofs.RenamedFits.{fits_within}
use Rattle.cub_base.proofs.Bools.{and_left, and_right, less_is, same_is}
use Rattle.cub_base.proofs.Elements.{all_from, from_all}
use Rattle.theory_laws.specs.Entailed.{Entails}
use Rattle.subsume.specs.Injections.{reach, LastFollow, IsPartial, IsWhole}
use Rattle.subsume.proofs.Fronts.{reach_within, within_reach, front_renamed, fits_reach}

-- ---- one more place
all_push : (n : ℕ) (r : List ℕ) (c : ℕ) → All (λ q. q < n) r → c < n → All (λ q. q < n) (r ++ c ∷ [])
all_push n r c all below k d h = elim (cases_lt k (length r)) [
  | inl less ↦ let e = get_or_append_left r (c ∷ []) d k less in let b = all k d less in omega arith
  | inr more ↦
      let size = length_push r c in
      let same : length r ≡ k = omega arith in
      let e = get_or_push r c d k same in
      omega arith
]

pairs_push : (r : List ℕ) (c : ℕ) → AllPairs (λ x y. x ≢ y) r → (Contains r c → ⊥) → AllPairs (λ x y. x ≢ y) (r ++ c ∷ [])
pairs_push r c apart free i j d order below same = elim (cases_lt j (length r)) [
  | inl less ↦ apart i j d order less (sym (get_or_append_left r (c ∷ []) d i (omega arith)) ∙ same ∙ get_or_append_left r (c ∷ []) d j less)
  | inr more ↦
      let size = length_push r c in
      let last : length r ≡ j = omega arith in
      let first : i < length r = omega arith in
      let here : get_or r i d ≡ c = sym (get_or_append_left r (c ∷ []) d i first) ∙ same ∙ get_or_push r c d j last in
      free (i, first, get_or_default r i c d first ∙ here)
]

pub partial_more : (p : Protocol) (lits : List Lit) (small : Cube) (r : List ℕ) (c : ℕ) → IsPartial p lits small r → c < small.width → (Contains r c → ⊥) → LastFollow p lits small (r ++ c ∷ []) → IsPartial p lits small (r ++ c ∷ [])
partial_more p lits small r c partial below free last = record {
  within = all_push small.width r c partial.within below;
  apart = pairs_push r c partial.apart free;
  follow = follow;
}
  where
    follow : (lit : Lit) → Contains lits lit → reach lit ≤ length (r ++ c ∷ []) → Entails p small.width small.lits (renamed (r ++ c ∷ []) lit)
    follow lit inside h = elim (cases_lt (length r) (reach lit)) [
      | inl more ↦ last lit inside (let size = length_push r c in omega arith)
      | inr less ↦
          let same : renamed (r ++ c ∷ []) lit ≡ renamed r lit = front_renamed r (c ∷ []) lit (reach_within (length r) lit less) in
          subst (λ l. Entails p small.width small.lits l) (sym same) (partial.follow lit inside less)
    ]

pub partial_none : (p : Protocol) (lits : List Lit) (small : Cube) → LastFollow p lits small [] → IsPartial p lits small []
partial_none p lits small last = record {
  within = λ k d below. absurd (omega arith);
  apart = λ i j d order below. absurd (omega arith);
  follow = λ lit inside h. last lit inside (omega arith);
}

-- ---- the first places
pub partial_front : (p : Protocol) (lits : List Lit) (small : Cube) (q : List ℕ) (k : ℕ) → k ≤ length q → IsPartial p lits small q → IsPartial p lits small (take k q)
partial_front p lits small q k inside partial = record {
  within = λ i d below.
      let less : i < k = omega (arith, size) in
      subst (λ x. x < small.width) (sym (get_or-take k q i d less)) (partial.within i d (omega arith));
  apart = λ i j d order below same.
      let less : j < k = omega (arith, size) in
      partial.apart i j d order (omega arith) (sym (get_or-take k q i d (omega arith)) ∙ same ∙ get_or-take k q j d less);
  follow = follow;
}
  where
    size : length (take k q) ≡ k
    size = length-take-le k q inside

    follow : (lit : Lit) → Contains lits lit → reach lit ≤ length (take k q) → Entails p small.width small.lits (renamed (take k q) lit)
    follow lit member h =
        let same : renamed q lit ≡ renamed (take k q) lit =
        ap (λ x. renamed x lit) (sym (take-append-drop k q)) ∙ front_renamed (take k q) (drop k q) lit (reach_within (length (take k q)) lit h) in
        subst (λ l. Entails p small.width small.lits l) same (partial.follow lit member (omega (arith, size)))

pub last_from_partial : (p : Protocol) (lits : List Lit) (small : Cube) (r : List ℕ) → IsPartial p lits small r → LastFollow p lits small r
last_from_partial p lits small r partial lit inside h = partial.follow lit inside (omega arith)

-- a whole injection that begins with places and goes on with c: c is free there, and the literals of these places follow
module _ (p : Protocol) (big small : Cube) (q r : List ℕ) (c k : ℕ) (whole : IsWhole p big small q) (below : k < big.width) (front : take k q ≡ r) (here : slice_index q k ≡ c) where
  inside : k < length q
  inside = let size = whole.one_each in omega arith

  pub whole_next : take (k + 1) q ≡ r ++ c ∷ []
  whole_next = take_more q k 0 inside ∙ ap (λ x. x ++ get_or q k 0 ∷ []) front ∙ ap (λ x. r ++ x ∷ []) here

  pub whole_last : LastFollow p big.lits small (r ++ c ∷ [])
  whole_last = subst (λ x. LastFollow p big.lits small x) whole_next
      (last_from_partial p big.lits small (take (k + 1) q) (partial_front p big.lits small q (k + 1) (omega (arith, inside)) whole.partial))

  pub whole_free : Contains r c → ⊥
  whole_free (i, less, is) =
      let size : length r ≡ k = sym (ap length front) ∙ length-take-le k q (omega (arith, inside)) in
      let at : i < k = omega arith in
      let there : get_or q i 0 ≡ c = sym (get_or-take k q i 0 at) ∙ ap (λ x. get_or x i 0) front ∙ get_or_default r i 0 c less ∙ is in
      whole.partial.apart i k 0 at inside (there ∙ sym here)

-- ---- the order of injections
pub precedes_front : (q r : List ℕ) (k : ℕ) → k < length q → k < length r → take k q ≡ take k r → IsTrue (precedes q r) → slice_index q k ≤ slice_index r k
precedes_front [] r k h g front less = absurd (omega arith)
precedes_front (x ∷ xs) [] k h g front less = absurd (omega arith)
precedes_front (x ∷ xs) (y ∷ ys) zero h g front less = elim (or_cases (nat_lt x y) (x == y && precedes xs ys) less) [
  | inl first ↦ let e : x < y = less_is x y first in omega arith
  | inr rest ↦ let e : x ≡ y = same_is x y (and_left (x == y) (precedes xs ys) rest) in omega arith
]
precedes_front (x ∷ xs) (y ∷ ys) (suc k) h g front less =
    let heads : x ≡ y = cc in
    let tails : take k xs ≡ take k ys = cc in
    elim (or_cases (nat_lt x y) (x == y && precedes xs ys) less) [
      | inl first ↦ let e : x < y = less_is x y first in absurd (omega arith)
      | inr rest ↦ precedes_front xs ys k (omega arith) (omega arith) tails (and_right (x == y) (precedes xs ys) rest)
    ]

-- ---- a whole injection is one by which the big cube covers the small one
module _ (p : Protocol) (big small : Cube) (fits : IsTrue (list_all (literal_fits (signature_of p) big.width) big.lits)) where
  lit_fits : (lit : Lit) → Contains big.lits lit → IsTrue (literal_fits (signature_of p) big.width lit)
  lit_fits lit (k, below, is) = subst (λ l. IsTrue (literal_fits (signature_of p) big.width l)) is (all_from (literal_fits (signature_of p) big.width) big.lits fits k lit below)

  within_here : (r : List ℕ) → length r ≡ big.width → (lit : Lit) → Contains big.lits lit → IsTrue (is_within (length r) lit)
  within_here r size lit inside = subst (λ n. IsTrue (is_within n lit)) (sym size) (fits_within (signature_of p) big.width lit (lit_fits lit inside))

  pub covers_whole : (r : List ℕ) → Covers p big small r → IsWhole p big small r
  covers_whole r covers = record {
    one_each = covers.injection.one_each;
    partial = record {
      within = covers.injection.within;
      apart = covers.injection.apart;
      follow = λ lit inside h s places state met.
          renamed_true s r places lit (within_here r covers.injection.one_each lit inside)
          ∙ (let found : IsTrue (is_true s (along r places) lit) =
          subst (λ l. IsTrue (is_true s (along r places) l)) inside.2 (all_from (is_true s (along r places)) big.lits (covers.follows s places state met) inside.0 lit inside.1) in
          found);
    };
  }

  pub whole_covers : (r : List ℕ) → IsWhole p big small r → Covers p big small r
  whole_covers r whole = record {
    injection = record { one_each = whole.one_each; within = whole.partial.within; apart = whole.partial.apart };
    follows = λ s places state met. from_all (is_true s (along r places)) big.lits (λ k d below.
        let member : Contains big.lits (get_or big.lits k d) = (k, below, get_or_default big.lits k (get_or big.lits k d) d below) in
        let within : IsTrue (is_within (length r) (get_or big.lits k d)) = within_here r whole.one_each (get_or big.lits k d) member in
        sym (renamed_true s r places (get_or big.lits k d) within)
        ∙ whole.partial.follow (get_or big.lits k d) member (within_reach (length r) (get_or big.lits k d) within) s places state met);
  }

-- ---- the literals so far
pub last_more : (p : Protocol) (lits : List Lit) (small : Cube) (r : List ℕ) (i : ℕ) (d : Lit) → i < length lits → LastFollow p (take i lits) small r
    → (reach (get_or lits i d) ≡ length r → Entails p small.width small.lits (renamed r (get_or lits i d))) → LastFollow p (take (i + 1) lits) small r
last_more p lits small r i d below before here lit inside h =
    elim (Contains-push_cases (take i lits) (get_or lits i d) lit (subst (λ xs. Contains xs lit) (take_more lits i d below) inside)) [
      | inl early ↦ before lit early h
      | inr same ↦ subst (λ l. Entails p small.width small.lits (renamed r l)) same (here (ap reach same ∙ h))
    ]

-- ---- the big cube's literals fit as many places as they need
pub lits_fit_reach : (p : Protocol) (big : Cube) (lits : List Lit) → lits ≡ big.lits → IsTrue (list_all (literal_fits (signature_of p) big.width) big.lits)
    → (lit : Lit) (n : ℕ) → Contains lits lit → reach lit ≤ n → IsTrue (literal_fits (signature_of p) n lit)
lits_fit_reach p big lits same fits lit n inside h =
    fits_reach (signature_of p) big.width lit n (lit_fits p big big fits lit (subst (λ xs. Contains xs lit) same inside)) h

-- ---- writing a place
pub put_within : (places : List ℕ) (k c n : ℕ) → k < length places → All (λ q. q < n) (take k places) → c < n → All (λ q. q < n) (take (k + 1) (set places k c))
put_within places k c n inside all below = subst (λ r. All (λ q. q < n) r) (sym (take_more_set places k c inside)) (all_push n (take k places) c all below)

pub put_partial : (p : Protocol) (big small : Cube) (lits : List Lit) (places : List ℕ) (k c : ℕ) → lits ≡ big.lits → k < length places → IsPartial p big.lits small (take k places) → c < small.width → (Contains (take k places) c → ⊥)
    → LastFollow p lits small (take (k + 1) (set places k c)) → IsPartial p big.lits small (take (k + 1) (set places k c))
put_partial p big small lits places k c same inside partial below free last =
    let e : take (k + 1) (set places k c) ≡ take k places ++ c ∷ [] = take_more_set places k c inside in
    subst (λ r. IsPartial p big.lits small r) (sym e)
    (partial_more p big.lits small (take k places) c partial below free (subst (λ r. LastFollow p big.lits small r) e (subst (λ xs. LastFollow p xs small (take (k + 1) (set places k c))) same last)))

pub put_none : (p : Protocol) (big small : Cube) (lits : List Lit) (places : List ℕ) (k c : ℕ) → lits ≡ big.lits → k < length places → k < big.width
    → (LastFollow p lits small (take (k + 1) (set places k c)) → ⊥) → (q : List ℕ) → IsWhole p big small q → take k q ≡ take k places → slice_index q k ≡ c → ⊥
put_none p big small lits places k c same inside below none q whole front here =
    let e : take (k + 1) (set places k c) ≡ take k places ++ c ∷ [] = take_more_set places k c inside in
    none (subst (λ xs. LastFollow p xs small (take (k + 1) (set places k c))) (sym same) (subst (λ r. LastFollow p big.lits small r) (sym e) (whole_last p big small q (take k places) c k whole below front here)))

-- ---- going on from a place
-- what was not there before the next place, and does not have it, has a later one
pub tried_more : (p : Protocol) (big small : Cube) (places : List ℕ) (k c : ℕ) → ((q : List ℕ) → IsWhole p big small q → take k q ≡ take k places → c ≤ slice_index q k)
    → ((q : List ℕ) → IsWhole p big small q → take k q ≡ take k places → slice_index q k ≡ c → ⊥) → (q : List ℕ) → IsWhole p big small q → take k q ≡ take k places → c + 1 ≤ slice_index q k
tried_more p big small places k c tried none q whole front = elim (cases_lt c (slice_index q k)) [
  | inl less ↦ omega arith
  | inr more ↦ let at = tried q whole front in absurd (none q whole front (omega arith))
]

-- the whole that begins with c is the least where none has a lesser place here
pub least_here : (p : Protocol) (big small : Cube) (old new : List ℕ) (k c : ℕ) → k < big.width → big.width ≤ length new → take k new ≡ take k old → slice_index new k ≡ c
    → ((q : List ℕ) → IsWhole p big small q → take k q ≡ take k old → c ≤ slice_index q k)
    → ((q : List ℕ) → IsWhole p big small q → take k q ≡ take k old → slice_index q k ≡ c → IsTrue (precedes q (take big.width new)) → ⊥)
    → (q : List ℕ) → IsWhole p big small q → take k q ≡ take k old → IsTrue (precedes q (take big.width new)) → ⊥
least_here p big small old new k c below room front here tried least q whole same less =
    let size : length (take big.width new) ≡ big.width = length-take-le big.width new room in
    let fronts : take k q ≡ take k (take big.width new) = same ∙ sym front ∙ sym (take-take k big.width new (omega arith)) in
    let at : slice_index q k ≤ slice_index (take big.width new) k = precedes_front q (take big.width new) k (omega (arith, whole.one_each)) (omega arith) fronts less in
    let value : slice_index (take big.width new) k ≡ slice_index new k = get_or-take big.width new k 0 below in
    let low : c ≤ slice_index q k = tried q whole same in
    least q whole same (omega arith) less

-- after the last place
pub none_left : (p : Protocol) (big small : Cube) (places : List ℕ) (k c : ℕ) → k < big.width → small.width ≤ c → ((q : List ℕ) → IsWhole p big small q → take k q ≡ take k places → c ≤ slice_index q k)
    → (q : List ℕ) → IsWhole p big small q → take k q ≡ take k places → ⊥
none_left p big small places k c below over tried q whole front =
    let at : slice_index q k < small.width = whole.partial.within k 0 (omega (arith, whole.one_each)) in
    omega (arith, at, tried q whole front)

precedes_itself : (xs : List ℕ) → IsTrue (precedes xs xs) → ⊥
precedes_itself [] h = false≢true h
precedes_itself (x ∷ xs) h = elim (or_cases (nat_lt x x) (x == x && precedes xs xs) h) [
  | inl less ↦ let e : x < x = less_is x x less in omega arith
  | inr rest ↦ precedes_itself xs (and_right (x == x) (precedes xs xs) rest)
]

-- where all places are put, there is one whole that begins so
pub only_whole : (p : Protocol) (big small : Cube) (places : List ℕ) (k : ℕ) → k ≡ big.width → (q : List ℕ) → IsWhole p big small q → take k q ≡ take k places → IsTrue (precedes q (take big.width places)) → ⊥
only_whole p big small places k same q whole front less =
    let all : take k q ≡ q = take_all k q (omega (arith, whole.one_each)) in
    let e : q ≡ take big.width places = sym all ∙ front ∙ ap (λ n. take n places) same in
    precedes_itself (take big.width places) (subst (λ x. IsTrue (precedes x (take big.width places))) e less)

-- ---- the least of all
pub least_covers : (p : Protocol) (big small : Cube) → IsTrue (list_all (literal_fits (signature_of p) big.width) big.lits) → (places : List ℕ) → big.width ≤ length places
    → IsPartial p big.lits small (take big.width places) → ((q : List ℕ) → IsWhole p big small q → take 0 q ≡ [] → IsTrue (precedes q (take big.width places)) → ⊥) → CoversLeast p big small (take big.width places)
least_covers p big small fits places room partial least = record {
  covers = whole_covers p big small fits (take big.width places) (record { one_each = length-take-le big.width places room; partial = partial });
  least = λ q covers less. least q (covers_whole p big small fits q covers) refl less;
}

-- a big cube with more places covers no small one
pub too_wide : (p : Protocol) (big small : Cube) → small.width < big.width → DoesCover p big small → ⊥
too_wide p big small more (r, covers) =
    let few : length r ≤ small.width = length-le_from_distinct_below r small.width
    (IsDistinct-from_apart eqb r (λ i j d order below. ne_eqb (get_or r i d) (get_or r j d) (covers.injection.apart i j d order below)))
    (λ q among. let found = any_is_at q r among in let at : get_or r found.0 q < small.width = covers.injection.within found.0 q found.1 in omega (arith, found.2, at)) in
    omega (arith, few, covers.injection.one_each)
  where
    any_is_at : (q : ℕ) (xs : List ℕ) → list_any (eqb q) xs ≡ true → (k : ℕ) × (k < length xs) × (get_or xs k q ≡ q)
    any_is_at q [] h = absurd (false≢true h)
    any_is_at q (x ∷ xs) h = elim (or_cases (eqb q x) (list_any (eqb q) xs) h) [
      | inl here ↦ (0, omega arith, sym (eqb-true q x here))
      | inr later ↦ let found = any_is_at q xs later in (suc found.0, omega (arith, found.1), found.2)
    ]

-- a whole that has c next begins as places do that have c next
pub same_next : (p : Protocol) (big small : Cube) (q old new : List ℕ) (k c : ℕ) → IsWhole p big small q → k < big.width → take k q ≡ take k old → slice_index q k ≡ c
    → k < length new → take k new ≡ take k old → slice_index new k ≡ c → take (k + 1) q ≡ take (k + 1) new
same_next p big small q old new k c whole below front here inside kept there =
    whole_next p big small q (take k old) c k whole below front here
    ∙ sym (take_more new k 0 inside ∙ ap (λ xs. xs ++ get_or new k 0 ∷ []) kept ∙ ap (λ x. take k old ++ x ∷ []) there)
