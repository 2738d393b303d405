-- Searches in parts: what the parts find is what the whole finds, and their tests add up.
use Rattle.std.proofs.Common.{◌≡◌, ℕ, zero, suc, ◌+◌, ◌<◌, ◌≤◌, List, length, Option, Some, None, inl, inr, sym, subst, zero-add, arith}
use Rattle.std.proofs.lemmas.Bool.{cases_lt, cases_eq}
use Rattle.cub_proto.specs.declared.protocol.Protocol.{Protocol}
use Rattle.cub_cube.specs.declared.cube.Cube.{Cube}
use Rattle.cub_cube.specs.Cover.{DoesCover, IsCovered}
use Rattle.std.specs.Prelude.{All, IfNone}
use Rattle.cub_cube.specs.Meaning.{IsConsistent}
use Rattle.subsume.proofs.Retiring.{cube_member}
use Rattle.cover_index.specs.Asked.{AreMet}
use Rattle.log_form.specs.Pieces.{IsAskable}
use Rattle.log_form.specs.Links.{Link, no_cube, cube_at, IsFirstCover, IsFirstUnder}
use Rattle.cover_index.specs.Counted.{AtLeast, RisesIf, RisesFor}

-- ---- counts
pub at_least_from : (P : ℕ → Type 0) (from at upto n : ℕ) → from ≤ at → AtLeast P at upto n → AtLeast P from upto n
at_least_from P from at upto zero less h = tt
at_least_from P from at upto (suc n) less (i, low, high, here, rest) = (i, omega (arith, low, less), high, here, rest)

pub at_least_joined : (P : ℕ → Type 0) (from mid upto n m : ℕ) → from ≤ mid → mid ≤ upto → AtLeast P from mid n → AtLeast P mid upto m → AtLeast P from upto (n + m)
at_least_joined P from mid upto zero m low high first second = subst (AtLeast P from upto) (sym (zero-add m)) (at_least_from P from mid upto m low second)
at_least_joined P from mid upto (suc n) m low high (i, above, below, here, rest) second =
    let e : suc (n + m) ≡ suc n + m = omega arith in
    let more : AtLeast P from upto (suc (n + m)) = (i, above, omega (arith, below, high), here, at_least_joined P (i + 1) mid upto n m (omega (arith, below)) high rest second) in
    subst (AtLeast P from upto) e more

pub rises_none : (P : ℕ → Type 0) (from upto old new : ℕ) → new ≤ old → RisesFor P from upto old new
rises_none P from upto old new stays = (0, tt, omega (arith, stays))

pub rises_one : (P : ℕ → Type 0) (i upto old mid new : ℕ) → i < upto → RisesIf (P i) old mid → RisesFor P (i + 1) upto mid new → RisesFor P i upto old new
rises_one P i upto old mid new below (inl stays) (n, many, most) = (n, at_least_from P i (i + 1) upto n (omega arith) many, omega (arith, stays, most))
rises_one P i upto old mid new below (inr (here, one)) (n, many, most) = (suc n, (i, omega arith, below, here, many), omega (arith, one, most))

pub rises_part : (P : ℕ → Type 0) (from mid upto old between new : ℕ) → from ≤ mid → mid ≤ upto → RisesFor P from mid old between → RisesFor P mid upto between new → RisesFor P from upto old new
rises_part P from mid upto old between new low high (n, many, most) (m, more, least) = (n + m, at_least_joined P from mid upto n m low high many more, omega (arith, most, least))

pub rises_within : (P : ℕ → Type 0) (from mid upto old new : ℕ) → from ≤ mid → mid ≤ upto → RisesFor P from mid old new → RisesFor P from upto old new
rises_within P from mid upto old new low high first = rises_part P from mid upto old new new low high first (rises_none P mid upto new new (omega arith))

-- what passed by, and then the rest
pub rises_from : (P : ℕ → Type 0) (from mid upto old new : ℕ) → from ≤ mid → RisesFor P mid upto old new → RisesFor P from upto old new
rises_from P from mid upto old new low (n, many, most) = (n, at_least_from P from mid upto n low many, most)

-- ---- what is found
pub none_further : (P : ℕ → Type 0) (from mid upto : ℕ) → ((i : ℕ) → from ≤ i → i < mid → P i → ⊥) → ((i : ℕ) → mid ≤ i → i < upto → P i → ⊥) → (i : ℕ) → from ≤ i → i < upto → P i → ⊥
none_further P from mid upto before after i low high = elim (cases_lt i mid) [
  | inl less ↦ before i low less
  | inr more ↦ after i more high
]

-- none of one number alone
pub none_one : (P : ℕ → Type 0) (at : ℕ) → (P at → ⊥) → (i : ℕ) → at ≤ i → i < at + 1 → P i → ⊥
none_one P at none i low high here = let same : i ≡ at = omega arith in none (subst P same here)

module _ (p : Protocol) (cubes : List Cube) (c : Cube) where
  pub cover_further : (from mid upto : ℕ) (r : Option Link) → from ≤ mid → ((i : ℕ) → from ≤ i → i < mid → DoesCover p (cube_at cubes i) c → ⊥) → IsFirstCover p cubes mid upto c r → IsFirstCover p cubes from upto c r
  cover_further from mid upto None less before none = none_further (λ i. DoesCover p (cube_at cubes i) c) from mid upto before none
  cover_further from mid upto (Some link) less before (low, high, covers, none) =
      (omega (arith, low, less), high, covers, none_further (λ i. DoesCover p (cube_at cubes i) c) from mid link.0 before none)

  pub cover_within : (from mid upto : ℕ) (link : Link) → mid ≤ upto → IsFirstCover p cubes from mid c (Some link) → IsFirstCover p cubes from upto c (Some link)
  cover_within from mid upto link less (low, high, covers, none) = (low, omega (arith, high, less), covers, none)

  pub under_further : (from mid upto : ℕ) (r : Option Link) → from ≤ mid → ((i : ℕ) → from ≤ i → i < mid → DoesCover p c (cube_at cubes i) → ⊥) → IsFirstUnder p cubes mid upto c r → IsFirstUnder p cubes from upto c r
  under_further from mid upto None less before none = none_further (λ i. DoesCover p c (cube_at cubes i)) from mid upto before none
  under_further from mid upto (Some link) less before (low, high, covers, none) =
      (omega (arith, low, less), high, covers, none_further (λ i. DoesCover p c (cube_at cubes i)) from mid link.0 before none)

  pub under_within : (from mid upto : ℕ) (link : Link) → mid ≤ upto → IsFirstUnder p cubes from mid c (Some link) → IsFirstUnder p cubes from upto c (Some link)
  under_within from mid upto link less (low, high, covers, none) = (low, omega (arith, high, less), covers, none)

-- a cube of the list may be asked about
pub askable_at : (p : Protocol) (cubes : List Cube) (i : ℕ) → All (IsAskable p) cubes → i < length cubes → IsAskable p (cube_at cubes i)
askable_at p cubes i askable below = askable i no_cube below

-- one more cube that some state meets
pub met_more : (p : Protocol) (cubes : List Cube) (at : ℕ) → AreMet p cubes at → IsConsistent p (cube_at cubes at).width (cube_at cubes at).lits → AreMet p cubes (at + 1)
met_more p cubes at known here i low below = elim (cases_eq i at) [
  | inl same ↦ subst (λ k. IsConsistent p (cube_at cubes k).width (cube_at cubes k).lits) (sym same) here
  | inr other ↦ known i (omega arith) below
]

-- none that is not retired
pub none_live_more : (P R : ℕ → Type 0) (from at : ℕ) → ((i : ℕ) → from ≤ i → i < at → R i → P i → ⊥) → (R at → P at → ⊥) → (i : ℕ) → from ≤ i → i < at + 1 → R i → P i → ⊥
none_live_more P R from at before here i low high free = elim (cases_eq i at) [
  | inl same ↦ λ h. here (subst R same free) (subst P same h)
  | inr other ↦ before i low (omega arith) free
]

-- none before, and none of what is passed over
pub none_live_passed : (P R : ℕ → Type 0) (from at mid : ℕ) → ((i : ℕ) → from ≤ i → i < at → R i → P i → ⊥) → ((i : ℕ) → at ≤ i → i < mid → P i → ⊥) → (i : ℕ) → from ≤ i → i < mid → R i → P i → ⊥
none_live_passed P R from at mid before passed i low high free = elim (cases_lt i at) [
  | inl less ↦ before i low less free
  | inr more ↦ passed i more high
]

-- a cube of the list covers the given one
pub covered_by : (p : Protocol) (cubes : List Cube) (c : Cube) (i : ℕ) → i < length cubes → DoesCover p (cube_at cubes i) c → IsCovered p cubes c
covered_by p cubes c i below covers = (cube_at cubes i, cube_member cubes i below, covers)

-- known of what is before, of what is passed over, and of the part that is looked at
pub known_further : (R N : ℕ → Type 0) (at mid end : ℕ) → ((i : ℕ) → i < at → R i → N i) → ((i : ℕ) → at ≤ i → i < mid → N i) → ((i : ℕ) → mid ≤ i → i < end → R i → N i) → (i : ℕ) → i < end → R i → N i
known_further R N at mid end before passed searched i high which = elim (cases_lt i at) [
  | inl less ↦ before i less which
  | inr more ↦ elim (cases_lt i mid) [
    | inl near ↦ passed i more near
    | inr far ↦ searched i far high which
  ]
]

-- what holds where nothing was found
pub if_none : {A : Type 0} (o : Option A) (X Y : Type 0) → (X → Y) → IfNone o X → IfNone o Y
if_none None X Y f h = f h
if_none (Some x) X Y f h = tt
