-- Links: the first covers of two ranges together, in a longer list, and after an event.
use Rattle.std.proofs.Common.{◌≡◌, ◌⊎◌, ℕ, ◌<◌, ◌≤◌, Bool, true, false, List, refl, sym, subst, arith, inl, inr}
use Rattle.std.specs.Prelude.{Option, Some, None}
use Rattle.std.proofs.lemmas.Bool.{cases_lt}
use Rattle.cub_proto.specs.declared.protocol.Protocol.{Protocol}
use Rattle.cub_cube.specs.declared.cube.Cube.{Cube}
use Rattle.cub_cube.specs.Cover.{DoesCover, CoversLeast}
use Rattle.cub_cube.proofs.Covering.{least_same}
use Rattle.log_form.specs.declared.node.Fate.{Fate}
use Rattle.log_form.specs.declared.node.Fate.TheVariants.{Waiting, Done, Covered}
use Rattle.log_form.specs.Links.{Link, cube_at, IsFirstCover}
use Rattle.log_form.specs.Fates.{link_of, fate_after}

-- the first link, or else the second
abbrev pub or_else : Option Link → Option Link → Option Link
or_else (Some link) other = Some link
or_else None other = other

pub joined_ranges : (p : Protocol) (cubes : List Cube) (from mid upto : ℕ) (c : Cube) (before link : Option Link) → from ≤ mid → mid ≤ upto
    → IsFirstCover p cubes from mid c before → IsFirstCover p cubes mid upto c link → IsFirstCover p cubes from upto c (or_else before link)
joined_ranges p cubes from mid upto c (Some old) link le up (low, high, least, none) second = (low, omega arith, least, none)
joined_ranges p cubes from mid upto c None None le up first second = λ i low high. by i low high (cases_lt i mid)
  where
    by : (i : ℕ) → from ≤ i → i < upto → (i < mid) ⊎ (mid ≤ i) → DoesCover p (cube_at cubes i) c → ⊥
    by i low high (inl below) = first i low below
    by i low high (inr above) = second i above high
joined_ranges p cubes from mid upto c None (Some new) le up first (low, high, least, none) = (omega arith, high, least, λ i from_low below. by i from_low below (cases_lt i mid))
  where
    by : (i : ℕ) → from ≤ i → i < new.0 → (i < mid) ⊎ (mid ≤ i) → DoesCover p (cube_at cubes i) c → ⊥
    by i from_low below (inl less) = first i from_low less
    by i from_low below (inr above) = none i above below

-- in a list whose cubes up to the end of the range are the same
pub in_front : (p : Protocol) (xs ys : List Cube) (from upto : ℕ) (c : Cube) (link : Option Link) → ((i : ℕ) → i < upto → cube_at xs i ≡ cube_at ys i)
    → IsFirstCover p xs from upto c link → IsFirstCover p ys from upto c link
in_front p xs ys from upto c None same h = λ i low high covers. h i low high (subst (λ d. DoesCover p d c) (sym (same i high)) covers)
in_front p xs ys from upto c (Some link) same (low, high, least, none) = (
  low,
  high,
  subst (λ d. CoversLeast p d c link.1) (same link.0 high) least,
  λ i from_low below covers. none i from_low below (subst (λ d. DoesCover p d c) (sym (same i (omega arith))) covers),
)

-- there is one first cover
pub one_first : (p : Protocol) (cubes : List Cube) (from upto : ℕ) (c : Cube) (a b : Option Link) → IsFirstCover p cubes from upto c a → IsFirstCover p cubes from upto c b → a ≡ b
one_first p cubes from upto c None None h k = refl
one_first p cubes from upto c None (Some link) h (low, high, least, none) = absurd (h link.0 low high (link.1, least.covers))
one_first p cubes from upto c (Some link) None (low, high, least, none) k = absurd (k link.0 low high (link.1, least.covers))
one_first p cubes from upto c (Some link) (Some other) (low, high, least, none) (low', high', least', none') = by (cases_lt link.0 other.0) (cases_lt other.0 link.0)
  where
    same_places : link.0 ≡ other.0 → link.1 ≡ other.1
    same_places e = least_same p (cube_at cubes other.0) c link.1 other.1 (subst (λ n. CoversLeast p (cube_at cubes n) c link.1) e least) least'

    by : (link.0 < other.0) ⊎ (other.0 ≤ link.0) → (other.0 < link.0) ⊎ (link.0 ≤ other.0) → Some link ≡ Some other
    by (inl less) more = absurd (none' link.0 low less (link.1, least.covers))
    by (inr ge) (inl less) = absurd (none other.0 low' less (other.1, least'.covers))
    by (inr ge) (inr le) = let e : link.0 ≡ other.0 = omega arith in let f = same_places e in λ i. Some (e i, f i)

-- ---- fates after an event
pub link_after : (fate : Fate) (link : Option Link) (expanded : Bool) → link_of (fate_after fate link expanded) ≡ or_else (link_of fate) link
link_after (Covered by places) link expanded = refl
link_after Waiting (Some link) expanded = refl
link_after Waiting None true = refl
link_after Waiting None false = refl
link_after Done (Some link) expanded = refl
link_after Done None expanded = refl

pub done_after : (fate : Fate) (link : Option Link) (expanded : Bool) → fate_after fate link expanded ≡ Done → (fate ≡ Done) ⊎ (expanded ≡ true)
done_after (Covered by places) link expanded h = cc
done_after Waiting (Some link) expanded h = cc
done_after Waiting None true h = inr refl
done_after Waiting None false h = cc
done_after Done link expanded h = inl refl
