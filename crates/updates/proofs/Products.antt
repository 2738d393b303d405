-- The members of a product, and numbers of items.
use Rattle.std.proofs.Common.{◌≡◌, ℕ, suc, zero, ◌+◌, ◌<◌, ◌≤◌, List, [], ◌∷◌, length, refl, subst, arith, inl, inr}
use Rattle.std.specs.Prelude.{map}
use Rattle.std.specs.List.{range_with_len, AllZip}
use Rattle.cub_base.proofs.Members.{Has, has_map, map_has, has_flat_map, flat_map_has, has_range}
use Rattle.updates.specs.Ways.{product, numbers}

-- a range has the numbers from its start on, below its end
pub range_has : (from n i : ℕ) → Has (range_with_len from n) i → (from ≤ i) × (i < from + n)
range_has from zero i h = absurd h
range_has from (suc n) i (inl same) = (omega arith, omega arith)
range_has from (suc n) i (inr later) = let found = range_has (from + 1) n i later in (omega (arith, found.0), omega (arith, found.1))

pub has_below : (n i : ℕ) → i < n → Has (range_with_len 0 n) i
has_below n i h = subst (Has (range_with_len 0 n)) (let e : 0 + i ≡ i = omega arith in e) (has_range 0 n i h)

pub has_number : {A : Type 0} (xs : List A) (i : ℕ) → i < length xs → Has (numbers xs) i
has_number xs i h = has_below (length xs) i h

pub number_has : {A : Type 0} (xs : List A) (i : ℕ) → Has (numbers xs) i → i < length xs
number_has xs i h = omega (arith, (range_has 0 (length xs) i h).1)

pub below_has : (n i : ℕ) → Has (range_with_len 0 n) i → i < n
below_has n i h = omega (arith, (range_has 0 n i h).1)

-- the items of a member are of the lists, one of each
pub product_has : {A : Type 0} (xss : List (List A)) (ys : List A) → Has (product xss) ys → AllZip Has xss ys
product_has [] ys (inl same) = subst (AllZip Has []) same tt
product_has [] ys (inr none) = absurd none
product_has {A} (xs ∷ xss) ys h =
    let found = flat_map_has (λ x. map (λ zs. x ∷ zs) (product xss)) xs ys h in
    let rest = map_has (λ zs. found.0 ∷ zs) (product xss) ys found.2 in
    subst (AllZip Has (xs ∷ xss)) rest.2 (found.1, product_has xss rest.0 rest.1)

pub has_product : {A : Type 0} (xss : List (List A)) (ys : List A) → AllZip Has xss ys → Has (product xss) ys
has_product [] [] h = inl refl
has_product [] (y ∷ ys) h = absurd h
has_product (xs ∷ xss) [] h = absurd h
has_product (xs ∷ xss) (y ∷ ys) h =
    has_flat_map (λ x. map (λ zs. x ∷ zs) (product xss)) xs y (y ∷ ys) h.0 (has_map (λ zs. y ∷ zs) (product xss) ys (has_product xss ys h.1))
