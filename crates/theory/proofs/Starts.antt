-- The start literals at the places, as the code makes and cuts them.
use Rattle.std.proofs.Common.{◌≡◌, ℕ, zero, suc, ◌+◌, ◌*◌, ◌-◌, ◌<◌, ◌≤◌, List, [], ◌∷◌, ◌++◌, length, map, take, drop, get_or, Option, Some, None, refl, sym, ap, ◌∙◌, subst, arith, append_assoc, length-append}
use Rattle.std.specs.Prelude.{slice_get, MatchOption, IsTrue}
use Rattle.std.specs.List.{flat_map, range_with_len, list_all}
use Rattle.std.specs.Option.{option_copied}
use Rattle.std.specs.Borrow.{Bor}
use Rattle.std.proofs.lemmas.List.{length-map, append-nil}
use Rattle.std.proofs.Math.Seq.{take-append_seam}
use Rattle.cub_proto.specs.declared.literal.Lit.{Lit}
use Rattle.cub_proto.specs.declared.protocol.Protocol.{Protocol}
use Rattle.cub_proto.specs.StateOf.{signature_of}
use Rattle.cub_proto.specs.Fits.{start_fits}
use Rattle.cub_cube.specs.Rename.{renamed, renamed_all, is_within}
use Rattle.cub_cube.proofs.RenamedFits.{all_fits_within}
use Rattle.theory_laws.proofs.Starting.{first_conjunction}
use Rattle.theory_laws.specs.Start.{at_each_place, start_of, start_at}
use Rattle.theory.specs.Made.{start_size}

pub first_of : (o : Option (Bor (List Lit))) (xs : List (List Lit)) → option_copied o ≡ slice_get xs 0 → MatchOption o (xs ≡ []) (λ conj. (more : List (List Lit)) × (xs ≡ conj.now ∷ more))
first_of None [] is = refl
first_of None (x ∷ xs) is = cc
first_of (Some conj) [] is = cc
first_of (Some conj) (x ∷ xs) is = let same : x ≡ conj.now = cc in (xs, ap (λ y. y ∷ xs) same)

-- the literals at n places from a on
abbrev places_from : List Lit → ℕ → ℕ → List Lit
places_from conj a n = flat_map (λ q. renamed_all (q ∷ []) conj) (range_with_len a n)

-- those of the first places, and those of the others
split_places : (conj : List Lit) (a m k : ℕ) → places_from conj a (m + k) ≡ places_from conj a m ++ places_from conj (a + m) k
split_places conj a zero k = let none : 0 + k ≡ k = omega arith in let same : a ≡ a + 0 = omega arith in ap (places_from conj a) none ∙ ap (λ x. places_from conj x k) same
split_places conj a (suc m) k =
    let more : suc m + k ≡ suc (m + k) = omega arith in
    let same : (a + 1) + m ≡ a + suc m = omega arith in
    ap (places_from conj a) more
    ∙ (ap (λ xs. renamed_all (a ∷ []) conj ++ xs) (split_places conj (a + 1) m k ∙ ap (λ x. places_from conj (a + 1) m ++ places_from conj x k) same)
    ∙ sym (append_assoc (renamed_all (a ∷ []) conj) (places_from conj (a + 1) m) (places_from conj (a + suc m) k)))

places_length : (conj : List Lit) (a m : ℕ) → length (places_from conj a m) ≡ m * length conj
places_length conj a zero = omega arith
places_length conj a (suc m) =
    let rest = places_length conj (a + 1) m in
    let own : length (renamed_all (a ∷ []) conj) ≡ length conj = length-map conj (renamed (a ∷ [])) in
    length-append (renamed_all (a ∷ []) conj) (places_from conj (a + 1) m) ∙ sum (length conj) m (length (renamed_all (a ∷ []) conj)) (length (places_from conj (a + 1) m)) own rest
  where
    sum : (n k x y : ℕ) → x ≡ n → y ≡ k * n → x + y ≡ suc k * n
    sum n k x y e f = grind arith

-- one place more
pub place_more : (conj : List Lit) (n : ℕ) → at_each_place conj (n + 1) ≡ at_each_place conj n ++ renamed_all (n ∷ []) conj
place_more conj n =
    let same : 0 + n ≡ n = omega arith in
    split_places conj 0 n 1 ∙ ap (λ x. places_from conj 0 n ++ places_from conj x 1) same ∙ ap (λ xs. places_from conj 0 n ++ xs) (append-nil (renamed_all (n ∷ []) conj))

-- the literals of the first places are the first part of all
cut_places : (conj : List Lit) (m : ℕ) → m ≤ 11 → take (m * length conj) (at_each_place conj 11) ≡ at_each_place conj m
cut_places conj m few =
    let all : m + (11 - m) ≡ 11 = omega arith in
    let whole : places_from conj 0 11 ≡ places_from conj 0 m ++ places_from conj (0 + m) (11 - m) = ap (places_from conj 0) (sym all) ∙ split_places conj 0 m (11 - m) in
    ap (take (m * length conj)) whole ∙ ap (λ n. take n (places_from conj 0 m ++ places_from conj (0 + m) (11 - m))) (sym (places_length conj 0 m)) ∙ take-append_seam (places_from conj 0 m) (places_from conj (0 + m) (11 - m))

pub start_cut : (conjs : List (List Lit)) (m : ℕ) → m ≤ 11 → take (m * start_size conjs) (start_of conjs 11) ≡ start_of conjs m
start_cut [] m few = none (m * 0)
  where
    none : (n : ℕ) → take {A = Lit} n [] ≡ []
    none zero = refl
    none (suc n) = refl
start_cut (conj ∷ more) m few = cut_places conj m few

pub start_length : (conjs : List (List Lit)) → length (start_of conjs 11) ≡ 11 * start_size conjs
start_length [] = refl
start_length (conj ∷ more) = places_length conj 0 11

-- the start conjunction has its places below 1
pub conjunction_within : (p : Protocol) (conj : List Lit) (more : List (List Lit)) → p.start ≡ conj ∷ more → IsTrue (list_all (is_within 1) conj)
conjunction_within p conj more is =
    let fits : IsTrue (start_fits (signature_of p) (conj ∷ more)) = subst (λ xs. IsTrue (start_fits (signature_of p) xs)) is p.start_fits in
    all_fits_within (signature_of p) 1 conj (first_conjunction (signature_of p) conj more fits).1.fit

-- what the code cuts off the start literals at all places
pub cut_start : (p : Protocol) (each places : ℕ) (start part : List Lit) → each ≡ start_size p.start → start ≡ start_at p 11 → places ≤ 11 → part ≡ take (places * each) start → part ≡ start_at p places
cut_start p each places start part size all few is =
    is ∙ ap (λ n. take (places * n) start) size ∙ ap (take (places * start_size p.start)) all ∙ start_cut p.start places few

pub cut_inside : (p : Protocol) (each places : ℕ) (start : List Lit) → each ≡ start_size p.start → start ≡ start_at p 11 → places ≤ 11 → places * each ≤ length start
cut_inside p each places start size all few =
    let whole : length start ≡ 11 * each = ap length all ∙ (start_length p.start ∙ ap (λ n. 11 * n) (sym size)) in
    let less : places * each ≤ 11 * each = product places each few in
    omega arith
  where
    product : (x y : ℕ) → x ≤ 11 → x * y ≤ 11 * y
    product x y h = grind arith

pub few_start : (p : Protocol) → start_size p.start ≤ 64
few_start p = by p.start p.start_fits
  where
    by : (conjs : List (List Lit)) → IsTrue (start_fits (signature_of p) conjs) → start_size conjs ≤ 64
    by [] h = omega arith
    by (conj ∷ more) h = (first_conjunction (signature_of p) conj more h).1.few
