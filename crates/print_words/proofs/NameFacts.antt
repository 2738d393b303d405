-- The names that a protocol prints are names, and its places and constants are words.
use Rattle.std.proofs.Common.{◌≡◌, ℕ, zero, suc, ◌+◌, ◌^◌, ◌<◌, ◌≤◌, Bool, true, false, List, [], ◌∷◌, ◌++◌, length, drop, Option, Some, None, ℤ, pos, negsuc, ◌-ℤ◌, refl, sym, subst, arith, inl, inr}
use Rattle.std.specs.Prelude.{◌==◌, ◌&&◌, IsTrue, not, codes, bytes_eq, nat_le, nat_lt, int_lt, unsigned_abs, count_ones, slice_get, if◌then◌else◌}
use Rattle.std.specs.List.{list_all}
use Rattle.std.specs.Option.{option_map_or}
use Rattle.std.specs.Fmt.{decimal}
use Rattle.std.specs.Int.{w64, trailing_zeros}
use Rattle.std.proofs.lemmas.Int.{ints}
use Rattle.std.proofs.lemmas.Bool.Decides.{nat_tests}
use Rattle.std.proofs.lemmas.Fmt.{decimal_digit}
use Rattle.std.proofs.lemmas.Nat.{ones_le_self}
use Rattle.std.proofs.Math.Pow.{pow_mono}
use Rattle.cub_proto.proofs.Constructors.{few_constructors}
use Rattle.std.proofs.lemmas.Nat.Bits.{bit_at-trailing_zeros, bit_at_above}
use Rattle.std.proofs.lemmas.Slice.Eq.{bytes_eq-Decides}
use Rattle.std.proofs.lemmas.Bool.{cases_lt}
use Rattle.cub_base.specs.Name.{is_declarable}
use Rattle.cub_base.proofs.Bools.{and_left, and_right, and_both, less_is}
use Rattle.cub_base.proofs.Elements.{from_all}
use Rattle.cub_proto.specs.declared.literal.Sort.{Sort}
use Rattle.cub_proto.specs.declared.literal.Sort.TheVariants as sorts
use Rattle.cub_proto.specs.declared.literal.Term.{Term}
use Rattle.cub_proto.specs.declared.protocol.SortDecl.{SortDecl}
use Rattle.cub_proto.specs.declared.protocol.Decl.{Decl}
use Rattle.cub_proto.specs.declared.protocol.Protocol.{Protocol}
use Rattle.cub_proto.specs.Fits.{is_finite, sort_decl_fits, constructors_are_false_true, is_bool, sorts_fit, global_fits, array_fits, sort_is_there}
use Rattle.cub_proto.specs.Signature.{sort_of, declared_sort, constructors_of, constructors_at, is_sort, same_sort, same_finite}
use Rattle.cub_proto.specs.StateOf.{signature_of}
use Rattle.cub_print.specs.Terms.{decl_name, constructor_in, constructor_name, place_name}

-- a test that follows from another
pub all_weaker : {A : Type 0} (test other : A → Bool) (xs : List A) → ((x : A) → IsTrue (test x) → IsTrue (other x)) → list_all test xs ≡ true → list_all other xs ≡ true
all_weaker test other [] h all = refl
all_weaker test other (x ∷ xs) h all =
    and_both (other x) (list_all other xs) (h x (and_left (test x) (list_all test xs) all)) (all_weaker test other xs h (and_right (test x) (list_all test xs) all))

-- declarations
abbrev pub is_there : {A : Type 0} → Option A → Bool
is_there None = false
is_there (Some x) = true

pub sort_there : (o : Option Sort) (sort : Sort) → IsTrue (is_sort o sort) → IsTrue (is_there o)
sort_there None sort h = cc
sort_there (Some other) sort h = refl

pub finite_there : (o : Option Sort) → IsTrue (is_finite o) → IsTrue (is_there o)
finite_there None h = cc
finite_there (Some other) h = refl

pub alike_there : (a b : Option Sort) → IsTrue (same_finite a b) → IsTrue (is_there a) × IsTrue (is_there b)
alike_there None b h = absurd cc
alike_there (Some (sorts.Fin j)) b h = (refl, sort_there b (sorts.Fin j) h)
alike_there (Some sorts.Proc) b h = absurd cc
alike_there (Some sorts.Int) b h = absurd cc

abbrev pub are_named : List Decl → Bool
are_named decls = list_all (λ d. is_declarable d.name) decls

pub decl_named : (decls : List Decl) (n : ℕ) → are_named decls ≡ true → IsTrue (is_there (declared_sort decls n)) → IsTrue (is_declarable (decl_name decls n))
decl_named [] n all h = cc
decl_named (d ∷ ds) zero all h = and_left (is_declarable d.name) (are_named ds) all
decl_named (d ∷ ds) (suc n) all h = decl_named ds n (and_right (is_declarable d.name) (are_named ds) all) h

pub globals_named : (p : Protocol) → are_named p.globals ≡ true
globals_named p = all_weaker (global_fits p.sorts) (λ d. is_declarable d.name) p.globals
    (λ d h. and_left (is_declarable d.name) (sort_is_there p.sorts d.sort) h) (from_all (global_fits p.sorts) p.globals p.globals_fit)

pub arrays_named : (p : Protocol) → are_named p.arrays ≡ true
arrays_named p = all_weaker (array_fits p.sorts) (λ d. is_declarable d.name) p.arrays
    (λ d h. and_left (is_declarable d.name) (sort_is_there p.sorts d.sort) (and_left (is_declarable d.name && sort_is_there p.sorts d.sort) (not (same_sort d.sort sorts.Proc)) h))
    (from_all (array_fits p.sorts) p.arrays p.arrays_fit)

-- sorts and constructors
abbrev pub have_names : List SortDecl → Bool
have_names ds = list_all (λ d. list_all is_declarable d.cons) ds

named_as : (bytes word : List ℕ) → IsTrue (is_declarable word) → IsTrue (bytes_eq bytes word) → IsTrue (is_declarable bytes)
named_as bytes word h e = subst (λ x. IsTrue (is_declarable x)) (sym ((bytes_eq-Decides bytes word).0 e)) h

false_true_named : (cs : List (List ℕ)) → IsTrue (constructors_are_false_true cs) → list_all is_declarable cs ≡ true
false_true_named [] h = cc
false_true_named (c ∷ []) h = cc
false_true_named (c ∷ d ∷ []) h =
    let is_false = and_left (bytes_eq c (codes "False")) (bytes_eq d (codes "True")) h in
    let is_true_ = and_right (bytes_eq c (codes "False")) (bytes_eq d (codes "True")) h in
    and_both (is_declarable c) (is_declarable d && true) (named_as c (codes "False") refl is_false)
    (and_both (is_declarable d) true (named_as d (codes "True") refl is_true_) refl)
false_true_named (c ∷ d ∷ e ∷ cs) h = cc

decl_constructors : (d : SortDecl) → IsTrue (sort_decl_fits d) → list_all is_declarable d.cons ≡ true
decl_constructors d h = and_right ((is_declarable d.name && nat_lt 0 (length d.cons)) && nat_le (length d.cons) 64) (list_all is_declarable d.cons) h

all_constructors : (ds : List SortDecl) → IsTrue (sorts_fit ds) → have_names ds ≡ true
all_constructors [] h = cc
all_constructors (d ∷ ds) h =
    let first = and_left (is_bool d) (list_all sort_decl_fits ds) h in
    and_both (list_all is_declarable d.cons) (have_names ds)
    (false_true_named d.cons (and_right (bytes_eq d.name (codes "bool")) (constructors_are_false_true d.cons) first))
    (all_weaker sort_decl_fits (λ e. list_all is_declarable e.cons) ds decl_constructors (and_right (is_bool d) (list_all sort_decl_fits ds) h))

pub constructors_named : (p : Protocol) → have_names p.sorts ≡ true
constructors_named p = all_constructors p.sorts p.sorts_fit

name_at : (names : List (List ℕ)) (c : ℕ) → list_all is_declarable names ≡ true → c < length names → IsTrue (is_declarable (option_map_or (λ n. n) (slice_get names c) []))
name_at [] c all h = absurd (omega arith)
name_at (n ∷ ns) zero all h = and_left (is_declarable n) (list_all is_declarable ns) all
name_at (n ∷ ns) (suc c) all h = name_at ns c (and_right (is_declarable n) (list_all is_declarable ns) all) (omega arith)

constructor_at : (ds : List SortDecl) (j c : ℕ) → have_names ds ≡ true → c < option_map_or (λ d. length d.cons) (slice_get ds j) 0
    → IsTrue (is_declarable (constructor_in ds (sorts.Fin j) c))
constructor_at [] j c all h = absurd (omega arith)
constructor_at (d ∷ ds) zero c all h = name_at d.cons c (and_left (list_all is_declarable d.cons) (have_names ds) all) h
constructor_at (d ∷ ds) (suc j) c all h = constructor_at ds j c (and_right (list_all is_declarable d.cons) (have_names ds) all) h

pub constructor_named : (p : Protocol) (sort : Sort) (c : ℕ) → c < constructors_of (signature_of p) sort → IsTrue (is_declarable (constructor_in p.sorts sort c))
constructor_named p (sorts.Fin j) c h = constructor_at p.sorts j c (constructors_named p) h
constructor_named p sorts.Proc c h = absurd (omega arith)
constructor_named p sorts.Int c h = absurd (omega arith)

pub constructor_of_named : (p : Protocol) (t : Term) (c : ℕ) → c < constructors_at (signature_of p) t → IsTrue (is_declarable (constructor_name p t c))
constructor_of_named p t c = of (sort_of (signature_of p) t)
  where
    of : (o : Option Sort) → c < option_map_or (constructors_of (signature_of p)) o 0 → IsTrue (is_declarable (option_map_or (λ sort. constructor_in p.sorts sort c) o []))
    of None h = absurd (omega arith)
    of (Some sort) h = constructor_named p sort c h

-- names of declared sorts
sort_named_at : (ds : List SortDecl) (j : ℕ) → list_all sort_decl_fits ds ≡ true → j < length ds → IsTrue (is_declarable (option_map_or (λ d. d.name) (slice_get ds j) []))
sort_named_at [] j all h = absurd (omega arith)
sort_named_at (d ∷ ds) zero all h =
    let named = is_declarable d.name in
    let some = nat_lt 0 (length d.cons) in
    let few = nat_le (length d.cons) 64 in
    let names = list_all is_declarable d.cons in
    let fits = and_left (sort_decl_fits d) (list_all sort_decl_fits ds) all in
    and_left named some (and_left (named && some) few (and_left ((named && some) && few) names fits))
sort_named_at (d ∷ ds) (suc j) all h = sort_named_at ds j (and_right (sort_decl_fits d) (list_all sort_decl_fits ds) all) (omega arith)

pub sort_named : (ds : List SortDecl) (j : ℕ) → IsTrue (sorts_fit ds) → (j == 0) ≡ false → IsTrue (nat_lt j (length ds)) → IsTrue (is_declarable (option_map_or (λ d. d.name) (slice_get ds j) []))
sort_named [] j fits some h = cc
sort_named (d ∷ ds) zero fits some h = cc
sort_named (d ∷ ds) (suc j) fits some h =
    let below : suc j < length (d ∷ ds) = less_is (suc j) (length (d ∷ ds)) h in
    sort_named_at ds j (and_right (is_bool d) (list_all sort_decl_fits ds) fits) (omega arith)

pub declared_fit : (ds : List SortDecl) → IsTrue (sorts_fit ds) → list_all sort_decl_fits (drop 1 ds) ≡ true
declared_fit [] h = cc
declared_fit (d ∷ ds) h = and_right (is_bool d) (list_all sort_decl_fits ds) h

-- places
digit_name : (n : ℕ) → n < 6 → IsTrue (is_declarable (95 ∷ (48 + n) ∷ []))
digit_name zero h = refl
digit_name (suc zero) h = refl
digit_name (suc (suc zero)) h = refl
digit_name (suc (suc (suc zero))) h = refl
digit_name (suc (suc (suc (suc zero)))) h = refl
digit_name (suc (suc (suc (suc (suc zero))))) h = refl
digit_name (suc (suc (suc (suc (suc (suc n)))))) h = absurd (omega arith)

number_name : (n : ℕ) → n < 6 → IsTrue (is_declarable (codes "_" ++ decimal n))
number_name n h = let few : n < 10 = omega arith in subst (λ (x : List ℕ). IsTrue (is_declarable (95 ∷ x))) (sym (decimal_digit n few)) (digit_name n h)

pub place_named : (params place : ℕ) → place < 5 → IsTrue (is_declarable (place_name params place))
place_named params place h = split (place == params)
  where
    split : (last : Bool) → IsTrue (is_declarable (codes "_" ++ decimal (if last then 0 else place + 1)))
    split true = number_name 0 (omega arith)
    split false = number_name (place + 1) (omega arith)

-- the lowest constructor of a mask, and the lowest that it lacks
pub lowest_below : (p : Protocol) (t : Term) (mask : ℕ) → mask < 2 ^ constructors_at (signature_of p) t → count_ones mask ≡ 1
    → trailing_zeros w64 mask < constructors_at (signature_of p) t
lowest_below p t mask small one =
    let n = constructors_at (signature_of p) t in
    let lowest = trailing_zeros w64 mask in
    let some : 0 < mask = omega (arith, ones_le_self mask) in
    let most : n ≤ 64 = few_constructors p t in
    let wide : 2 ^ n ≤ 2 ^ 64 = pow_mono most in
    let word : mask < 2 ^ 64 = omega arith in
    let set = bit_at-trailing_zeros w64 mask some word in
    elim (cases_lt lowest n) [
      | inl below ↦ below
      | inr above ↦ absurd (omega (arith, set.1, bit_at_above mask n lowest small above))
    ]

pub mask_named : (p : Protocol) (t : Term) (mask : ℕ) → mask < 2 ^ constructors_at (signature_of p) t → count_ones mask ≡ 1
    → IsTrue (is_declarable (constructor_name p t (trailing_zeros w64 mask)))
mask_named p t mask small one = constructor_of_named p t (trailing_zeros w64 mask) (lowest_below p t mask small one)

-- constants
abbrev pub IsSmall : ℤ → Type 0
IsSmall z = unsigned_abs z ≤ 1000000000

pub above_small : (bound : ℤ) → IsTrue (int_lt (pos 1000000000) bound) → IsTrue (not (int_lt (pos 2000000000) bound)) → IsSmall (pos 1000000000 -ℤ bound)
above_small bound above h = grind (arith, ints, nat_tests)

pub below_small : (bound : ℤ) → IsTrue (int_lt bound (negsuc 999999999)) → IsTrue (nat_le (unsigned_abs bound) 2000000001) → IsSmall (negsuc 1000000000 -ℤ bound)
below_small bound below h = grind (arith, ints, nat_tests)

pub else_small : (bound : ℤ) → int_lt (pos 1000000000) bound ≡ false → int_lt bound (negsuc 999999999) ≡ false → IsSmall bound
else_small bound above below = grind (arith, ints, nat_tests)
