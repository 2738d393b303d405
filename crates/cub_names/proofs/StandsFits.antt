-- What names stand for is declared.
use Rattle.std.proofs.Common.{◌≡◌, ℕ, suc, zero, ◌+◌, ◌<◌, ◌≤◌, ◌==◌, Bool, true, false, List, [], ◌∷◌, ◌++◌, length, get_or, Option, Some, None, option_map, refl, sym, ◌∙◌, ap, subst, arith, bytes_eq, nat_lt}
use Rattle.std.proofs.lemmas.Bool.Decides.{nat_tests}
use Rattle.std.specs.Prelude.{if◌then◌else◌, IfSome, IsTrue, slice_get}
use Rattle.std.specs.Option.{option_map_or}
use Rattle.cub_proto.specs.declared.literal.Sort.{Sort}
use Rattle.cub_proto.specs.declared.protocol.SortDecl.{SortDecl}
use Rattle.cub_proto.specs.declared.protocol.Decl.{Decl}
use Rattle.cub_proto.specs.Signature.{Signature, is_sort, same_sort, constructors_of, declared_sort}
use Rattle.cub_proto.specs.Fits.{sorts_fit}
use Rattle.cub_names.specs.declared.meaning.What.{What}
use Rattle.cub_names.specs.Sides.{what_is_small}
use Rattle.cub_names.proofs.SortsFew.{few_constructors}
use Rattle.cub_names.specs.Meaning.{first_named, constructor_from, constructors_from, global_from, array_from, or_else, stands_for, what_fits}

module _ {A B : Type 0} (name : A → List ℕ) (what : ℕ → A → B) (P : B → Type 0) (q : List ℕ) where
  this_or_later : (k : ℕ) (x : A) (b : Bool) (found : Option B) → P (what k x) → IfSome found P → IfSome (if b then Some (what k x) else found) P
  this_or_later k x true found here later = here
  this_or_later k x false found here later = later

  -- what is found among things satisfies what each of them does
  pub found_fits : (k : ℕ) (xs : List A) → ((i : ℕ) (d : A) → i < length xs → P (what (k + i) (get_or xs i d))) → IfSome (first_named name what k xs q) P
  found_fits k [] each = tt
  found_fits k (x ∷ xs) each =
      this_or_later k x (bytes_eq (name x) q) (first_named name what (k + 1) xs q)
      (subst (λ n. P (what n x)) (let e : k + 0 ≡ k = omega arith in e) (each 0 x (omega arith)))
      (found_fits (k + 1) xs (λ i d below. subst (λ n. P (what n (get_or xs i d))) (let e : k + suc i ≡ k + 1 + i = omega arith in e) (each (suc i) d (omega arith))))

same_sort_same : (s : Sort) → same_sort s s ≡ true
same_sort_same (Sort.Fin n) = let e : (n == n) ≡ true = grind (arith, nat_tests) in e
same_sort_same Sort.Proc = refl
same_sort_same Sort.Int = refl

declared_at : (decls : List Decl) (i : ℕ) (d : Decl) → i < length decls → is_sort (declared_sort decls i) (get_or decls i d).sort ≡ true
declared_at [] i d below = absurd (omega arith)
declared_at (x ∷ xs) zero d below = same_sort_same x.sort
declared_at (x ∷ xs) (suc i) d below = declared_at xs i d (omega arith)

either_fits : {B : Type 0} (P : B → Type 0) (found other : Option B) → IfSome found P → IfSome other P → IfSome (or_else found other) P
either_fits P None other here there = there
either_fits P (Some b) other here there = here

sort_at : (sorts : List SortDecl) (i : ℕ) (d : SortDecl) → i < length sorts → slice_get sorts i ≡ Some (get_or sorts i d)
sort_at [] i d below = absurd (omega arith)
sort_at (x ∷ xs) zero d below = refl
sort_at (x ∷ xs) (suc i) d below = sort_at xs i d (omega arith)

lt_true : (a b : ℕ) → a < b → nat_lt a b ≡ true
lt_true a b h = grind (arith, nat_tests, h)

con_below : (sig : Signature) (k : ℕ) (d : SortDecl) → slice_get sig.sorts k ≡ Some d → (i : ℕ) → i < length d.cons → nat_lt (0 + i) (constructors_of sig (Sort.Fin k)) ≡ true
con_below sig k d is i below =
    subst (λ o. nat_lt (0 + i) (option_map_or (λ (e : SortDecl). length e.cons) o 0) ≡ true) (sym is) (lt_true (0 + i) (length d.cons) (omega (arith, below)))

module _ (sig : Signature) (q : List ℕ) where
  from_zero : (d : SortDecl) (k : ℕ) (ds : List SortDecl) → ((i : ℕ) (e : SortDecl) → i < length (d ∷ ds) → slice_get sig.sorts (k + i) ≡ Some (get_or (d ∷ ds) i e)) → slice_get sig.sorts k ≡ Some d
  from_zero d k ds each = subst (λ n. slice_get sig.sorts n ≡ Some d) (let e : k + 0 ≡ k = omega arith in e) (each 0 d (omega arith))

  -- the sorts from number k on are these
  pub constructors_fit : (k : ℕ) (ds : List SortDecl) → ((i : ℕ) (d : SortDecl) → i < length ds → slice_get sig.sorts (k + i) ≡ Some (get_or ds i d))
      → IfSome (constructors_from k ds q) (λ what. what_fits sig what ≡ true)
  constructors_fit k [] each = tt
  constructors_fit k (d ∷ ds) each =
      either_fits (λ what. what_fits sig what ≡ true) (constructor_from k 0 d.cons q) (constructors_from (k + 1) ds q)
      (found_fits (λ c. c) (λ number c. What.Con k number) (λ what. what_fits sig what ≡ true) q 0 d.cons (λ i c below. con_below sig k d (from_zero d k ds each) i below))
      (constructors_fit (k + 1) ds (λ i e below. subst (λ n. slice_get sig.sorts n ≡ Some (get_or ds i e)) (let e : k + suc i ≡ k + 1 + i = omega arith in e) (each (suc i) e (omega arith))))

pub stands_fits : (sig : Signature) (q : List ℕ) → IfSome (stands_for sig q) (λ what. what_fits sig what ≡ true)
stands_fits sig q =
    either_fits (λ what. what_fits sig what ≡ true) (constructors_from 0 sig.sorts q) _
    (constructors_fit sig q 0 sig.sorts (λ i d below. subst (λ n. slice_get sig.sorts n ≡ Some (get_or sig.sorts i d)) (let e : i ≡ 0 + i = omega arith in e) (sort_at sig.sorts i d below)))
    (either_fits (λ what. what_fits sig what ≡ true) (global_from 0 sig.globals q) (array_from 0 sig.arrays q)
    (found_fits (λ d. d.name) (λ number d. What.Global number d.sort) (λ what. what_fits sig what ≡ true) q 0 sig.globals
    (λ i d below. subst (λ n. is_sort (declared_sort sig.globals n) (get_or sig.globals i d).sort ≡ true) (let e : i ≡ 0 + i = omega arith in e) (declared_at sig.globals i d below)))
    (found_fits (λ d. d.name) (λ number d. What.Array number d.sort) (λ what. what_fits sig what ≡ true) q 0 sig.arrays
    (λ i d below. subst (λ n. is_sort (declared_sort sig.arrays n) (get_or sig.arrays i d).sort ≡ true) (let e : i ≡ 0 + i = omega arith in e) (declared_at sig.arrays i d below))))

module _ (q : List ℕ) where
  -- the constructors that are found have small numbers
  pub constructors_small : (k : ℕ) (ds : List SortDecl) → ((i : ℕ) (d : SortDecl) → i < length ds → length (get_or ds i d).cons ≤ 64)
      → IfSome (constructors_from k ds q) (λ what. what_is_small what ≡ true)
  constructors_small k [] few = tt
  constructors_small k (d ∷ ds) few =
      either_fits (λ what. what_is_small what ≡ true) (constructor_from k 0 d.cons q) (constructors_from (k + 1) ds q)
      (found_fits (λ c. c) (λ number c. What.Con k number) (λ what. what_is_small what ≡ true) q 0 d.cons
      (λ i c below. let bound : length d.cons ≤ 64 = few 0 d (omega arith) in lt_true (0 + i) 64 (omega (arith, below, bound))))
      (constructors_small (k + 1) ds (λ i e below. few (suc i) e (omega arith)))

pub stands_small : (sig : Signature) (q : List ℕ) → sorts_fit sig.sorts ≡ true → IfSome (stands_for sig q) (λ what. what_is_small what ≡ true)
stands_small sig q fit =
    either_fits (λ what. what_is_small what ≡ true) (constructors_from 0 sig.sorts q) _
    (constructors_small q 0 sig.sorts (λ i d below. few_constructors sig.sorts i d fit below))
    (either_fits (λ what. what_is_small what ≡ true) (global_from 0 sig.globals q) (array_from 0 sig.arrays q)
    (found_fits (λ d. d.name) (λ number d. What.Global number d.sort) (λ what. what_is_small what ≡ true) q 0 sig.globals (λ i d below. refl))
    (found_fits (λ d. d.name) (λ number d. What.Array number d.sort) (λ what. what_is_small what ≡ true) q 0 sig.arrays (λ i d below. refl)))
