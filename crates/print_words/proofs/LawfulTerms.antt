-- The words of terms, literals and formulas that fit a protocol are lawful.
use Rattle.std.proofs.Common.{◌≡◌, ℕ, zero, suc, ◌^◌, ◌<◌, ◌≤◌, Bool, true, false, List, [], ◌∷◌, ◌++◌, length, ℤ, pos, negsuc, ◌-ℤ◌, refl, arith}
use Rattle.std.specs.Prelude.{◌==◌, ◌&&◌, IsTrue, not, codes, nat_le, nat_lt, int_lt, unsigned_abs, count_ones, if◌then◌else◌, flat_map}
use Rattle.std.specs.List.{list_all}
use Rattle.std.specs.Int.{w64, trailing_zeros, trailing_ones}
use Rattle.cub_base.proofs.Bools.{and_left, and_right, same_is, less_is}
use Rattle.cub_lexer.specs.declared.token.TokenKind.{TokenKind}
use Rattle.cub_lexer.specs.declared.token.TokenKind.TheVariants as k
use Rattle.cub_proto.specs.declared.literal.Sort.TheVariants as sorts
use Rattle.cub_proto.specs.declared.literal.Term.{Term}
use Rattle.cub_proto.specs.declared.literal.Term.TheVariants as terms
use Rattle.cub_proto.specs.declared.literal.PSide.{PSide}
use Rattle.cub_proto.specs.declared.literal.PSide.TheVariants as sides
use Rattle.cub_proto.specs.declared.literal.ISide.{ISide}
use Rattle.cub_proto.specs.declared.literal.ISide.TheVariants.{Zero, At}
use Rattle.cub_proto.specs.declared.literal.Lit.{Lit}
use Rattle.cub_proto.specs.declared.literal.Lit.TheVariants.{FinIn, FinEq, FinNe, ProcEq, ProcNe, Diff}
use Rattle.cub_proto.specs.declared.protocol.Protocol.{Protocol}
use Rattle.cub_proto.specs.Fits.{place_fits, process_side_fits, integer_side_fits, term_fits, literal_fits, is_bounded, greatest_bound, conjunction_fits, is_finite}
use Rattle.cub_proto.specs.Signature.{sort_of, declared_sort, is_sort, same_finite, constructors_at}
use Rattle.cub_proto.specs.StateOf.{signature_of}
use Rattle.cub_print.specs.Mark.{Mark, blank, name, joined}
use Rattle.cub_print.specs.Mark.Mark.{word}
use Rattle.cub_print.specs.Terms.{constructor_name, term_marks, process_marks, constant_marks, added_marks, integer_marks, compared_marks, mask_marks, difference_marks, literal_marks}
use Rattle.cub_print.specs.Printed.{and_marks, or_marks, conjunction_marks, formula_marks}
use Rattle.print_words.specs.Writable.{is_writable_literal, is_writable_conjunction, is_writable_formula}
use Rattle.print_words.proofs.Seams.{IsOfClass, class_of, Lawful, lawful_on, Every, lawful_each}
use Rattle.print_words.proofs.NameFacts.{is_there, sort_there, finite_there, alike_there, decl_named, globals_named, arrays_named, constructor_of_named, place_named, mask_named, IsSmall, above_small, below_small, else_small}

pub lawful_constant : (z : ℤ) → IsSmall z → Lawful (constant_marks z)
lawful_constant (pos n) h = ((n, h, refl), tt)
lawful_constant (negsuc n) h = (refl, ((suc n, h, refl), tt))

lawful_added : (z : ℤ) → IsSmall z → Lawful (added_marks z)
lawful_added (pos zero) h = tt
lawful_added (pos (suc n)) h = (refl, ((suc n, h, refl), tt))
lawful_added (negsuc n) h = (refl, ((suc n, h, refl), tt))

pub lawful_compared : (a : List Mark) (kind : TokenKind) (sign : List ℕ) (b : List Mark) → Lawful a → IsOfClass (class_of kind) sign → Lawful b → Lawful (compared_marks a kind sign b)
lawful_compared a kind sign b h is g = lawful_on a (blank ∷ word kind sign ∷ blank ∷ b) h (is, g)

-- items behind separators
pub lawful_joined : {A : Type 0} (P : A → Type 0) (separator : List Mark) (marks : A → List Mark) (xs : List A) → Lawful separator → ((x : A) → P x → Lawful (marks x))
    → Every P xs → Lawful (joined separator marks xs)
lawful_joined P separator marks [] s h e = tt
lawful_joined P separator marks (x ∷ xs) s h e =
    lawful_on (marks x) (flat_map (λ y. separator ++ marks y) xs) (h x e.0)
    (lawful_each P (λ y. separator ++ marks y) xs (λ y f. lawful_on separator (marks y) s (h y f)) e.1)

-- three tests of each item
pub every_of : {A : Type 0} (f g h : A → Bool) (xs : List A) → list_all f xs ≡ true → list_all g xs ≡ true → list_all h xs ≡ true
    → Every (λ x. IsTrue (f x) × IsTrue (g x) × IsTrue (h x)) xs
every_of f g h [] a b c = tt
every_of f g h (x ∷ xs) a b c = (
  (and_left (f x) (list_all f xs) a, and_left (g x) (list_all g xs) b, and_left (h x) (list_all h xs) c),
  every_of f g h xs (and_right (f x) (list_all f xs) a) (and_right (g x) (list_all g xs) b) (and_right (h x) (list_all h xs) c),
)

-- two tests of each item
pub every_both : {A : Type 0} (f g : A → Bool) (xs : List A) → list_all f xs ≡ true → list_all g xs ≡ true → Every (λ x. IsTrue (f x) × IsTrue (g x)) xs
every_both f g [] a b = tt
every_both f g (x ∷ xs) a b = (
  (and_left (f x) (list_all f xs) a, and_left (g x) (list_all g xs) b),
  every_both f g xs (and_right (f x) (list_all f xs) a) (and_right (g x) (list_all g xs) b),
)

module _ (p : Protocol) (params width : ℕ) (few : width ≤ 5) where
  lawful_term : (t : Term) → IsTrue (is_there (sort_of (signature_of p) t)) → IsTrue (place_fits width t) → Lawful (term_marks p params t)
  lawful_term (terms.Global g) there fits = (decl_named p.globals g (globals_named p) there, tt)
  lawful_term (terms.Cell a place) there fits =
      let below : place < 5 = omega (arith, less_is place width fits) in
      (decl_named p.arrays a (arrays_named p) there, (refl, (place_named params place below, (refl, tt))))

  pub lawful_typed : (sort : _) (t : Term) → IsTrue (term_fits (signature_of p) width sort t) → Lawful (term_marks p params t)
  lawful_typed sort t h =
      let is = is_sort (sort_of (signature_of p) t) sort in
      lawful_term t (sort_there (sort_of (signature_of p) t) sort (and_left is (place_fits width t) h)) (and_right is (place_fits width t) h)

  pub lawful_process : (side : PSide) → IsTrue (process_side_fits (signature_of p) width side) → Lawful (process_marks p params side)
  lawful_process (sides.Global g) h = (decl_named p.globals g (globals_named p) (sort_there (declared_sort p.globals g) sorts.Proc h), tt)
  lawful_process (sides.Place place) h = let below : place < 5 = omega (arith, less_is place width h) in (place_named params place below, tt)

  pub lawful_integer : (side : ISide) (add : ℤ) → IsTrue (integer_side_fits (signature_of p) width side) → IsSmall add → Lawful (integer_marks p params side add)
  lawful_integer Zero add h small = lawful_constant add small
  lawful_integer (At t) add h small = lawful_on (term_marks p params t) (added_marks add) (lawful_typed sorts.Int t h) (lawful_added add small)

  -- literals
  lawful_mask : (t : Term) (mask : ℕ) → IsTrue (literal_fits (signature_of p) width (FinIn t mask)) → IsTrue (is_writable_literal p (FinIn t mask)) → Lawful (mask_marks p params t mask)
  lawful_mask t mask fits writable = split (count_ones mask == 1) refl
    where
      finite : IsTrue (is_finite (sort_of (signature_of p) t) && place_fits width t)
      finite = and_left (is_finite (sort_of (signature_of p) t) && place_fits width t) (nat_lt mask (2 ^ constructors_at (signature_of p) t)) fits

      term : Lawful (term_marks p params t)
      term = lawful_term t
          (finite_there (sort_of (signature_of p) t) (and_left (is_finite (sort_of (signature_of p) t)) (place_fits width t) finite))
          (and_right (is_finite (sort_of (signature_of p) t)) (place_fits width t) finite)

      small : mask < 2 ^ constructors_at (signature_of p) t
      small = less_is mask (2 ^ constructors_at (signature_of p) t)
          (and_right (is_finite (sort_of (signature_of p) t) && place_fits width t) (nat_lt mask (2 ^ constructors_at (signature_of p) t)) fits)

      split : (one : Bool) → (count_ones mask == 1) ≡ one
          → Lawful (if one
          then compared_marks (term_marks p params t) k.Equal (codes "=") (name (constructor_name p t (trailing_zeros w64 mask)) ∷ [])
          else compared_marks (term_marks p params t) k.NotEqual (codes "<>") (name (constructor_name p t (trailing_ones w64 mask)) ∷ []))
      split true e = lawful_compared (term_marks p params t) k.Equal (codes "=") (name (constructor_name p t (trailing_zeros w64 mask)) ∷ []) term refl
          (mask_named p t mask small (same_is (count_ones mask) 1 e), tt)
      split false e =
          let lacked : IsTrue (nat_lt (trailing_ones w64 mask) (constructors_at (signature_of p) t)) = rw e at writable in
          lawful_compared (term_marks p params t) k.NotEqual (codes "<>") (name (constructor_name p t (trailing_ones w64 mask)) ∷ []) term refl
          (constructor_of_named p t (trailing_ones w64 mask) (less_is (trailing_ones w64 mask) (constructors_at (signature_of p) t) lacked), tt)

  lawful_difference : (a b : ISide) (bound : ℤ) → IsTrue (integer_side_fits (signature_of p) width a) → IsTrue (integer_side_fits (signature_of p) width b)
      → IsTrue (nat_le (unsigned_abs bound) 2000000001) → IsTrue (not (int_lt (pos 2000000000) bound)) → Lawful (difference_marks p params a b bound)
  lawful_difference a b bound first second size writable = split (int_lt (pos 1000000000) bound) refl (int_lt bound (negsuc 999999999)) refl
    where
      top : IsSmall (pos 1000000000)
      top = omega arith

      bottom : IsSmall (negsuc 999999999)
      bottom = omega arith

      none : IsSmall (pos 0)
      none = omega arith

      split : (above : Bool) → int_lt (pos 1000000000) bound ≡ above → (below : Bool) → int_lt bound (negsuc 999999999) ≡ below
          → Lawful (if above
          then compared_marks (integer_marks p params a (pos 1000000000 -ℤ bound)) k.LessOrEqual (codes "<=") (integer_marks p params b (pos 1000000000))
          else (if below
          then compared_marks (integer_marks p params a (negsuc 1000000000 -ℤ bound)) k.Less (codes "<") (integer_marks p params b (negsuc 999999999))
          else compared_marks (integer_marks p params a (pos 0)) k.LessOrEqual (codes "<=") (integer_marks p params b bound)))
      split true e below f = lawful_compared (integer_marks p params a (pos 1000000000 -ℤ bound)) k.LessOrEqual (codes "<=") (integer_marks p params b (pos 1000000000))
          (lawful_integer a (pos 1000000000 -ℤ bound) first (above_small bound e writable)) refl (lawful_integer b (pos 1000000000) second top)
      split false e true f = lawful_compared (integer_marks p params a (negsuc 1000000000 -ℤ bound)) k.Less (codes "<") (integer_marks p params b (negsuc 999999999))
          (lawful_integer a (negsuc 1000000000 -ℤ bound) first (below_small bound f size)) refl (lawful_integer b (negsuc 999999999) second bottom)
      split false e false f = lawful_compared (integer_marks p params a (pos 0)) k.LessOrEqual (codes "<=") (integer_marks p params b bound)
          (lawful_integer a (pos 0) first none) refl (lawful_integer b bound second (else_small bound e f))

  lawful_equal_terms : (kind : TokenKind) (sign : List ℕ) (a b : Term) → IsOfClass (class_of kind) sign
      → IsTrue (same_finite (sort_of (signature_of p) a) (sort_of (signature_of p) b) && place_fits width a && place_fits width b)
      → Lawful (compared_marks (term_marks p params a) kind sign (term_marks p params b))
  lawful_equal_terms kind sign a b is h =
      let same = same_finite (sort_of (signature_of p) a) (sort_of (signature_of p) b) in
      let left : IsTrue (same && place_fits width a) = and_left (same && place_fits width a) (place_fits width b) h in
      let there = alike_there (sort_of (signature_of p) a) (sort_of (signature_of p) b) (and_left same (place_fits width a) left) in
      lawful_compared (term_marks p params a) kind sign (term_marks p params b)
      (lawful_term a there.0 (and_right same (place_fits width a) left)) is (lawful_term b there.1 (and_right (same && place_fits width a) (place_fits width b) h))

  lawful_equal_processes : (kind : TokenKind) (sign : List ℕ) (a b : PSide) → IsOfClass (class_of kind) sign
      → IsTrue (process_side_fits (signature_of p) width a && process_side_fits (signature_of p) width b)
      → Lawful (compared_marks (process_marks p params a) kind sign (process_marks p params b))
  lawful_equal_processes kind sign a b is h =
      let first = process_side_fits (signature_of p) width a in
      let second = process_side_fits (signature_of p) width b in
      lawful_compared (process_marks p params a) kind sign (process_marks p params b) (lawful_process a (and_left first second h)) is (lawful_process b (and_right first second h))

  lawful_literal : (l : Lit) → IsTrue (literal_fits (signature_of p) width l) × IsTrue (is_bounded greatest_bound l) × IsTrue (is_writable_literal p l) → Lawful (literal_marks p params l)
  lawful_literal (FinIn t mask) h = lawful_mask t mask h.0 h.2
  lawful_literal (FinEq a b) h = lawful_equal_terms k.Equal (codes "=") a b refl h.0
  lawful_literal (FinNe a b) h = lawful_equal_terms k.NotEqual (codes "<>") a b refl h.0
  lawful_literal (ProcEq a b) h = lawful_equal_processes k.Equal (codes "=") a b refl h.0
  lawful_literal (ProcNe a b) h = lawful_equal_processes k.NotEqual (codes "<>") a b refl h.0
  lawful_literal (Diff a b bound) h =
      let first = integer_side_fits (signature_of p) width a in
      let second = integer_side_fits (signature_of p) width b in
      lawful_difference a b bound (and_left first second h.0) (and_right first second h.0) h.1 h.2

  -- conjunctions and formulas
  pub lawful_conjunction : (lits : List Lit) → IsTrue (conjunction_fits (signature_of p) width lits) → IsTrue (is_writable_conjunction p lits) → Lawful (conjunction_marks p params lits)
  lawful_conjunction [] fits writable = (refl, tt)
  lawful_conjunction (l ∷ ls) fits writable =
      let short = nat_le (length (l ∷ ls)) 64 in
      let fit = list_all (literal_fits (signature_of p) width) (l ∷ ls) in
      let bounded = list_all (is_bounded greatest_bound) (l ∷ ls) in
      lawful_joined (λ x. IsTrue (literal_fits (signature_of p) width x) × IsTrue (is_bounded greatest_bound x) × IsTrue (is_writable_literal p x))
      and_marks (literal_marks p params) (l ∷ ls) (refl, tt) lawful_literal
      (every_of (literal_fits (signature_of p) width) (is_bounded greatest_bound) (is_writable_literal p) (l ∷ ls)
      (and_right short fit (and_left (short && fit) bounded fits)) (and_right (short && fit) bounded fits) writable)

  pub lawful_formula : (conjs : List (List Lit)) → list_all (conjunction_fits (signature_of p) width) conjs ≡ true → IsTrue (is_writable_formula p conjs) → Lawful (formula_marks p params conjs)
  lawful_formula [] fits writable = (refl, tt)
  lawful_formula (c ∷ cs) fits writable =
      lawful_joined (λ x. IsTrue (conjunction_fits (signature_of p) width x) × IsTrue (is_writable_conjunction p x))
      or_marks (conjunction_marks p params) (c ∷ cs) (refl, tt) (λ x h. lawful_conjunction x h.0 h.1)
      (every_both (conjunction_fits (signature_of p) width) (is_writable_conjunction p) (c ∷ cs) fits writable)
