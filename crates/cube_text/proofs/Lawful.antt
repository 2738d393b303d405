-- What the words of a cube name fits the protocol and the limits.
use Rattle.std.proofs.Common.{◌≡◌, ℕ, ◌-◌, ◌^◌, ◌<◌, Bool, true, false, cond, nat_le, nat_lt, List, [], ◌∷◌, length, Option, Some, None, ℤ, refl, subst, arith, codes, bytes_eq, unsigned_abs}
use Rattle.std.specs.Prelude.{◌&&◌, option_and_then, option_map, slice_get, if◌then◌else◌}
use Rattle.std.specs.Option.{option_map_or}
use Rattle.std.specs.Int.Bits.{bit_or}
use Rattle.std.proofs.lemmas.Bool.{and_parts, and_from, ltb-true, lt-ltb, leb-true}
use Rattle.std.proofs.lemmas.Nat.{or_lt, pow_pos}
use Rattle.std.proofs.Math.Pow.{pow_mono}
use Rattle.cub_proto.specs.declared.literal.Sort.{Sort}
use Rattle.cub_proto.specs.declared.literal.Term.{Term}
use Rattle.cub_proto.specs.declared.literal.PSide.{PSide}
use Rattle.cub_proto.specs.declared.literal.ISide.{ISide}
use Rattle.cub_proto.specs.declared.literal.ISide.TheVariants.{Zero, At}
use Rattle.cub_proto.specs.declared.literal.Lit.{Lit}
use Rattle.cub_proto.specs.declared.literal.Lit.TheVariants.{FinIn, Diff}
use Rattle.cub_proto.specs.declared.protocol.SortDecl.{SortDecl}
use Rattle.cub_proto.specs.declared.protocol.Protocol.{Protocol}
use Rattle.cub_proto.specs.Signature.{sort_of, constructors_of, constructors_at, is_sort, same_finite, declared_sort}
use Rattle.cub_proto.specs.StateOf.{signature_of}
use Rattle.cub_proto.specs.Fits.{place_fits, literal_fits, is_bounded, is_finite, process_side_fits, integer_side_fits}
use Rattle.text_lines.specs.Number.{natural_of, integer_of}
use Rattle.text_lines.specs.Named.{number_of}
use Rattle.cube_text.specs.Text.{names_of_sort}
use Rattle.cube_text.specs.Form.{before, onward, is_empty, is_place}
use Rattle.cube_text.specs.Meaning.{greatest_bound, behind_first, counted_to, place_in, declared_in, cell_at, term_in, as_process, as_integer, process_in, integer_side_in, of_processes, of_finite, processes_in, constructor_in, terms_in, finite_in, equation_of, equation_in, mask_from, set_names, membership_of, bound_in, difference_in, literal_in}

-- an answer that is there
pub some_same : {X : Type 0} (x y : X) → Some x ≡ Some y → x ≡ y
some_same x y h = cc

pub no_some : {X : Type 0} {ℓ : Type 0} (x : X) → None ≡ Some x → ℓ
no_some x h = absurd (let e : None ≡ Some x = h in cc)

-- where the test of an answer holds
pub of_test : {X : Type 0} (b : Bool) (x y : X) → cond b (Some x) None ≡ Some y → (b ≡ true) × (x ≡ y)
of_test true x y h = (refl, some_same x y h)
of_test false x y h = no_some y h

counted_small : (width n k : ℕ) → counted_to width n ≡ Some k → nat_lt k width ≡ true
counted_small width n k h =
    let t = of_test (nat_lt 0 n && nat_le n width) (n - 1) k h in
    let parts = and_parts (nat_lt 0 n) (nat_le n width) t.0 in
    let some = ltb-true 0 n parts.0 in
    let few = leb-true n width parts.1 in
    lt-ltb k width (omega (arith, some, few, t.1))

place_small : (width : ℕ) (word : List ℕ) (k : ℕ) → place_in width word ≡ Some k → nat_lt k width ≡ true
place_small width word k h = by (natural_of (behind_first word)) h
  where
    by : (o : Option ℕ) → option_and_then (counted_to width) o ≡ Some k → nat_lt k width ≡ true
    by None h = no_some k h
    by (Some n) h = counted_small width n k h

module _ (p : Protocol) (width : ℕ) where
  cell_small : (o : Option ℕ) (k : ℕ) (t : Term) → nat_lt k width ≡ true → cell_at o k ≡ Some t → place_fits width t ≡ true
  cell_small None k t small h = no_some t h
  cell_small (Some a) k t small h = subst (λ u. place_fits width u ≡ true) (some_same (Term.Cell a k) t h) small

  global_small : (o : Option ℕ) (t : Term) → option_map Term.Global o ≡ Some t → place_fits width t ≡ true
  global_small None t h = no_some t h
  global_small (Some g) t h = subst (λ u. place_fits width u ≡ true) (some_same (Term.Global g) t h) refl

  pub term_small : (word : List ℕ) (t : Term) → term_in p width word ≡ Some t → place_fits width t ≡ true
  term_small word t h = by (is_empty (onward 91 word)) h
    where
      cell : (o : Option ℕ) → place_in width (before 93 (behind_first (onward 91 word))) ≡ o → option_and_then (cell_at (declared_in p.arrays (before 91 word))) o ≡ Some t → place_fits width t ≡ true
      cell None is h = no_some t h
      cell (Some k) is h = cell_small (declared_in p.arrays (before 91 word)) k t (place_small width (before 93 (behind_first (onward 91 word))) k is) h

      by : (b : Bool) → cond b (option_map Term.Global (declared_in p.globals word)) (option_and_then (cell_at (declared_in p.arrays (before 91 word))) (place_in width (before 93 (behind_first (onward 91 word))))) ≡ Some t → place_fits width t ≡ true
      by true h = global_small (declared_in p.globals word) t h
      by false h = cell (place_in width (before 93 (behind_first (onward 91 word)))) refl h

  global_side : (t : Term) (a : PSide) → as_process p t ≡ Some a → process_side_fits (signature_of p) width a ≡ true
  global_side (Term.Global g) a h =
      let test = of_test (is_sort (declared_sort p.globals g) Sort.Proc) (PSide.Global g) a h in
      subst (λ s. process_side_fits (signature_of p) width s ≡ true) test.1 test.0
  global_side (Term.Cell b i) a h = no_some a h

  place_side : (word : List ℕ) (o : Option ℕ) (a : PSide) → place_in width word ≡ o → option_map PSide.Place o ≡ Some a → process_side_fits (signature_of p) width a ≡ true
  place_side word None a is h = no_some a h
  place_side word (Some k) a is h = subst (λ s. process_side_fits (signature_of p) width s ≡ true) (some_same (PSide.Place k) a h) (place_small width word k is)

  process_small : (word : List ℕ) (a : PSide) → process_in p width word ≡ Some a → process_side_fits (signature_of p) width a ≡ true
  process_small word a h = by (is_place word) h
    where
      named : (o : Option Term) → option_and_then (as_process p) o ≡ Some a → process_side_fits (signature_of p) width a ≡ true
      named None h = no_some a h
      named (Some t) h = global_side t a h

      by : (b : Bool) → cond b (option_map PSide.Place (place_in width word)) (option_and_then (as_process p) (term_in p width word)) ≡ Some a → process_side_fits (signature_of p) width a ≡ true
      by true h = place_side word (place_in width word) a refl h
      by false h = named (term_in p width word) h

  integer_side : (t : Term) (a : ISide) → place_fits width t ≡ true → as_integer p t ≡ Some a → integer_side_fits (signature_of p) width a ≡ true
  integer_side t a small h =
      let test = of_test (is_sort (sort_of (signature_of p) t) Sort.Int) (At t) a h in
      subst (λ s. integer_side_fits (signature_of p) width s ≡ true) test.1 (and_from (is_sort (sort_of (signature_of p) t) Sort.Int) (place_fits width t) test.0 small)

  integer_small : (word : List ℕ) (a : ISide) → integer_side_in p width word ≡ Some a → integer_side_fits (signature_of p) width a ≡ true
  integer_small word a h = by (bytes_eq word (codes "0")) h
    where
      named : (o : Option Term) → term_in p width word ≡ o → option_and_then (as_integer p) o ≡ Some a → integer_side_fits (signature_of p) width a ≡ true
      named None is h = no_some a h
      named (Some t) is h = integer_side t a (term_small word t is) h

      by : (b : Bool) → cond b (Some Zero) (option_and_then (as_integer p) (term_in p width word)) ≡ Some a → integer_side_fits (signature_of p) width a ≡ true
      by true h = subst (λ s. integer_side_fits (signature_of p) width s ≡ true) (some_same Zero a h) refl
      by false h = named (term_in p width word) refl h

  -- a literal fits, and its bound is within the limit
  abbrev pub IsLawfulLit : Lit → Type 0
  IsLawfulLit l = (literal_fits (signature_of p) width l ≡ true) × (is_bounded greatest_bound l ≡ true)

  of_sides : (same : Bool) (a b : PSide) → process_side_fits (signature_of p) width a ≡ true → process_side_fits (signature_of p) width b ≡ true → IsLawfulLit (of_processes same a b)
  of_sides true a b h k = (and_from (process_side_fits (signature_of p) width a) (process_side_fits (signature_of p) width b) h k, refl)
  of_sides false a b h k = (and_from (process_side_fits (signature_of p) width a) (process_side_fits (signature_of p) width b) h k, refl)

  processes_lawful : (same : Bool) (oa ob : Option PSide) (l : Lit)
      → ((a : PSide) → oa ≡ Some a → process_side_fits (signature_of p) width a ≡ true) → ((b : PSide) → ob ≡ Some b → process_side_fits (signature_of p) width b ≡ true)
      → processes_in same oa ob ≡ Some l → IsLawfulLit l
  processes_lawful same None ob l fa fb h = no_some l h
  processes_lawful same (Some a) None l fa fb h = no_some l h
  processes_lawful same (Some a) (Some b) l fa fb h = subst IsLawfulLit (some_same (of_processes same a b) l h) (of_sides same a b (fa a refl) (fb b refl))

  of_terms : (same : Bool) (a b : Term) → same_finite (sort_of (signature_of p) a) (sort_of (signature_of p) b) ≡ true → place_fits width a ≡ true → place_fits width b ≡ true → IsLawfulLit (of_finite same a b)
  of_terms true a b s h k = (
    and_from (same_finite (sort_of (signature_of p) a) (sort_of (signature_of p) b) && place_fits width a) (place_fits width b)
        (and_from (same_finite (sort_of (signature_of p) a) (sort_of (signature_of p) b)) (place_fits width a) s h) k,
    refl,
  )
  of_terms false a b s h k = (
    and_from (same_finite (sort_of (signature_of p) a) (sort_of (signature_of p) b) && place_fits width a) (place_fits width b)
        (and_from (same_finite (sort_of (signature_of p) a) (sort_of (signature_of p) b)) (place_fits width a) s h) k,
    refl,
  )

  terms_lawful : (same : Bool) (a b : Term) (l : Lit) → place_fits width a ≡ true → place_fits width b ≡ true → terms_in p same a b ≡ Some l → IsLawfulLit l
  terms_lawful same a b l h k is =
      let test = of_test (same_finite (sort_of (signature_of p) a) (sort_of (signature_of p) b)) (of_finite same a b) l is in
      subst IsLawfulLit test.1 (of_terms same a b test.0 h k)

  -- as many names as constructors
  pub names_count : (o : Option Sort) → length (names_of_sort p o) ≡ option_map_or (constructors_of (signature_of p)) o 0
  names_count None = refl
  names_count (Some (Sort.Fin k)) = by (slice_get p.sorts k)
    where
      by : (o : Option SortDecl) → length (option_map_or (λ d. d.cons) o []) ≡ option_map_or (λ d. length d.cons) o 0
      by None = refl
      by (Some d) = refl
  names_count (Some Sort.Proc) = refl
  names_count (Some Sort.Int) = refl

  found_small : (names : List (List ℕ)) (name : List ℕ) (c : ℕ) → constructor_in names name ≡ Some c → c < length names
  found_small names name c h =
      let test = of_test (nat_lt (number_of (λ n. n) names name) (length names)) (number_of (λ n. n) names name) c h in
      subst (λ k. k < length names) test.1 (ltb-true (number_of (λ n. n) names name) (length names) test.0)

  pub less_pow : (a n : ℕ) → a < n → 2 ^ a < 2 ^ n
  less_pow a n h = let double = pow_mono h in omega (arith, double, pow_pos a)

  member_lawful : (t : Term) (mask : ℕ) → is_finite (sort_of (signature_of p) t) ≡ true → place_fits width t ≡ true → mask < 2 ^ length (names_of_sort p (sort_of (signature_of p) t)) → IsLawfulLit (FinIn t mask)
  member_lawful t mask finite small inside =
      let below : nat_lt mask (2 ^ constructors_at (signature_of p) t) ≡ true =
      lt-ltb mask (2 ^ constructors_at (signature_of p) t) (subst (λ n. mask < 2 ^ n) (names_count (sort_of (signature_of p) t)) inside) in (
        and_from (is_finite (sort_of (signature_of p) t) && place_fits width t) (nat_lt mask (2 ^ constructors_at (signature_of p) t))
            (and_from (is_finite (sort_of (signature_of p) t)) (place_fits width t) finite small) below,
        refl,
      )

  finite_lawful : (same : Bool) (t : Term) (word : List ℕ) (l : Lit) → is_finite (sort_of (signature_of p) t) ≡ true → place_fits width t ≡ true
      → finite_in p width same t word (constructor_in (names_of_sort p (sort_of (signature_of p) t)) word) ≡ Some l → IsLawfulLit l
  finite_lawful same t word l finite small h = by same (constructor_in (names_of_sort p (sort_of (signature_of p) t)) word) refl h
    where
      named : (same : Bool) (o : Option Term) → term_in p width word ≡ o → option_and_then (terms_in p same t) o ≡ Some l → IsLawfulLit l
      named same None is h = no_some l h
      named same (Some b) is h = terms_lawful same t b l small (term_small word b is) h

      by : (same : Bool) (o : Option ℕ) → constructor_in (names_of_sort p (sort_of (signature_of p) t)) word ≡ o → finite_in p width same t word o ≡ Some l → IsLawfulLit l
      by true (Some c) is h =
          let inside = found_small (names_of_sort p (sort_of (signature_of p) t)) word c is in
          subst IsLawfulLit (some_same (FinIn t (2 ^ c)) l h) (member_lawful t (2 ^ c) finite small (less_pow c (length (names_of_sort p (sort_of (signature_of p) t))) inside))
      by false (Some c) is h = no_some l h
      by true None is h = named true (term_in p width word) refl h
      by false None is h = named false (term_in p width word) refl h

  equation_lawful : (same : Bool) (t : Term) (word : List ℕ) (l : Lit) → place_fits width t ≡ true → equation_of p width same t word ≡ Some l → IsLawfulLit l
  equation_lawful same t word l small h = by (is_finite (sort_of (signature_of p) t)) refl h
    where
      by : (b : Bool) → is_finite (sort_of (signature_of p) t) ≡ b
          → cond b (finite_in p width same t word (constructor_in (names_of_sort p (sort_of (signature_of p) t)) word)) (processes_in same (as_process p t) (process_in p width word)) ≡ Some l → IsLawfulLit l
      by true is h = finite_lawful same t word l is small h
      by false is h = processes_lawful same (as_process p t) (process_in p width word) l (global_side t) (process_small word) h

  equation_in_lawful : (same : Bool) (a b : List ℕ) (l : Lit) → equation_in p width same a b ≡ Some l → IsLawfulLit l
  equation_in_lawful same a b l h = by (is_place a) h
    where
      named : (o : Option Term) → term_in p width a ≡ o → option_and_then (λ t. equation_of p width same t b) o ≡ Some l → IsLawfulLit l
      named None is h = no_some l h
      named (Some t) is h = equation_lawful same t b l (term_small a t is) h

      by : (x : Bool) → cond x (processes_in same (process_in p width a) (process_in p width b)) (option_and_then (λ t. equation_of p width same t b) (term_in p width a)) ≡ Some l → IsLawfulLit l
      by true h = processes_lawful same (process_in p width a) (process_in p width b) l (process_small a) (process_small b) h
      by false h = named (term_in p width a) refl h

  mask_small : (cons : List (List ℕ)) (mask : ℕ) (names : List (List ℕ)) (m : ℕ) → mask < 2 ^ length cons → mask_from cons mask names ≡ Some m → m < 2 ^ length cons
  mask_small cons mask [] m small h = subst (λ k. k < 2 ^ length cons) (some_same mask m h) small
  mask_small cons mask (name ∷ names) m small h = by (constructor_in cons name) refl h (λ c inside is. mask_small cons (bit_or mask (2 ^ c)) names m (or_lt (length cons) mask (2 ^ c) small (less_pow c (length cons) inside)) is)
    where
      by : (o : Option ℕ) → constructor_in cons name ≡ o → option_and_then (λ c. mask_from cons (bit_or mask (2 ^ c)) names) o ≡ Some m
          → ((c : ℕ) → c < length cons → mask_from cons (bit_or mask (2 ^ c)) names ≡ Some m → m < 2 ^ length cons) → m < 2 ^ length cons
      by None is h later = no_some m h
      by (Some c) is h later = later c (found_small cons name c is) h

  membership_lawful : (set : List ℕ) (t : Term) (l : Lit) → place_fits width t ≡ true → membership_of p set t ≡ Some l → IsLawfulLit l
  membership_lawful set t l small h = by (is_finite (sort_of (signature_of p) t)) refl h
    where
      cons : List (List ℕ)
      cons = names_of_sort p (sort_of (signature_of p) t)

      of_mask : (o : Option ℕ) → mask_from (names_of_sort p (sort_of (signature_of p) t)) 0 (set_names (before 125 (behind_first set))) ≡ o → is_finite (sort_of (signature_of p) t) ≡ true
          → option_map (λ mask. FinIn t mask) o ≡ Some l → IsLawfulLit l
      of_mask None is finite h = no_some l h
      of_mask (Some mask) is finite h =
          subst IsLawfulLit (some_same (FinIn t mask) l h)
          (member_lawful t mask finite small (mask_small (names_of_sort p (sort_of (signature_of p) t)) 0 (set_names (before 125 (behind_first set))) mask (pow_pos (length (names_of_sort p (sort_of (signature_of p) t)))) is))

      by : (b : Bool) → is_finite (sort_of (signature_of p) t) ≡ b
          → cond b (option_map (λ mask. FinIn t mask) (mask_from (names_of_sort p (sort_of (signature_of p) t)) 0 (set_names (before 125 (behind_first set))))) None ≡ Some l → IsLawfulLit l
      by true finite h = of_mask (mask_from (names_of_sort p (sort_of (signature_of p) t)) 0 (set_names (before 125 (behind_first set)))) refl finite h
      by false finite h = no_some l h

  difference_lawful : (oa ob : Option ISide) (obound : Option ℤ) (l : Lit)
      → ((a : ISide) → oa ≡ Some a → integer_side_fits (signature_of p) width a ≡ true) → ((b : ISide) → ob ≡ Some b → integer_side_fits (signature_of p) width b ≡ true)
      → ((z : ℤ) → obound ≡ Some z → nat_le (unsigned_abs z) greatest_bound ≡ true) → difference_in oa ob obound ≡ Some l → IsLawfulLit l
  difference_lawful None ob obound l fa fb fz h = no_some l h
  difference_lawful (Some a) None obound l fa fb fz h = no_some l h
  difference_lawful (Some a) (Some b) None l fa fb fz h = no_some l h
  difference_lawful (Some a) (Some b) (Some z) l fa fb fz h =
      subst IsLawfulLit (some_same (Diff a b z) l h)
      (and_from (integer_side_fits (signature_of p) width a) (integer_side_fits (signature_of p) width b) (fa a refl) (fb b refl), fz z refl)

  bound_small : (word : List ℕ) (z : ℤ) → bound_in word ≡ Some z → nat_le (unsigned_abs z) greatest_bound ≡ true
  bound_small word z h = by (integer_of word) h
    where
      by : (o : Option ℤ) → option_and_then (λ y. if nat_le (unsigned_abs y) greatest_bound then Some y else None) o ≡ Some z → nat_le (unsigned_abs z) greatest_bound ≡ true
      by None h = no_some z h
      by (Some y) h =
          let test = of_test (nat_le (unsigned_abs y) greatest_bound) y z h in
          subst (λ x. nat_le (unsigned_abs x) greatest_bound ≡ true) test.1 test.0

  pub literal_lawful : (ws : List (List ℕ)) (l : Lit) → literal_in p width ws ≡ Some l → IsLawfulLit l
  literal_lawful [] l h = no_some l h
  literal_lawful (a ∷ []) l h = no_some l h
  literal_lawful (a ∷ b ∷ []) l h = no_some l h
  literal_lawful (a ∷ op ∷ b ∷ []) l h = by (bytes_eq op (codes "in")) h
    where
      named : (o : Option Term) → term_in p width a ≡ o → option_and_then (membership_of p b) o ≡ Some l → IsLawfulLit l
      named None is h = no_some l h
      named (Some t) is h = membership_lawful b t l (term_small a t is) h

      by : (x : Bool) → cond x (option_and_then (membership_of p b) (term_in p width a)) (equation_in p width (bytes_eq op (codes "=")) a b) ≡ Some l → IsLawfulLit l
      by true h = named (term_in p width a) refl h
      by false h = equation_in_lawful (bytes_eq op (codes "=")) a b l h
  literal_lawful (a ∷ b ∷ c ∷ d ∷ []) l h = no_some l h
  literal_lawful (a ∷ minus ∷ b ∷ most ∷ bound ∷ []) l h =
      difference_lawful (integer_side_in p width a) (integer_side_in p width b) (bound_in bound) l (integer_small a) (integer_small b) (bound_small bound) h
  literal_lawful (a ∷ b ∷ c ∷ d ∷ e ∷ f ∷ gs) l h = no_some l h
