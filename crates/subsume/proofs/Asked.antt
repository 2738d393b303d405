-- What a conjunction that some state meets must have to entail a literal: the terms that the literal asks for, and for a
-- membership, where no finite terms are compared, a membership of the same term.
use Rattle.std.proofs.Common.{◌≡◌, ◌⊎◌, ℕ, zero, suc, ◌+◌, ◌-◌, ◌<◌, ◌^◌, Bool, true, false, not, List, [], ◌∷◌, ◌++◌, length, get_or, ℤ, pos, ◌+ℤ◌, ◌-ℤ◌, ◌≤ℤ◌, inl, inr, refl, sym, ap, ◌∙◌, subst, arith}
use Rattle.std.specs.Prelude.{IsTrue, ◌&&◌, ◌==◌, nat_lt, Contains}
use Rattle.std.specs.List.{list_all, list_any}
use Rattle.std.specs.Int.{bit_at}
use Rattle.std.specs.Ordering.{is_lt, ordering_reverse}
use Rattle.std.specs.declared.cmp.Ordering.{Ordering}
use Rattle.std.specs.declared.cmp.Ordering.TheVariants.{Less, Equal, Greater}
use Rattle.std.proofs.lemmas.Bool.{cases_Bool, cases_eq, cond-true, cond-false, eqb-true, eq-eqb, eqb-false, ltb-true, not-true, true≢false, or_parts}
use Rattle.std.proofs.lemmas.Int.{ints}
use Rattle.std.proofs.lemmas.Nat.Bits.{same_from_bits_below, bit_at_ones, bit_at-lt}
use Rattle.std.proofs.lemmas.List.Elements.{Contains-get_or, Contains-append_cases}
use Rattle.cub_proto.specs.declared.literal.Term.{Term}
use Rattle.cub_proto.specs.declared.literal.PSide.{PSide}
use Rattle.cub_proto.specs.declared.literal.ISide.{ISide}
use Rattle.cub_proto.specs.declared.literal.ISide.TheVariants.{Zero, At}
use Rattle.cub_proto.specs.declared.literal.Lit.{Lit}
use Rattle.cub_proto.specs.declared.literal.Lit.TheVariants.{FinIn, FinEq, FinNe, ProcEq, ProcNe, Diff}
use Rattle.cub_proto.specs.declared.protocol.Protocol.{Protocol}
use Rattle.cub_proto.specs.Signature.{Signature, sort_of, constructors_at, same_finite}
use Rattle.cub_proto.specs.StateOf.{signature_of}
use Rattle.cub_proto.specs.Truth.{has_bit}
use Rattle.cub_proto.specs.Fits.{literal_fits, place_fits, is_finite}
use Rattle.cub_base.proofs.Bools.{and_left, and_right, and_both}
use Rattle.cub_base.proofs.Elements.{all_from, from_all}
use Rattle.cub_base.proofs.Members.{Has, contains_Has, has_Contains}
use Rattle.cub_cube.specs.Mentions.{process_side_terms, integer_side_terms}
use Rattle.cub_cube.specs.Normal.{subject_cmp, subjects_rise}
use Rattle.cub_cube.proofs.Orders.{subject_cmp_total}
use Rattle.fin_dom.specs.Solution as fin
use Rattle.fin_dom.proofs.Masks.{has_bit_from, bit_from, pow_has, pow_only}
use Rattle.proc_eq.specs.Solution as proc
use Rattle.diff_close.specs.Literals as diff
use Rattle.theory_laws.specs.Solved.{PartsHaveSolutions}
use Rattle.theory_laws.specs.Entailed.{Entails}
use Rattle.theory_laws.specs.Kinds.{is_link}
use Rattle.theory_laws.proofs.Building.{same_finite_left, same_finite_right}
use Rattle.theory_laws.proofs.Domains.{same_is}
use Rattle.theory_laws.proofs.Parts.{some_constructor}
use Rattle.theory_laws.proofs.Combined.{clamped, clamp_solves, true_of_joined, diff_follows, proc_follows}
use Rattle.theory_laws.proofs.Extending.{parts_allow, all_both, finite_more, integers_more}
use Rattle.subsume.specs.Marks.{asked_terms}
use Rattle.subsume.proofs.Changed.{IsAsked, changed, changed_here, changed_other, one_case, two_cases, sides_alike, asked_sides, clamp_is, clamp_inside, lit_inside, finite_kept, proc_changed, proc_here, proc_other, processes_kept, value_here, value_other, integers_kept}

-- the literal is not true whatever the values are: its mask lacks a constructor, its sides differ, its bound is negative
abbrev pub MayFail : Signature → Lit → Type 0
MayFail sig (FinIn t mask) = mask ≡ 2 ^ constructors_at sig t - 1 → ⊥
MayFail sig (FinEq a b) = a ≡ b → ⊥
MayFail sig (FinNe a b) = Unit {0}
MayFail sig (ProcEq a b) = a ≡ b → ⊥
MayFail sig (ProcNe a b) = Unit {0}
MayFail sig (Diff a b bound) = a ≡ b → pos 0 ≤ℤ bound → ⊥

-- ---- masks
-- a mask that is not full lacks a constructor
record HasGap (mask n : ℕ) : Type 0 where
  gap : ℕ
  below : gap < n
  out : has_bit mask gap ≡ false

gap_or_all : (mask n : ℕ) → HasGap mask n ⊎ ((c : ℕ) → c < n → has_bit mask c ≡ true)
gap_or_all mask zero = inr (λ c below. absurd (omega arith))
gap_or_all mask (suc n) = elim (gap_or_all mask n) [
  | inl found ↦ inl (record { gap = found.gap; below = omega (arith, found.below); out = found.out })
  | inr all ↦ elim (cases_Bool (has_bit mask n)) [
    | inl here ↦ inr (λ c below. elim (cases_eq c n) [
      | inl same ↦ ap (has_bit mask) same ∙ here
      | inr other ↦ all c (omega arith)
    ])
    | inr none ↦ inl (record { gap = n; below = omega arith; out = none })
  ]
]

has_gap : (mask n : ℕ) → mask < 2 ^ n → (mask ≡ 2 ^ n - 1 → ⊥) → HasGap mask n
has_gap mask n fits lacks = elim (gap_or_all mask n) [
  | inl found ↦ found
  | inr all ↦ absurd (lacks (same_from_bits_below n mask (2 ^ n - 1) fits (omega arith) (λ i below. bit_from mask i (all i below) ∙ sym (bit_at_ones n i below))))
]

-- a mask with constructor c alone is that of c
pub only_bit : (mask n c : ℕ) → mask < 2 ^ n → c < n → has_bit mask c ≡ true → ((d : ℕ) → d < n → has_bit mask d ≡ true → d ≡ c) → 2 ^ c < 2 ^ n → mask ≡ 2 ^ c
only_bit mask n c fits below here only small = same_from_bits_below n mask (2 ^ c) fits small (λ i inside. elim (cases_eq i c) [
  | inl same ↦ subst (λ k. bit_at mask k ≡ bit_at (2 ^ c) k) (sym same) (bit_from mask c here ∙ sym (bit_from (2 ^ c) c (pow_has c)))
  | inr other ↦ none mask i (λ h. other (only i inside h)) ∙ sym (none (2 ^ c) i (λ h. other (pow_only c i h)))
])
  where
    none : (m i : ℕ) → (has_bit m i ≡ true → ⊥) → bit_at m i ≡ 0
    none m i lacks = elim (cases_eq (bit_at m i) 1) [
      | inl one ↦ absurd (lacks (has_bit_from m i one))
      | inr other ↦ omega (arith, bit_at-lt m i)
    ]

-- ---- one membership of a term
self_equal : (o : Ordering) → o ≡ ordering_reverse o → o ≡ Equal
self_equal Less h = cc
self_equal Equal h = refl
self_equal Greater h = cc

same_not_less : (o : Ordering) → o ≡ Equal → is_lt o ≡ true → ⊥
same_not_less Less e h = absurd (cc)
same_not_less Equal e h = absurd (cc)
same_not_less Greater e h = absurd (cc)

module _ (t : Term) where
  members_alike : (m n : ℕ) → subject_cmp (FinIn t m) (FinIn t n) ≡ Equal
  members_alike m n = self_equal (subject_cmp (FinIn t m) (FinIn t n)) (subject_cmp_total.antisymm (FinIn t m) (FinIn t n))

  has_true : (test : Lit → Bool) (lits : List Lit) (l : Lit) → list_all test lits ≡ true → Has lits l → test l ≡ true
  has_true test [] l all h = absurd h
  has_true test (x ∷ xs) l all (inl same) = ap test (sym same) ∙ and_left (test x) (list_all test xs) all
  has_true test (x ∷ xs) l all (inr later) = has_true test xs l (and_right (test x) (list_all test xs) all) later

  one_mask : (lits : List Lit) (m n : ℕ) → IsTrue (subjects_rise lits) → Has lits (FinIn t m) → Has lits (FinIn t n) → m ≡ n
  one_mask [] m n rise h k = absurd h
  one_mask (x ∷ xs) m n rise (inl first) (inl second) =
      let e : FinIn t m ≡ FinIn t n = sym first ∙ second in cc
  one_mask (x ∷ xs) m n rise (inl first) (inr later) =
      absurd (same_not_less (subject_cmp x (FinIn t n)) (ap (λ l. subject_cmp l (FinIn t n)) first ∙ members_alike m n)
      (has_true (λ l. is_lt (subject_cmp x l)) xs (FinIn t n) (and_left (list_all (λ l. is_lt (subject_cmp x l)) xs) (subjects_rise xs) rise) later))
  one_mask (x ∷ xs) m n rise (inr later) (inl first) =
      absurd (same_not_less (subject_cmp x (FinIn t m)) (ap (λ l. subject_cmp l (FinIn t m)) first ∙ members_alike n m)
      (has_true (λ l. is_lt (subject_cmp x l)) xs (FinIn t m) (and_left (list_all (λ l. is_lt (subject_cmp x l)) xs) (subjects_rise xs) rise) later))
  one_mask (x ∷ xs) m n rise (inr before) (inr later) = one_mask xs m n (and_right (list_all (λ l. is_lt (subject_cmp x l)) xs) (subjects_rise xs) rise) before later

-- ---- terms of literals
side_case : (a : PSide) (t : Term) → Contains (process_side_terms a) t → (g : ℕ) × (a ≡ PSide.Global g) × (t ≡ Term.Global g)
side_case (PSide.Global g) t h = (g, refl, sym (one_case (Term.Global g) t h))
side_case (PSide.Place p) t h = absurd (omega (arith, h.1))

integer_case : (a : ISide) (t : Term) → Contains (integer_side_terms a) t → a ≡ At t
integer_case Zero t h = absurd (omega (arith, h.1))
integer_case (At s) t h = ap At (one_case s t h)

-- ---- another constructor
another : ℕ → ℕ
another zero = 1
another (suc n) = 0

another_below : (y n : ℕ) → 0 < n → (n ≡ 1 → ⊥) → another y < n
unfolding another
another_below zero n some several = elim (cases_eq n 1) [
  | inl one ↦ absurd (several one)
  | inr more ↦ omega arith
]
another_below (suc y) n some several = some

another_differs : (y : ℕ) → another y ≡ y → ⊥
unfolding another
another_differs zero same = omega arith
another_differs (suc y) same = omega arith

same_term_self : (s t : Term) → s ≡ t → fin.same_term s t ≡ true
same_term_self s t same = subst (λ x. fin.same_term s x ≡ true) same (self s)
  where
    self : (t : Term) → fin.same_term t t ≡ true
    self (Term.Global g) = eq-eqb g g refl
    self (Term.Cell a q) = and_both (a == a) (q == q) (eq-eqb a a refl) (eq-eqb q q refl)

is_term : (a : ISide) (t : Term) → (a ≡ At t) ⊎ (a ≡ At t → ⊥)
is_term Zero t = inr (λ same. absurd (cc))
is_term (At s) t = elim (cases_Bool (fin.same_term s t)) [
  | inl h ↦ inl (ap At (same_is s t h))
  | inr h ↦ inr (λ same. let e : s ≡ t = cc in true≢false (sym (same_term_self s t e) ∙ h))
]

above_bound : (x y z bound : ℤ) → x ≡ y +ℤ bound +ℤ pos 1 → z ≡ y → (x -ℤ z) ≤ℤ bound → ⊥
above_bound x y z bound e f h = omega (arith, ints)

below_bound : (x y z bound : ℤ) → x ≡ y -ℤ bound -ℤ pos 1 → z ≡ y → (z -ℤ x) ≤ℤ bound → ⊥
below_bound x y z bound e f h = omega (arith, ints)

zero_bound : (x y bound : ℤ) → x ≡ y → (x -ℤ y) ≤ℤ bound → pos 0 ≤ℤ bound
zero_bound x y bound e h = omega (arith, ints)

pub none_at : {A : Type 0} (test : A → Bool) (xs : List A) (k : ℕ) (d : A) → list_any test xs ≡ false → k < length xs → test (get_or xs k d) ≡ false
none_at test [] k d h below = absurd (omega arith)
none_at test (x ∷ xs) zero d h below = (or_parts (test x) (list_any test xs) h).0
none_at test (x ∷ xs) (suc k) d h below = none_at test xs k d (or_parts (test x) (list_any test xs) h).1 (omega arith)

-- a list has a membership of the term or none
member_or_none : (t : Term) (lits : List Lit) → ((m : ℕ) × Has lits (FinIn t m)) ⊎ ((m : ℕ) → Has lits (FinIn t m) → ⊥)
member_or_none t [] = inr (λ m h. h)
member_or_none t (l ∷ ls) = elim (member_or_none t ls) [
  | inl found ↦ inl (found.0, inr found.1)
  | inr none ↦ by l none
]
  where
    other : (l : Lit) → ((m : ℕ) → l ≡ FinIn t m → ⊥) → ((m : ℕ) → Has ls (FinIn t m) → ⊥) → (m : ℕ) → Has (l ∷ ls) (FinIn t m) → ⊥
    other l differ none m (inl same) = differ m same
    other l differ none m (inr later) = none m later

    by : (l : Lit) → ((m : ℕ) → Has ls (FinIn t m) → ⊥) → ((m : ℕ) × Has (l ∷ ls) (FinIn t m)) ⊎ ((m : ℕ) → Has (l ∷ ls) (FinIn t m) → ⊥)
    by (FinIn s mask) none = elim (cases_Bool (fin.same_term s t)) [
      | inl h ↦ inl (mask, inl (ap (λ x. FinIn x mask) (same_is s t h)))
      | inr h ↦ inr (other (FinIn s mask) (λ m same. let e : s ≡ t = cc in true≢false (sym (same_term_self s t e) ∙ h)) none)
    ]
    by (FinEq a b) none = inr (other (FinEq a b) (λ m same. absurd (cc)) none)
    by (FinNe a b) none = inr (other (FinNe a b) (λ m same. absurd (cc)) none)
    by (ProcEq a b) none = inr (other (ProcEq a b) (λ m same. absurd (cc)) none)
    by (ProcNe a b) none = inr (other (ProcNe a b) (λ m same. absurd (cc)) none)
    by (Diff a b bound) none = inr (other (Diff a b bound) (λ m same. absurd (cc)) none)

-- a membership that stands in the list, all whose constructors are in the mask
pub record HasMember (sig : Signature) (lits : List Lit) (t : Term) (mask : ℕ) : Type 0 where
  pub own : ℕ
  pub there : Contains lits (FinIn t own)
  pub inside : (c : ℕ) → c < constructors_at sig t → has_bit own c ≡ true → has_bit mask c ≡ true
  pub some : ℕ
  pub some_below : some < constructors_at sig t
  pub some_has : has_bit own some ≡ true

-- ---- a literal that is entailed asks for nothing new
module _ (p : Protocol) (width : ℕ) (lits : List Lit) (fit : IsTrue (list_all (literal_fits (signature_of p) width) lits)) (parts : PartsHaveSolutions p width lits) where
  abbrev base : Term → ℕ
  base = clamped (signature_of p) parts.finite.0

  base_solves : fin.Solves (signature_of p) lits base
  base_solves = clamp_solves (signature_of p) parts.finite.0 lits parts.finite.1

  base_inside : (t : Term) → 0 < constructors_at (signature_of p) t → base t < constructors_at (signature_of p) t
  base_inside t some = clamp_inside (signature_of p) parts.finite.0 t some

  -- with the constructor c for t
  module _ (t : Term) (c : ℕ) (below : c < constructors_at (signature_of p) t) where
    abbrev moved : Term → ℕ
    moved = changed base t c

    moved_at : clamped (signature_of p) moved t ≡ c
    moved_at =
        let here : changed base t c t ≡ c = changed_here base t c in
        clamp_is (signature_of p) (changed base t c) t (omega arith) ∙ here

    moved_other : (s : Term) → (s ≡ t → ⊥) → 0 < constructors_at (signature_of p) s → clamped (signature_of p) moved s ≡ base s
    moved_other s other some =
        let there : changed base t c s ≡ base s = changed_other base t c s other in
        let inside = base_inside s some in
        clamp_is (signature_of p) (changed base t c) s (omega arith) ∙ there

    moved_true : fin.Solves (signature_of p) lits moved → (mask : ℕ) → IsTrue (literal_fits (signature_of p) width (FinIn t mask)) → Entails p width lits (FinIn t mask) → has_bit mask c ≡ true
    moved_true solves mask fits entails =
        ap (has_bit mask) (sym moved_at)
        ∙ true_of_joined p width lits moved parts.processes.0 parts.integers.0 solves parts.processes.1 parts.integers.1 (FinIn t mask) fit fits entails

    moved_solves : (IsAsked (signature_of p) lits t → ⊥) → fin.Solves (signature_of p) lits moved
    moved_solves free = finite_kept (signature_of p) width base t c below lits fit free base_solves

  member_some : (t : Term) (mask : ℕ) → IsTrue (literal_fits (signature_of p) width (FinIn t mask)) → mask < 2 ^ constructors_at (signature_of p) t
  member_some t mask fits = ltb-true mask (2 ^ constructors_at (signature_of p) t) (and_right (is_finite (sort_of (signature_of p) t) && place_fits width t) (nat_lt mask (2 ^ constructors_at (signature_of p) t)) fits)

  member_asks : (t : Term) (mask : ℕ) → IsTrue (literal_fits (signature_of p) width (FinIn t mask)) → MayFail (signature_of p) (FinIn t mask) → Entails p width lits (FinIn t mask) → (IsAsked (signature_of p) lits t → ⊥) → ⊥
  member_asks t mask fits lacks entails free =
      let found = has_gap mask (constructors_at (signature_of p) t) (member_some t mask fits) lacks in
      true≢false (sym (moved_true t found.gap found.below (moved_solves t found.gap found.below free) mask fits entails) ∙ found.out)

  -- an equality and a disequality
  module _ (a b : Term) (fits : IsTrue (literal_fits (signature_of p) width (FinEq a b))) where
    sorts : IsTrue (same_finite (sort_of (signature_of p) a) (sort_of (signature_of p) b))
    sorts = and_left (same_finite (sort_of (signature_of p) a) (sort_of (signature_of p) b)) (place_fits width a)
        (and_left (same_finite (sort_of (signature_of p) a) (sort_of (signature_of p) b) && place_fits width a) (place_fits width b) fits)

    some_first : 0 < constructors_at (signature_of p) a
    some_first = some_constructor p a (same_finite_left (sort_of (signature_of p) a) (sort_of (signature_of p) b) sorts)

    some_second : 0 < constructors_at (signature_of p) b
    some_second = some_constructor p b (same_finite_right (sort_of (signature_of p) a) (sort_of (signature_of p) b) sorts)

    joined_equal : (u : Term → ℕ) → fin.Solves (signature_of p) lits u → Entails p width lits (FinEq a b) → clamped (signature_of p) u a ≡ clamped (signature_of p) u b
    joined_equal u solves entails =
        eqb-true (clamped (signature_of p) u a) (clamped (signature_of p) u b)
        (true_of_joined p width lits u parts.processes.0 parts.integers.0 solves parts.processes.1 parts.integers.1 (FinEq a b) fit fits entails)

    joined_other : (u : Term → ℕ) → fin.Solves (signature_of p) lits u → Entails p width lits (FinNe a b) → clamped (signature_of p) u a ≡ clamped (signature_of p) u b → ⊥
    joined_other u solves entails =
        let h : not (clamped (signature_of p) u a == clamped (signature_of p) u b) ≡ true =
        true_of_joined p width lits u parts.processes.0 parts.integers.0 solves parts.processes.1 parts.integers.1 (FinNe a b) fit fits entails in
        eqb-false (clamped (signature_of p) u a) (clamped (signature_of p) u b) (not-true (clamped (signature_of p) u a == clamped (signature_of p) u b) h)

    -- another constructor than the other term has
    equal_first : (constructors_at (signature_of p) a ≡ 1 → ⊥) → (a ≡ b → ⊥) → Entails p width lits (FinEq a b) → (IsAsked (signature_of p) lits a → ⊥) → ⊥
    equal_first several differ entails free =
        let c = another (base b) in
        let below : c < constructors_at (signature_of p) a = another_below (base b) (constructors_at (signature_of p) a) some_first several in
        another_differs (base b) (sym (moved_at a c below) ∙ joined_equal (moved a c below) (moved_solves a c below free) entails ∙ moved_other a c below b (λ same. differ (sym same)) some_second)

    equal_second : (constructors_at (signature_of p) b ≡ 1 → ⊥) → (a ≡ b → ⊥) → Entails p width lits (FinEq a b) → (IsAsked (signature_of p) lits b → ⊥) → ⊥
    equal_second several differ entails free =
        let c = another (base a) in
        let below : c < constructors_at (signature_of p) b = another_below (base a) (constructors_at (signature_of p) b) some_second several in
        another_differs (base a) (sym (moved_at b c below) ∙ sym (joined_equal (moved b c below) (moved_solves b c below free) entails) ∙ moved_other b c below a differ some_first)

    -- the constructor that the other term has
    other_first : Entails p width lits (FinNe a b) → (IsAsked (signature_of p) lits a → ⊥) → ⊥
    other_first entails free = elim (cases_Bool (fin.same_term b a)) [
      | inl same ↦
          let one : b ≡ a = same_is b a same in
          joined_other base base_solves entails (ap (clamped (signature_of p) base) (sym one))
      | inr differ ↦
          let alike : constructors_at (signature_of p) a ≡ constructors_at (signature_of p) b = sides_alike (signature_of p) width a b fits in
          let inside = base_inside b some_second in
          let below : base b < constructors_at (signature_of p) a = omega arith in
          joined_other (moved a (base b) below) (moved_solves a (base b) below free) entails
          (moved_at a (base b) below ∙ sym (moved_other a (base b) below b (λ same. true≢false (sym (same_term_self b a same) ∙ differ)) some_second))
    ]

    other_second : Entails p width lits (FinNe a b) → (IsAsked (signature_of p) lits b → ⊥) → ⊥
    other_second entails free = elim (cases_Bool (fin.same_term a b)) [
      | inl same ↦
          let one : a ≡ b = same_is a b same in
          joined_other base base_solves entails (ap (clamped (signature_of p) base) one)
      | inr differ ↦
          let alike : constructors_at (signature_of p) a ≡ constructors_at (signature_of p) b = sides_alike (signature_of p) width a b fits in
          let inside = base_inside a some_first in
          let below : base a < constructors_at (signature_of p) b = omega arith in
          joined_other (moved b (base a) below) (moved_solves b (base a) below free) entails
          (moved_other b (base a) below a (λ same. true≢false (sym (same_term_self a b same) ∙ differ)) some_first ∙ sym (moved_at b (base a) below))
    ]

  -- ---- processes
  module _ (v : PSide → ℕ) (solves : proc.Solves width lits v) where
    apart_holds : (a b : PSide) → IsTrue (literal_fits (signature_of p) width (ProcNe a b)) → Entails p width lits (ProcNe a b) → v a ≡ v b → ⊥
    apart_holds a b fits entails same =
        parts_allow p width lits fit (ProcNe a b) fits (record {
          finite = finite_more (signature_of p) lits (ProcEq a b ∷ []) refl parts.finite;
          processes = (v, record { apart = solves.apart; holds = all_both (proc.is_true v) lits (ProcEq a b ∷ []) solves.holds (and_both (v a == v b) true (eq-eqb (v a) (v b) same) refl) });
          integers = integers_more lits (ProcEq a b ∷ []) refl parts.integers;
        }) entails

  module _ (a b : PSide) (g : ℕ) (free : IsAsked (signature_of p) lits (Term.Global g) → ⊥) where
    with_process : (n : ℕ) → proc.Solves width lits (proc_changed parts.processes.0 g n)
    with_process n = processes_kept parts.processes.0 g n (signature_of p) width lits free parts.processes.1

    here : (n : ℕ) (c : PSide) → c ≡ PSide.Global g → proc_changed parts.processes.0 g n c ≡ n
    here n c is = ap (proc_changed parts.processes.0 g n) is ∙ proc_here parts.processes.0 g n

    equal_process_first : a ≡ PSide.Global g → (a ≡ b → ⊥) → IsTrue (literal_fits (signature_of p) width (ProcEq a b)) → Entails p width lits (ProcEq a b) → ⊥
    equal_process_first is differ fits entails =
        let n = parts.processes.0 b + 1 in
        let e : proc_changed parts.processes.0 g n a ≡ proc_changed parts.processes.0 g n b = proc_follows p width lits fit a b fits parts entails (proc_changed parts.processes.0 g n) (with_process n) in
        let first : proc_changed parts.processes.0 g n a ≡ n = here n a is in
        let second : proc_changed parts.processes.0 g n b ≡ parts.processes.0 b = proc_other parts.processes.0 g n b (λ same. differ (is ∙ sym same)) in
        omega arith

    equal_process_second : b ≡ PSide.Global g → (a ≡ b → ⊥) → IsTrue (literal_fits (signature_of p) width (ProcEq a b)) → Entails p width lits (ProcEq a b) → ⊥
    equal_process_second is differ fits entails =
        let n = parts.processes.0 a + 1 in
        let e : proc_changed parts.processes.0 g n a ≡ proc_changed parts.processes.0 g n b = proc_follows p width lits fit a b fits parts entails (proc_changed parts.processes.0 g n) (with_process n) in
        let second : proc_changed parts.processes.0 g n b ≡ n = here n b is in
        let first : proc_changed parts.processes.0 g n a ≡ parts.processes.0 a = proc_other parts.processes.0 g n a (λ same. differ (same ∙ sym is)) in
        omega arith

    is_side : (c : PSide) → (c ≡ PSide.Global g) ⊎ (c ≡ PSide.Global g → ⊥)
    is_side (PSide.Global h) = elim (cases_eq h g) [
      | inl same ↦ inl (ap PSide.Global same)
      | inr other ↦ inr (λ same. other (cc))
    ]
    is_side (PSide.Place q) = inr (λ same. absurd (cc))

    settled : (n : ℕ) (c : PSide) → n ≡ parts.processes.0 c → proc_changed parts.processes.0 g n c ≡ n
    settled n c is = elim (is_side c) [
      | inl same ↦ here n c same
      | inr other ↦ proc_other parts.processes.0 g n c other ∙ sym is
    ]

    other_process_first : a ≡ PSide.Global g → IsTrue (literal_fits (signature_of p) width (ProcNe a b)) → Entails p width lits (ProcNe a b) → ⊥
    other_process_first is fits entails =
        let n = parts.processes.0 b in
        apart_holds (proc_changed parts.processes.0 g n) (with_process n) a b fits entails (here n a is ∙ sym (settled n b refl))

    other_process_second : b ≡ PSide.Global g → IsTrue (literal_fits (signature_of p) width (ProcNe a b)) → Entails p width lits (ProcNe a b) → ⊥
    other_process_second is fits entails =
        let n = parts.processes.0 a in
        apart_holds (proc_changed parts.processes.0 g n) (with_process n) a b fits entails (settled n a refl ∙ sym (here n b is))

  -- ---- integers
  module _ (a b : ISide) (bound : ℤ) (t : Term) (fits : IsTrue (literal_fits (signature_of p) width (Diff a b bound))) (lacks : MayFail (signature_of p) (Diff a b bound)) (entails : Entails p width lits (Diff a b bound))
      (free : IsAsked (signature_of p) lits t → ⊥) where
    abbrev w : Term → ℤ
    w = parts.integers.0

    bounded : (z : ℤ) → (diff.side_value (changed w t z) a -ℤ diff.side_value (changed w t z) b) ≤ℤ bound
    bounded z = diff_follows p width lits fit a b bound fits parts entails (changed w t z) (integers_kept w t z (signature_of p) lits free parts.integers.1)

    one_side : a ≡ b → ⊥
    one_side same =
        lacks same (zero_bound (diff.side_value w a) (diff.side_value w b) bound (ap (diff.side_value w) same) (diff_follows p width lits fit a b bound fits parts entails w parts.integers.1))

    integer_first : a ≡ At t → ⊥
    integer_first is = elim (is_term b t) [
      | inl same ↦ one_side (is ∙ sym same)
      | inr other ↦
          let z : ℤ = diff.side_value w b +ℤ bound +ℤ pos 1 in
          above_bound (diff.side_value (changed w t z) a) (diff.side_value w b) (diff.side_value (changed w t z) b) bound
          (ap (diff.side_value (changed w t z)) is ∙ value_here w t z) (value_other w t z b other) (bounded z)
    ]

    integer_second : b ≡ At t → ⊥
    integer_second is = elim (is_term a t) [
      | inl same ↦ one_side (same ∙ sym is)
      | inr other ↦
          let z : ℤ = diff.side_value w a -ℤ bound -ℤ pos 1 in
          below_bound (diff.side_value (changed w t z) b) (diff.side_value w a) (diff.side_value (changed w t z) a) bound
          (ap (diff.side_value (changed w t z)) is ∙ value_here w t z) (value_other w t z a other) (bounded z)
    ]

  -- ---- all kinds
  process_asks : (a b : PSide) (t : Term) → (a ≡ b → ⊥) → IsTrue (literal_fits (signature_of p) width (ProcEq a b)) → Entails p width lits (ProcEq a b) → Contains (process_side_terms a ++ process_side_terms b) t → (IsAsked (signature_of p) lits t → ⊥) → ⊥
  process_asks a b t differ fits entails asked free = elim (Contains-append_cases (process_side_terms a) (process_side_terms b) t asked) [
    | inl first ↦
        let side = side_case a t first in
        equal_process_first a b side.0 (λ h. free (subst (IsAsked (signature_of p) lits) (sym side.2) h)) side.1 differ fits entails
    | inr second ↦
        let side = side_case b t second in
        equal_process_second a b side.0 (λ h. free (subst (IsAsked (signature_of p) lits) (sym side.2) h)) side.1 differ fits entails
  ]

  other_asks : (a b : PSide) (t : Term) → IsTrue (literal_fits (signature_of p) width (ProcNe a b)) → Entails p width lits (ProcNe a b) → Contains (process_side_terms a ++ process_side_terms b) t → (IsAsked (signature_of p) lits t → ⊥) → ⊥
  other_asks a b t fits entails asked free = elim (Contains-append_cases (process_side_terms a) (process_side_terms b) t asked) [
    | inl first ↦
        let side = side_case a t first in
        other_process_first a b side.0 (λ h. free (subst (IsAsked (signature_of p) lits) (sym side.2) h)) side.1 fits entails
    | inr second ↦
        let side = side_case b t second in
        other_process_second a b side.0 (λ h. free (subst (IsAsked (signature_of p) lits) (sym side.2) h)) side.1 fits entails
  ]

  equal_asks : (a b t : Term) → (a ≡ b → ⊥) → IsTrue (literal_fits (signature_of p) width (FinEq a b)) → Entails p width lits (FinEq a b) → Contains (asked_terms (signature_of p) (FinEq a b)) t → (IsAsked (signature_of p) lits t → ⊥) → ⊥
  equal_asks a b t differ fits entails asked free = elim (cases_eq (constructors_at (signature_of p) a) 1) [
    | inl one ↦
        let nothing : asked_terms (signature_of p) (FinEq a b) ≡ [] = cond-true _ _ _ (eq-eqb (constructors_at (signature_of p) a) 1 one) in
        let none : List Term = [] in
        let there : Contains none t = subst (λ ts. Contains ts t) nothing asked in
        absurd (omega (arith, there.1))
    | inr several ↦ elim (two_cases a b t (subst (λ ts. Contains ts t) (asked_sides (signature_of p) a b several) asked)) [
      | inl first ↦ equal_first a b fits several differ entails (λ h. free (subst (IsAsked (signature_of p) lits) first h))
      | inr second ↦
          equal_second a b fits (λ one. several (sides_alike (signature_of p) width a b fits ∙ one)) differ entails (λ h. free (subst (IsAsked (signature_of p) lits) second h))
    ]
  ]

  pub asks_nothing_new : (lit : Lit) → IsTrue (literal_fits (signature_of p) width lit) → MayFail (signature_of p) lit → Entails p width lits lit → (t : Term) → Contains (asked_terms (signature_of p) lit) t → (IsAsked (signature_of p) lits t → ⊥) → ⊥
  asks_nothing_new (FinIn s mask) fits lacks entails t asked free =
      member_asks s mask fits lacks entails (λ h. free (subst (IsAsked (signature_of p) lits) (one_case s t asked) h))
  asks_nothing_new (FinEq a b) fits lacks entails t asked free = equal_asks a b t lacks fits entails asked free
  asks_nothing_new (FinNe a b) fits lacks entails t asked free = elim (two_cases a b t asked) [
    | inl first ↦ other_first a b fits entails (λ h. free (subst (IsAsked (signature_of p) lits) first h))
    | inr second ↦ other_second a b fits entails (λ h. free (subst (IsAsked (signature_of p) lits) second h))
  ]
  asks_nothing_new (ProcEq a b) fits lacks entails t asked free = process_asks a b t lacks fits entails asked free
  asks_nothing_new (ProcNe a b) fits lacks entails t asked free = other_asks a b t fits entails asked free
  asks_nothing_new (Diff a b bound) fits lacks entails t asked free = elim (Contains-append_cases (integer_side_terms a) (integer_side_terms b) t asked) [
    | inl first ↦ integer_first a b bound t fits lacks entails free (integer_case a t first)
    | inr second ↦ integer_second a b bound t fits lacks entails free (integer_case b t second)
  ]

  -- ---- memberships, where no finite terms are compared
  module _ (free : list_any is_link lits ≡ false) (rise : IsTrue (subjects_rise lits)) where
    module _ (t : Term) (c : ℕ) (below : c < constructors_at (signature_of p) t) (each : (m : ℕ) → Contains lits (FinIn t m) → has_bit m c ≡ true) where
      lit_holds : (l : Lit) → is_link l ≡ false → ((m : ℕ) → l ≡ FinIn t m → has_bit m c ≡ true) → fin.is_true base l ≡ true → fin.is_true (changed base t c) l ≡ true
      lit_holds (FinIn s mask) link has h = elim (cases_Bool (fin.same_term s t)) [
        | inl same ↦
            let one : s ≡ t = same_is s t same in
            let value : changed base t c s ≡ c = cond-true _ _ _ same in
            ap (has_bit mask) value ∙ has mask (ap (λ x. FinIn x mask) one)
        | inr other ↦
            let value : changed base t c s ≡ base s = cond-false _ _ _ other in
            ap (has_bit mask) value ∙ h
      ]
      lit_holds (FinEq a b) link has h = cc
      lit_holds (FinNe a b) link has h = cc
      lit_holds (ProcEq a b) link has h = refl
      lit_holds (ProcNe a b) link has h = refl
      lit_holds (Diff a b bound) link has h = refl

      members_solve : fin.Solves (signature_of p) lits (moved t c below)
      members_solve = record {
        inside = from_all (fin.is_inside (signature_of p) (changed base t c)) lits (λ k d less.
            lit_inside (signature_of p) width base t c below (get_or lits k d) (all_from (fin.is_inside (signature_of p) base) lits base_solves.inside k d less));
        holds = from_all (fin.is_true (changed base t c)) lits (λ k d less.
            lit_holds (get_or lits k d) (none_at is_link lits k d free less) (λ m same. each m (subst (λ l. Contains lits l) same (Contains-get_or lits k d less))) (all_from (fin.is_true base) lits base_solves.holds k d less));
      }

    lit_at : (l : Lit) → Contains lits l → fin.is_true base l ≡ true
    lit_at l (k, below, is) = subst (λ x. fin.is_true base x ≡ true) is (all_from (fin.is_true base) lits base_solves.holds k l below)

    pub member_entailed : (t : Term) (mask : ℕ) → IsTrue (literal_fits (signature_of p) width (FinIn t mask)) → MayFail (signature_of p) (FinIn t mask) → Entails p width lits (FinIn t mask) → HasMember (signature_of p) lits t mask
    member_entailed t mask fits lacks entails = elim (member_or_none t lits) [
      | inl found ↦
          let there : Contains lits (FinIn t found.0) = has_Contains lits (FinIn t found.0) found.1 in
          record {
            own = found.0;
            there = there;
            inside = λ c below has. moved_true t c below
                (members_solve t c below (λ m inside. ap (λ x. has_bit x c) (one_mask t lits m found.0 rise (contains_Has lits (FinIn t m) inside) found.1) ∙ has)) mask fits entails;
            some = base t;
            some_below = base_inside t (member_sort t mask fits);
            some_has = lit_at (FinIn t found.0) there;
          }
      | inr none ↦
          let found = has_gap mask (constructors_at (signature_of p) t) (member_some t mask fits) lacks in
          absurd (true≢false (sym (moved_true t found.gap found.below (members_solve t found.gap found.below (λ m inside. absurd (none m (contains_Has lits (FinIn t m) inside)))) mask fits entails) ∙ found.out))
    ]
      where
        member_sort : (t : Term) (mask : ℕ) → IsTrue (literal_fits (signature_of p) width (FinIn t mask)) → 0 < constructors_at (signature_of p) t
        member_sort t mask fits =
            some_constructor p t (and_left (is_finite (sort_of (signature_of p) t)) (place_fits width t) (and_left (is_finite (sort_of (signature_of p) t) && place_fits width t) (nat_lt mask (2 ^ constructors_at (signature_of p) t)) fits))

    -- a membership in one constructor stands there itself
    pub sole_entailed : (t : Term) (mask k : ℕ) → mask ≡ 2 ^ k → IsTrue (literal_fits (signature_of p) width (FinIn t mask)) → MayFail (signature_of p) (FinIn t mask) → Entails p width lits (FinIn t mask) → Contains lits (FinIn t mask)
    sole_entailed t mask k is fits lacks entails =
        let member = member_entailed t mask fits lacks entails in
        let n = constructors_at (signature_of p) t in
        let own_fits : member.own < 2 ^ n = member_some t member.own
        (subst (λ l. IsTrue (literal_fits (signature_of p) width l)) member.there.2 (all_from (literal_fits (signature_of p) width) lits fit member.there.0 (FinIn t member.own) member.there.1)) in
        let small : 2 ^ k < 2 ^ n = subst (λ m. m < 2 ^ n) is (member_some t mask fits) in
        let only : (d : ℕ) → d < n → has_bit member.own d ≡ true → d ≡ k = λ d below has. pow_only k d (subst (λ m. has_bit m d ≡ true) is (member.inside d below has)) in
        let some : member.some ≡ k = only member.some member.some_below member.some_has in
        let own_is : member.own ≡ 2 ^ k = only_bit member.own n k own_fits (omega (arith, member.some_below)) (subst (λ c. has_bit member.own c ≡ true) some member.some_has) only small in
        subst (λ m. Contains lits (FinIn t m)) (own_is ∙ sym is) member.there
