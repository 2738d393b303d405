-- The marks of a cube that covers one that some state meets are among those that the covered cube offers.
use Rattle.std.proofs.Common.{◌≡◌, ◌≢◌, ℕ, ◌-◌, ◌<◌, ◌^◌, Bool, true, false, not, List, [], ◌∷◌, ◌++◌, length, map, ℤ, pos, ◌+ℤ◌, ◌≤ℤ◌, inl, inr, refl, sym, ap, ◌∙◌, subst, arith}
use Rattle.std.specs.Prelude.{IsTrue, ◌&&◌, ◌||◌, ◌==◌, int_le, nat_lt, Contains, AllPairs, slice_index}
use Rattle.std.specs.List.{list_all, list_any}
use Rattle.std.specs.Ordering.{is_eq, is_lt, int_eq, ordering_reverse}
use Rattle.std.specs.declared.cmp.Ordering.{Ordering}
use Rattle.std.specs.declared.cmp.Ordering.TheVariants.{Less, Equal, Greater}
use Rattle.std.proofs.lemmas.Bool.{cases_Bool, cases_lt, cond-true, cond-false, eqb-true, eq-eqb, eqb-false, true≢false, false≢true, or_cases, and_parts, not-true}
use Rattle.std.proofs.lemmas.Int.{ints}
use Rattle.cub_proto.specs.declared.literal.Term.{Term}
use Rattle.cub_proto.specs.declared.literal.PSide.{PSide}
use Rattle.cub_proto.specs.declared.literal.ISide.{ISide}
use Rattle.cub_proto.specs.declared.literal.ISide.TheVariants.{Zero, At}
use Rattle.cub_proto.specs.declared.literal.Lit.{Lit}
use Rattle.cub_proto.specs.declared.literal.Lit.TheVariants.{FinIn, FinEq, FinNe, ProcEq, ProcNe, Diff}
use Rattle.cub_proto.specs.declared.protocol.Protocol.{Protocol}
use Rattle.cub_proto.specs.Signature.{Signature, constructors_at}
use Rattle.cub_proto.specs.StateOf.{signature_of}
use Rattle.cub_proto.specs.Fits.{literal_fits, place_fits}
use Rattle.cub_proto.specs.Order.{term_cmp, process_side_cmp, integer_side_cmp}
use Rattle.cub_base.proofs.Bools.{and_left, and_right, and_both, less_is}
use Rattle.cub_base.proofs.Elements.{all_from}
use Rattle.std.proofs.lemmas.List.{map-append}
use Rattle.cub_base.proofs.Members.{Has, contains_Has, has_Contains, has_map}
use Rattle.cub_cube.specs.declared.cube.Cube.{Cube}
use Rattle.cub_cube.specs.Mentions.{process_side_terms, integer_side_terms}
use Rattle.cub_cube.specs.Normal.{subject_cmp, subjects_rise, is_true_alone, is_plain, has_ordered_sides}
use Rattle.cub_cube.specs.Rename.{renamed, renamed_term, renamed_process_side, renamed_integer_side, is_within, process_side_within, integer_side_within}
use Rattle.cub_cube.specs.Cover.{Covers}
use Rattle.cub_cube.specs.Meaning.{IsConsistent}
use Rattle.cub_cube.proofs.Orders.{term_cmp_total, process_side_cmp_total, integer_side_cmp_total, subject_cmp_total}
use Rattle.cub_cube.proofs.RenamedFits.{renamed_fits, fits_within}
use Rattle.theory_laws.specs.Solved.{PartsHaveSolutions}
use Rattle.theory_laws.specs.Entailed.{Entails}
use Rattle.theory_laws.specs.Kinds.{is_link}
use Rattle.fin_dom.specs.Solution.{same_term}
use Rattle.theory_laws.proofs.Domains.{same_is}
use Rattle.theory_laws.proofs.Meeting.{consistent_parts}
use Rattle.log_form.specs.Pieces.{IsAskable}
use Rattle.subsume.specs.declared.marks.Marks.{Marks}
use Rattle.subsume.specs.Injections.{IsWhole}
use Rattle.subsume.specs.Marks.{asked_terms, is_global, is_cell, marks_member, marks_constructor, constructor_bit, low, twice, some_two, joint_bit, marks_joint, value_bit, marks_value, is_bond, AreMarksOf, HaveOffersOf, AreAmong}
use Rattle.subsume.proofs.Asked.{MayFail, asks_nothing_new, member_entailed, sole_entailed}
use Rattle.subsume.proofs.Found.{any_has, has_any, or_left_true, or_right_true, two_have, have_two}
use Rattle.subsume.proofs.Held.{held_entailed}
use Rattle.subsume.proofs.Fronts.{within_reach}
use Rattle.subsume.proofs.Placed.{covers_whole}

-- ---- literals that may fail
self_order : (o : Ordering) → o ≡ ordering_reverse o → is_eq o ≡ true
self_order Less h = cc
self_order Equal h = refl
self_order Greater h = cc

alone_int : (b bound_ok : Bool) → (b && bound_ok) ≡ false → b ≡ true → bound_ok ≡ false
alone_int true x h k = h
alone_int false x h k = cc

not_within : (bound : ℤ) → int_le (pos 0) bound ≡ false → pos 0 ≤ℤ bound → ⊥
not_within bound h k = grind (arith, ints)

pub plain_may_fail : (sig : Signature) (l : Lit) → is_true_alone sig l ≡ false → MayFail sig l
plain_may_fail sig (FinIn t mask) h = λ same. eqb-false mask (2 ^ constructors_at sig t - 1) h same
plain_may_fail sig (FinEq a b) h = λ same.
    true≢false (sym (subst (λ x. is_eq (term_cmp a x) ≡ true) same (self_order (term_cmp a a) (term_cmp_total.antisymm a a))) ∙ h)
plain_may_fail sig (FinNe a b) h = tt
plain_may_fail sig (ProcEq a b) h = λ same.
    true≢false (sym (subst (λ x. is_eq (process_side_cmp a x) ≡ true) same (self_order (process_side_cmp a a) (process_side_cmp_total.antisymm a a))) ∙ h)
plain_may_fail sig (ProcNe a b) h = tt
plain_may_fail sig (Diff a b bound) h = λ same within.
    let equal : is_eq (integer_side_cmp a b) ≡ true = subst (λ x. is_eq (integer_side_cmp a x) ≡ true) same (self_order (integer_side_cmp a a) (integer_side_cmp_total.antisymm a a)) in
    not_within bound (alone_int (is_eq (integer_side_cmp a b)) (int_le (pos 0) bound) h equal) within

-- ---- renaming by distinct places
module _ (r : List ℕ) (apart : AllPairs (λ x y. x ≢ y) r) where
  place_once : (x y : ℕ) → x < length r → y < length r → slice_index r x ≡ slice_index r y → x ≡ y
  place_once x y x_in y_in same = elim (cases_lt x y) [
    | inl less ↦ absurd (apart x y 0 less y_in same)
    | inr more ↦ elim (cases_lt y x) [
      | inl less ↦ absurd (apart y x 0 less x_in (sym same))
      | inr le ↦ omega arith
    ]
  ]

  term_once : (t u : Term) → IsTrue (place_fits (length r) t) → IsTrue (place_fits (length r) u) → renamed_term r t ≡ renamed_term r u → t ≡ u
  term_once (Term.Global g) (Term.Global h) t_in u_in same = same
  term_once (Term.Global g) (Term.Cell b q) t_in u_in same = absurd (cc)
  term_once (Term.Cell a p) (Term.Global h) t_in u_in same = absurd (cc)
  term_once (Term.Cell a p) (Term.Cell b q) t_in u_in same =
      let arrays : a ≡ b = cc in
      let seats : slice_index r p ≡ slice_index r q = cc in
      let places : p ≡ q = place_once p q (less_is p (length r) t_in) (less_is q (length r) u_in) seats in
      cc

  side_once : (a b : PSide) → IsTrue (process_side_within (length r) a) → IsTrue (process_side_within (length r) b) → renamed_process_side r a ≡ renamed_process_side r b → a ≡ b
  side_once (PSide.Global g) (PSide.Global h) a_in b_in same = same
  side_once (PSide.Global g) (PSide.Place q) a_in b_in same = absurd (cc)
  side_once (PSide.Place p) (PSide.Global h) a_in b_in same = absurd (cc)
  side_once (PSide.Place p) (PSide.Place q) a_in b_in same =
      let seats : slice_index r p ≡ slice_index r q = cc in
      ap PSide.Place (place_once p q (less_is p (length r) a_in) (less_is q (length r) b_in) seats)

  integer_once : (a b : ISide) → IsTrue (integer_side_within (length r) a) → IsTrue (integer_side_within (length r) b) → renamed_integer_side r a ≡ renamed_integer_side r b → a ≡ b
  integer_once Zero Zero a_in b_in same = refl
  integer_once Zero (At u) a_in b_in same = absurd (cc)
  integer_once (At t) Zero a_in b_in same = absurd (cc)
  integer_once (At t) (At u) a_in b_in same = ap At (term_once t u a_in b_in (let e : renamed_term r t ≡ renamed_term r u = cc in e))

  count_kept : (sig : Signature) (t : Term) → constructors_at sig (renamed_term r t) ≡ constructors_at sig t
  count_kept sig (Term.Global g) = refl
  count_kept sig (Term.Cell a p) = refl

  renamed_may_fail : (sig : Signature) (l : Lit) → IsTrue (is_within (length r) l) → MayFail sig l → MayFail sig (renamed r l)
  renamed_may_fail sig (FinIn t mask) inside h = λ same. h (same ∙ ap (λ n. 2 ^ n - 1) (count_kept sig t))
  renamed_may_fail sig (FinEq a b) inside h = λ same.
      h (term_once a b (and_left (place_fits (length r) a) (place_fits (length r) b) inside) (and_right (place_fits (length r) a) (place_fits (length r) b) inside) same)
  renamed_may_fail sig (FinNe a b) inside h = tt
  renamed_may_fail sig (ProcEq a b) inside h = λ same.
      h (side_once a b (and_left (process_side_within (length r) a) (process_side_within (length r) b) inside) (and_right (process_side_within (length r) a) (process_side_within (length r) b) inside) same)
  renamed_may_fail sig (ProcNe a b) inside h = tt
  renamed_may_fail sig (Diff a b bound) inside h = λ same within.
      h (integer_once a b (and_left (integer_side_within (length r) a) (integer_side_within (length r) b) inside) (and_right (integer_side_within (length r) a) (integer_side_within (length r) b) inside) same) within

-- what a renamed literal asks for
side_renamed : (r : List ℕ) (a : PSide) → process_side_terms (renamed_process_side r a) ≡ map (renamed_term r) (process_side_terms a)
side_renamed r (PSide.Global g) = refl
side_renamed r (PSide.Place p) = refl

integer_renamed : (r : List ℕ) (a : ISide) → integer_side_terms (renamed_integer_side r a) ≡ map (renamed_term r) (integer_side_terms a)
integer_renamed r Zero = refl
integer_renamed r (At t) = refl

count_same : (r : List ℕ) (sig : Signature) (t : Term) → constructors_at sig (renamed_term r t) ≡ constructors_at sig t
count_same r sig (Term.Global g) = refl
count_same r sig (Term.Cell a p) = refl

equal_renamed : (r : List ℕ) (sig : Signature) (a b : Term) → asked_terms sig (FinEq (renamed_term r a) (renamed_term r b)) ≡ map (renamed_term r) (asked_terms sig (FinEq a b))
equal_renamed r sig a b = elim (cases_Bool (constructors_at sig a == 1)) [
  | inl one ↦
      let here : asked_terms sig (FinEq (renamed_term r a) (renamed_term r b)) ≡ [] = cond-true _ _ _ (ap (λ n. n == 1) (count_same r sig a) ∙ one) in
      let there : asked_terms sig (FinEq a b) ≡ [] = cond-true _ _ _ one in
      here ∙ sym (ap (map (renamed_term r)) there)
  | inr several ↦
      let here : asked_terms sig (FinEq (renamed_term r a) (renamed_term r b)) ≡ renamed_term r a ∷ renamed_term r b ∷ [] = cond-false _ _ _ (ap (λ n. n == 1) (count_same r sig a) ∙ several) in
      let there : asked_terms sig (FinEq a b) ≡ a ∷ b ∷ [] = cond-false _ _ _ several in
      here ∙ sym (ap (map (renamed_term r)) there)
]

sides_renamed : (r : List ℕ) (a b : PSide) → process_side_terms (renamed_process_side r a) ++ process_side_terms (renamed_process_side r b) ≡ map (renamed_term r) (process_side_terms a ++ process_side_terms b)
sides_renamed r a b =
    ap (λ xs. xs ++ process_side_terms (renamed_process_side r b)) (side_renamed r a) ∙ ap (λ xs. map (renamed_term r) (process_side_terms a) ++ xs) (side_renamed r b)
    ∙ sym (map-append (renamed_term r) (process_side_terms a) (process_side_terms b))

asked_renamed : (r : List ℕ) (sig : Signature) (l : Lit) → asked_terms sig (renamed r l) ≡ map (renamed_term r) (asked_terms sig l)
asked_renamed r sig (FinIn t mask) = refl
asked_renamed r sig (FinEq a b) = equal_renamed r sig a b
asked_renamed r sig (FinNe a b) = refl
asked_renamed r sig (ProcEq a b) = sides_renamed r a b
asked_renamed r sig (ProcNe a b) = sides_renamed r a b
asked_renamed r sig (Diff a b bound) =
    ap (λ xs. xs ++ integer_side_terms (renamed_integer_side r b)) (integer_renamed r a) ∙ ap (λ xs. map (renamed_term r) (integer_side_terms a) ++ xs) (integer_renamed r b)
    ∙ sym (map-append (renamed_term r) (integer_side_terms a) (integer_side_terms b))

-- ---- tests of lists
has_twice : {A : Type 0} (test : A → Bool) (xs : List A) (x y : A) → Has xs x → Has xs y → (x ≡ y → ⊥) → test x ≡ true → test y ≡ true → twice test xs ≡ true
has_twice test [] x y h k differ one other = absurd h
has_twice test (z ∷ zs) x y (inl first) (inl second) differ one other = absurd (differ (sym first ∙ second))
has_twice test (z ∷ zs) x y (inl first) (inr later) differ one other =
    or_left_true (test z && list_any test zs) (twice test zs) (and_both (test z) (list_any test zs) (ap test first ∙ one) (has_any test zs y later other))
has_twice test (z ∷ zs) x y (inr before) (inl second) differ one other =
    or_left_true (test z && list_any test zs) (twice test zs) (and_both (test z) (list_any test zs) (ap test second ∙ other) (has_any test zs x before one))
has_twice test (z ∷ zs) x y (inr before) (inr later) differ one other =
    or_right_true (test z && list_any test zs) (twice test zs) (has_twice test zs x y before later differ one other)

-- two literals that pass, the subject of one before that of the other
record AreTwo (test : Lit → Bool) (lits : List Lit) : Type 0 where
  one : Lit
  other : Lit
  has_one : Has lits one
  has_other : Has lits other
  one_passes : test one ≡ true
  other_passes : test other ≡ true
  order : is_lt (subject_cmp one other) ≡ true

all_has_true : (test : Lit → Bool) (lits : List Lit) (l : Lit) → list_all test lits ≡ true → Has lits l → test l ≡ true
all_has_true test [] l all h = absurd h
all_has_true test (x ∷ xs) l all (inl same) = ap test (sym same) ∙ and_left (test x) (list_all test xs) all
all_has_true test (x ∷ xs) l all (inr later) = all_has_true test xs l (and_right (test x) (list_all test xs) all) later

twice_two : (test : Lit → Bool) (lits : List Lit) → IsTrue (subjects_rise lits) → twice test lits ≡ true → AreTwo test lits
twice_two test [] rise h = absurd (false≢true h)
twice_two test (l ∷ ls) rise h = elim (or_cases (test l && list_any test ls) (twice test ls) h) [
  | inl here ↦
      let parts = and_parts (test l) (list_any test ls) here in
      let found = any_has test ls parts.1 in
      record {
        one = l;
        other = found.0;
        has_one = inl refl;
        has_other = inr found.1;
        one_passes = parts.0;
        other_passes = found.2;
        order = all_has_true (λ m. is_lt (subject_cmp l m)) ls found.0 (and_left (list_all (λ m. is_lt (subject_cmp l m)) ls) (subjects_rise ls) rise) found.1;
      }
  | inr later ↦
      let found = twice_two test ls (and_right (list_all (λ m. is_lt (subject_cmp l m)) ls) (subjects_rise ls) rise) later in
      record {
        one = found.one;
        other = found.other;
        has_one = inr found.has_one;
        has_other = inr found.has_other;
        one_passes = found.one_passes;
        other_passes = found.other_passes;
        order = found.order;
      }
]

not_less_self : (o : Ordering) → o ≡ ordering_reverse o → is_lt o ≡ true → ⊥
not_less_self Less h k = absurd (cc)
not_less_self Equal h k = absurd (cc)
not_less_self Greater h k = absurd (cc)

-- memberships in order are of two terms
terms_differ : (t u : Term) (m n : ℕ) → is_lt (subject_cmp (FinIn t m) (FinIn u n)) ≡ true → t ≡ u → ⊥
terms_differ t u m n order same =
    not_less_self (subject_cmp (FinIn t m) (FinIn t n)) (subject_cmp_total.antisymm (FinIn t m) (FinIn t n)) (subst (λ x. is_lt (subject_cmp (FinIn t m) (FinIn x n)) ≡ true) (sym same) order)

-- ---- terms and numbers
same_self : (t : Term) → same_term t t ≡ true
same_self (Term.Global g) = eq-eqb g g refl
same_self (Term.Cell a q) = and_both (a == a) (q == q) (eq-eqb a a refl) (eq-eqb q q refl)

equal_numbers : (x y : ℤ) → x ≡ y → int_eq x y ≡ true
equal_numbers x y h = grind (arith, ints)

numbers_equal : (x y : ℤ) → int_eq x y ≡ true → x ≡ y
numbers_equal x y h = grind (arith, ints)

-- ---- a big cube that covers a small one that some state meets
module _ (p : Protocol) (d c : Cube) (r : List ℕ) (asked : IsAskable p d) (given : IsAskable p c) (consistent : IsConsistent p c.width c.lits) (covers : Covers p d c r) where
  whole : IsWhole p d c r
  whole = covers_whole p d c asked.fits r covers

  parts : PartsHaveSolutions p c.width c.lits
  parts = consistent_parts p c.width c.lits given.fits consistent

  rise : (x : Cube) → IsAskable p x → IsTrue (subjects_rise x.lits)
  rise x fit = and_right (list_all (is_plain (signature_of p)) x.lits) (subjects_rise x.lits) fit.normal

  module _ (l : Lit) (inside : Contains d.lits l) where
    l_fits : IsTrue (literal_fits (signature_of p) (length r) l)
    l_fits = subst (λ n. IsTrue (literal_fits (signature_of p) n l)) (sym covers.injection.one_each)
        (subst (λ x. IsTrue (literal_fits (signature_of p) d.width x)) inside.2 (all_from (literal_fits (signature_of p) d.width) d.lits asked.fits inside.0 l inside.1))

    l_within : IsTrue (is_within (length r) l)
    l_within = fits_within (signature_of p) (length r) l l_fits

    image_fits : IsTrue (literal_fits (signature_of p) c.width (renamed r l))
    image_fits = renamed_fits (signature_of p) c.width r covers.injection.within l l_fits

    image_fails : MayFail (signature_of p) (renamed r l)
    image_fails =
        let plain : IsTrue (is_plain (signature_of p) l) = subst (λ x. IsTrue (is_plain (signature_of p) x)) inside.2
        (all_from (is_plain (signature_of p)) d.lits (and_left (list_all (is_plain (signature_of p)) d.lits) (subjects_rise d.lits) asked.normal) inside.0 l inside.1) in
        renamed_may_fail r covers.injection.apart (signature_of p) l l_within
        (plain_may_fail (signature_of p) l (not-true (is_true_alone (signature_of p) l) (and_right (has_ordered_sides l) (not (is_true_alone (signature_of p) l)) plain)))

    image_follows : Entails p c.width c.lits (renamed r l)
    image_follows = whole.partial.follow l inside (within_reach (length r) l l_within)

  -- a term that the big cube asks for
  term_offered : (test : Term → Bool) → ((t : Term) → test (renamed_term r t) ≡ test t) → list_any (λ l. list_any test (asked_terms (signature_of p) l)) d.lits ≡ true → list_any (λ l. list_any test (asked_terms (signature_of p) l)) c.lits ≡ true
  term_offered test kept h = elim (cases_Bool (list_any (λ l. list_any test (asked_terms (signature_of p) l)) c.lits)) [
    | inl there ↦ there
    | inr none ↦
        let lit = any_has (λ l. list_any test (asked_terms (signature_of p) l)) d.lits h in
        let term = any_has test (asked_terms (signature_of p) lit.0) lit.2 in
        let member : Contains d.lits lit.0 = has_Contains d.lits lit.0 lit.1 in
        let image : Contains (asked_terms (signature_of p) (renamed r lit.0)) (renamed_term r term.0) =
        subst (λ ts. Contains ts (renamed_term r term.0)) (sym (asked_renamed r (signature_of p) lit.0)) (has_Contains _ _ (has_map (renamed_term r) (asked_terms (signature_of p) lit.0) term.0 term.1)) in
        absurd (asks_nothing_new p c.width c.lits given.fits parts (renamed r lit.0) (image_fits lit.0 member) (image_fails lit.0 member) (image_follows lit.0 member) (renamed_term r term.0) image
        (λ found. true≢false (sym (has_any (λ l. list_any test (asked_terms (signature_of p) l)) c.lits found.0 (contains_Has c.lits found.0 found.1)
        (has_any test (asked_terms (signature_of p) found.0) (renamed_term r term.0) (contains_Has _ _ found.2) (kept term.0 ∙ term.2))) ∙ none)))
  ]

  -- a membership of the big cube that stands, renamed, in the small one
  record HasImage (test : Lit → Bool) (l : Lit) : Type 0 where
    term : Term
    mask : ℕ
    own : ℕ
    is : l ≡ FinIn term mask
    within : IsTrue (place_fits (length r) term)
    there : Has c.lits (FinIn (renamed_term r term) own)
    passes : test (FinIn (renamed_term r term) own) ≡ true

  abbrev HasImages : (Lit → Bool) → Type 0
  HasImages test = (l : Lit) → Contains d.lits l → test l ≡ true → HasImage test l

  once_offered : (test : Lit → Bool) → HasImages test → list_any test d.lits ≡ true → list_any test c.lits ≡ true
  once_offered test images h =
      let found = any_has test d.lits h in
      let image = images found.0 (has_Contains d.lits found.0 found.1) found.2 in
      has_any test c.lits (FinIn (renamed_term r image.term) image.own) image.there image.passes

  twice_offered : (test : Lit → Bool) → HasImages test → twice test d.lits ≡ true → twice test c.lits ≡ true
  twice_offered test images h =
      let two = twice_two test d.lits (rise d asked) h in
      let first = images two.one (has_Contains d.lits two.one two.has_one) two.one_passes in
      let second = images two.other (has_Contains d.lits two.other two.has_other) two.other_passes in
      let order : is_lt (subject_cmp (FinIn first.term first.mask) (FinIn second.term second.mask)) ≡ true =
      subst (λ x. is_lt (subject_cmp x (FinIn second.term second.mask)) ≡ true) first.is (subst (λ x. is_lt (subject_cmp two.one x) ≡ true) second.is two.order) in
      has_twice test c.lits (FinIn (renamed_term r first.term) first.own) (FinIn (renamed_term r second.term) second.own) first.there second.there
      (λ same. terms_differ first.term second.term first.mask second.mask order
      (term_once r covers.injection.apart first.term second.term first.within second.within (let e : renamed_term r first.term ≡ renamed_term r second.term = cc in e)))
      first.passes second.passes

  module _ (free : list_any is_link c.lits ≡ false) where
    cell_kept : (b : ℕ) (t : Term) → is_cell b (renamed_term r t) ≡ is_cell b t
    cell_kept b (Term.Global g) = refl
    cell_kept b (Term.Cell a q) = refl

    bit_kept : (t : Term) (k : ℕ) → constructor_bit (renamed_term r t) k ≡ constructor_bit t k
    bit_kept (Term.Global g) k = refl
    bit_kept (Term.Cell a q) k = refl

    member_images : (b : ℕ) → HasImages (marks_member b)
    member_images b (FinIn t mask) inside passes =
        let member = member_entailed p c.width c.lits given.fits parts free (rise c given) (renamed_term r t) mask (image_fits (FinIn t mask) inside) (image_fails (FinIn t mask) inside) (image_follows (FinIn t mask) inside) in
        record {
          term = t;
          mask = mask;
          own = member.own;
          is = refl;
          within = l_within (FinIn t mask) inside;
          there = contains_Has c.lits (FinIn (renamed_term r t) member.own) member.there;
          passes = cell_kept b t ∙ passes;
        }
    member_images b (FinEq t u) inside passes = absurd (false≢true passes)
    member_images b (FinNe t u) inside passes = absurd (false≢true passes)
    member_images b (ProcEq t u) inside passes = absurd (false≢true passes)
    member_images b (ProcNe t u) inside passes = absurd (false≢true passes)
    member_images b (Diff t u bound) inside passes = absurd (false≢true passes)

    constructor_images : (b : ℕ) → HasImages (marks_constructor b)
    constructor_images b (FinIn t mask) inside passes =
        let two = and_parts (mask == 2 ^ low mask) (constructor_bit t (low mask) == b) passes in
        let sole : mask ≡ 2 ^ low mask = eqb-true mask (2 ^ low mask) two.0 in
        let there = sole_entailed p c.width c.lits given.fits parts free (rise c given) (renamed_term r t) mask (low mask) sole (image_fits (FinIn t mask) inside) (image_fails (FinIn t mask) inside) (image_follows (FinIn t mask) inside) in
        record {
          term = t;
          mask = mask;
          own = mask;
          is = refl;
          within = l_within (FinIn t mask) inside;
          there = contains_Has c.lits (FinIn (renamed_term r t) mask) there;
          passes = and_both (mask == 2 ^ low mask) (constructor_bit (renamed_term r t) (low mask) == b) two.0 (ap (λ x. x == b) (bit_kept t (low mask)) ∙ two.1);
        }
    constructor_images b (FinEq t u) inside passes = absurd (false≢true passes)
    constructor_images b (FinNe t u) inside passes = absurd (false≢true passes)
    constructor_images b (ProcEq t u) inside passes = absurd (false≢true passes)
    constructor_images b (ProcNe t u) inside passes = absurd (false≢true passes)
    constructor_images b (Diff t u bound) inside passes = absurd (false≢true passes)

    sole_image : (t : Term) (mask : ℕ) → Contains d.lits (FinIn t mask) → (mask == 2 ^ low mask) ≡ true → Has c.lits (FinIn (renamed_term r t) mask)
    sole_image t mask inside sole =
        contains_Has c.lits (FinIn (renamed_term r t) mask)
        (sole_entailed p c.width c.lits given.fits parts free (rise c given) (renamed_term r t) mask (low mask) (eqb-true mask (2 ^ low mask) sole) (image_fits (FinIn t mask) inside) (image_fails (FinIn t mask) inside) (image_follows (FinIn t mask) inside))

    -- two memberships at one place stand at one place
    joint_image : (n : ℕ) (l m : Lit) → Contains d.lits l → Contains d.lits m → marks_joint n l m ≡ true → some_two (marks_joint n) c.lits ≡ true
    joint_image n (FinIn (Term.Cell a x) mask) (FinIn (Term.Cell b y) other) l_in m_in h =
        let first = and_parts (mask == 2 ^ low mask) ((nat_lt a b && x == y) && ((other == 2 ^ low other) && (joint_bit a (low mask) b (low other) == n))) h in
        let second = and_parts (nat_lt a b && x == y) ((other == 2 ^ low other) && (joint_bit a (low mask) b (low other) == n)) first.1 in
        let seats = and_parts (nat_lt a b) (x == y) second.0 in
        let third = and_parts (other == 2 ^ low other) (joint_bit a (low mask) b (low other) == n) second.1 in
        let same : slice_index r x ≡ slice_index r y = ap (slice_index r) (eqb-true x y seats.1) in
        have_two (marks_joint n) c.lits (FinIn (Term.Cell a (slice_index r x)) mask) (FinIn (Term.Cell b (slice_index r y)) other)
        (sole_image (Term.Cell a x) mask l_in first.0) (sole_image (Term.Cell b y) other m_in third.0)
        (and_both (mask == 2 ^ low mask) ((nat_lt a b && slice_index r x == slice_index r y) && ((other == 2 ^ low other) && (joint_bit a (low mask) b (low other) == n))) first.0
        (and_both (nat_lt a b && slice_index r x == slice_index r y) ((other == 2 ^ low other) && (joint_bit a (low mask) b (low other) == n))
        (and_both (nat_lt a b) (slice_index r x == slice_index r y) seats.0 (eq-eqb (slice_index r x) (slice_index r y) same)) second.1))
    joint_image n (FinIn (Term.Cell a x) mask) (FinIn (Term.Global g) other) l_in m_in h = absurd (false≢true (and_parts (mask == 2 ^ low mask) false h).1)
    joint_image n (FinIn (Term.Cell a x) mask) (FinEq t u) l_in m_in h = absurd (false≢true (and_parts (mask == 2 ^ low mask) false h).1)
    joint_image n (FinIn (Term.Cell a x) mask) (FinNe t u) l_in m_in h = absurd (false≢true (and_parts (mask == 2 ^ low mask) false h).1)
    joint_image n (FinIn (Term.Cell a x) mask) (ProcEq t u) l_in m_in h = absurd (false≢true (and_parts (mask == 2 ^ low mask) false h).1)
    joint_image n (FinIn (Term.Cell a x) mask) (ProcNe t u) l_in m_in h = absurd (false≢true (and_parts (mask == 2 ^ low mask) false h).1)
    joint_image n (FinIn (Term.Cell a x) mask) (Diff t u bound) l_in m_in h = absurd (false≢true (and_parts (mask == 2 ^ low mask) false h).1)
    joint_image n (FinIn (Term.Global g) mask) m l_in m_in h = absurd (false≢true h)
    joint_image n (FinEq t u) m l_in m_in h = absurd (false≢true h)
    joint_image n (FinNe t u) m l_in m_in h = absurd (false≢true h)
    joint_image n (ProcEq t u) m l_in m_in h = absurd (false≢true h)
    joint_image n (ProcNe t u) m l_in m_in h = absurd (false≢true h)
    joint_image n (Diff t u bound) m l_in m_in h = absurd (false≢true h)

    joint_offered : (n : ℕ) → some_two (marks_joint n) d.lits ≡ true → some_two (marks_joint n) c.lits ≡ true
    joint_offered n h =
        let two = two_have (marks_joint n) d.lits h in
        joint_image n two.0 two.1 (has_Contains d.lits two.0 two.2) (has_Contains d.lits two.1 two.3) two.4

  -- a value at which the big cube holds a term is one at which the small cube does
  module _ (free : list_any is_bond c.lits ≡ false) where
    value_kept : (t : Term) (k : ℤ) → value_bit (renamed_term r t) k ≡ value_bit t k
    value_kept (Term.Global g) k = refl
    value_kept (Term.Cell a q) k = refl

    held_image : (n : ℕ) (t u : Term) (k bound : ℤ) → Contains d.lits (Diff (At t) Zero k) → Contains d.lits (Diff Zero (At u) bound) → u ≡ t → bound +ℤ k ≡ pos 0 → (value_bit t k == n) ≡ true → some_two (marks_value n) c.lits ≡ true
    held_image n t u k bound l_in m_in same zero bit =
        let m_at : Contains d.lits (Diff Zero (At t) bound) = subst (λ x. Contains d.lits (Diff Zero (At x) bound)) same m_in in
        let held = held_entailed p c.width c.lits given.fits parts free (renamed_term r t) k bound zero
        (image_fits (Diff (At t) Zero k) l_in) (image_fits (Diff Zero (At t) bound) m_at) (image_follows (Diff (At t) Zero k) l_in) (image_follows (Diff Zero (At t) bound) m_at) in
        have_two (marks_value n) c.lits (Diff (At (renamed_term r t)) Zero k) (Diff Zero (At (renamed_term r t)) bound)
        (contains_Has c.lits (Diff (At (renamed_term r t)) Zero k) held.upper) (contains_Has c.lits (Diff Zero (At (renamed_term r t)) bound) held.lower)
        (and_both (value_bit (renamed_term r t) k == n) (same_term (renamed_term r t) (renamed_term r t) && int_eq (bound +ℤ k) (pos 0)) (ap (λ x. x == n) (value_kept t k) ∙ bit)
        (and_both (same_term (renamed_term r t) (renamed_term r t)) (int_eq (bound +ℤ k) (pos 0)) (same_self (renamed_term r t)) (equal_numbers (bound +ℤ k) (pos 0) zero)))

    value_image : (n : ℕ) (l m : Lit) → Contains d.lits l → Contains d.lits m → marks_value n l m ≡ true → some_two (marks_value n) c.lits ≡ true
    value_image n (FinIn t mask) m l_in m_in h = absurd (false≢true h)
    value_image n (FinEq t u) m l_in m_in h = absurd (false≢true h)
    value_image n (FinNe t u) m l_in m_in h = absurd (false≢true h)
    value_image n (ProcEq t u) m l_in m_in h = absurd (false≢true h)
    value_image n (ProcNe t u) m l_in m_in h = absurd (false≢true h)
    value_image n (Diff Zero b k) m l_in m_in h = absurd (false≢true h)
    value_image n (Diff (At t) (At u) k) m l_in m_in h = absurd (false≢true h)
    value_image n (Diff (At t) Zero k) (FinIn u mask) l_in m_in h = absurd (false≢true (and_parts (value_bit t k == n) false h).1)
    value_image n (Diff (At t) Zero k) (FinEq a b) l_in m_in h = absurd (false≢true (and_parts (value_bit t k == n) false h).1)
    value_image n (Diff (At t) Zero k) (FinNe a b) l_in m_in h = absurd (false≢true (and_parts (value_bit t k == n) false h).1)
    value_image n (Diff (At t) Zero k) (ProcEq a b) l_in m_in h = absurd (false≢true (and_parts (value_bit t k == n) false h).1)
    value_image n (Diff (At t) Zero k) (ProcNe a b) l_in m_in h = absurd (false≢true (and_parts (value_bit t k == n) false h).1)
    value_image n (Diff (At t) Zero k) (Diff Zero Zero bound) l_in m_in h = absurd (false≢true (and_parts (value_bit t k == n) false h).1)
    value_image n (Diff (At t) Zero k) (Diff (At u) b bound) l_in m_in h = absurd (false≢true (and_parts (value_bit t k == n) false h).1)
    value_image n (Diff (At t) Zero k) (Diff Zero (At u) bound) l_in m_in h =
        let first = and_parts (value_bit t k == n) (same_term u t && int_eq (bound +ℤ k) (pos 0)) h in
        let second = and_parts (same_term u t) (int_eq (bound +ℤ k) (pos 0)) first.1 in
        held_image n t u k bound l_in m_in (same_is u t second.0) (numbers_equal (bound +ℤ k) (pos 0) second.1) first.0

    value_offered : (n : ℕ) → some_two (marks_value n) d.lits ≡ true → some_two (marks_value n) c.lits ≡ true
    value_offered n h =
        let two = two_have (marks_value n) d.lits h in
        value_image n two.0 two.1 (has_Contains d.lits two.0 two.2) (has_Contains d.lits two.1 two.3) two.4

  global_kept : (b : ℕ) (t : Term) → is_global b (renamed_term r t) ≡ is_global b t
  global_kept b (Term.Global g) = refl
  global_kept b (Term.Cell a q) = refl

  array_kept : (b : ℕ) (t : Term) → is_cell b (renamed_term r t) ≡ is_cell b t
  array_kept b (Term.Global g) = refl
  array_kept b (Term.Cell a q) = refl

  -- all marks are offered
  unless_linked : (x y : Bool) → (list_any is_link c.lits ≡ false → x ≡ true → y ≡ true) → x ≡ true → (list_any is_link c.lits || y) ≡ true
  unless_linked x y free h = elim (cases_Bool (list_any is_link c.lits)) [
    | inl linked ↦ or_left_true (list_any is_link c.lits) y linked
    | inr none ↦ or_right_true (list_any is_link c.lits) y (free none h)
  ]

  unless_bonded : (x y : Bool) → (list_any is_bond c.lits ≡ false → x ≡ true → y ≡ true) → x ≡ true → (list_any is_bond c.lits || y) ≡ true
  unless_bonded x y free h = elim (cases_Bool (list_any is_bond c.lits)) [
    | inl bonded ↦ or_left_true (list_any is_bond c.lits) y bonded
    | inr none ↦ or_right_true (list_any is_bond c.lits) y (free none h)
  ]

  pub marks_offered : (m n : Marks) → AreMarksOf (signature_of p) d.lits m → HaveOffersOf (signature_of p) c.lits n → AreAmong m n
  marks_offered m n needs offers = record {
    globals = λ b below h. offers.globals b below (term_offered (is_global b) (global_kept b) (needs.globals b below h));
    arrays = λ b below h. offers.arrays b below (term_offered (is_cell b) (array_kept b) (needs.arrays b below h));
    members = λ b below h. offers.members b below
        (unless_linked (twice (marks_member b) d.lits) (twice (marks_member b) c.lits) (λ free. twice_offered (marks_member b) (member_images free b)) (needs.members b below h));
    constructors = λ b below h. offers.constructors b below
        (unless_linked (list_any (marks_constructor b) d.lits) (list_any (marks_constructor b) c.lits) (λ free. once_offered (marks_constructor b) (constructor_images free b)) (needs.constructors b below h));
    pairs = λ b below h. offers.pairs b below
        (unless_linked (twice (marks_constructor b) d.lits) (twice (marks_constructor b) c.lits) (λ free. twice_offered (marks_constructor b) (constructor_images free b)) (needs.pairs b below h));
    joint = λ b below h. offers.joint b below
        (unless_linked (some_two (marks_joint b) d.lits) (some_two (marks_joint b) c.lits) (λ free. joint_offered free b) (needs.joint b below h));
    values = λ b below h. offers.values b below
        (unless_bonded (some_two (marks_value b) d.lits) (some_two (marks_value b) c.lits) (λ free. value_offered free b) (needs.values b below h));
  }
