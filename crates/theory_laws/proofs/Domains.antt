-- What memberships alone leave to a term: they decide entailment of finite literals about terms without links.
use Rattle.std.proofs.Common.{◌≡◌, ℕ, ◌<◌, ◌≤◌, true, false, not, cond, List, [], ◌∷◌, length, inl, inr, refl, sym, ap, ◌∙◌, subst, arith}
use Rattle.std.specs.Prelude.{IsTrue, ◌&&◌, ◌==◌, nat_lt, slice_index}
use Rattle.std.specs.List.{list_all, list_any}
use Rattle.std.proofs.lemmas.Bool.{ltb-true, cases_Bool, cond-true, cond-false, eqb-true, eq-eqb, ne_eqb, eqb-false, or_parts, not-true, not_from_false}
use Rattle.cub_proto.specs.declared.literal.Term.{Term}
use Rattle.cub_proto.specs.declared.literal.Term.TheVariants.{Global, Cell}
use Rattle.cub_proto.specs.declared.literal.Lit.{Lit}
use Rattle.cub_proto.specs.declared.literal.Lit.TheVariants.{FinIn, FinEq, FinNe, ProcEq, ProcNe, Diff}
use Rattle.cub_proto.specs.declared.protocol.Protocol.{Protocol}
use Rattle.cub_proto.specs.Configuration.{Configuration}
use Rattle.cub_proto.specs.Signature.{Signature, sort_of, constructors_at, same_finite}
use Rattle.cub_proto.specs.StateOf.{IsStateOf, signature_of}
use Rattle.cub_proto.specs.Truth.{has_bit, constructor_at}
use Rattle.cub_proto.specs.Fits.{is_finite, place_fits, literal_fits}
use Rattle.cub_proto.specs.Meets.{Satisfies}
use Rattle.cub_base.proofs.Bools.{and_left, and_right, and_both}
use Rattle.cub_proto.proofs.Constructors.{few_constructors}
use Rattle.fin_dom.specs.Solution as fin
use Rattle.fin_dom.specs.Table.{number_of, has_entry, low_at, con_of}
use Rattle.fin_dom.proofs.Masks.{low_has}
use Rattle.fin_dom.proofs.Gathering.{entry_below}
use Rattle.fin_dom.specs.Gathered.{AreGathered, IsTermWithin, is_member_true}
use Rattle.theory_laws.specs.Fitting.{term_numbers}
use Rattle.theory_laws.specs.Solved.{PartsHaveSolutions}
use Rattle.theory_laws.specs.Entailed.{Entails}
use Rattle.theory_laws.specs.Kinds.{links, is_link, is_open}
use Rattle.theory_laws.proofs.Building.{same_finite_left, same_finite_right}
use Rattle.theory_laws.proofs.Meeting.{constructors, constructors_solve, below_sort}
use Rattle.theory_laws.proofs.Parts.{finite_entry}
use Rattle.theory_laws.proofs.Combined.{clamped, clamp_solves, true_of_joined}

pub same_is : (a b : Term) → fin.same_term a b ≡ true → a ≡ b
same_is (Global g) (Global h) e = ap Global (eqb-true g h e)
same_is (Global g) (Cell a q) e = cc
same_is (Cell a q) (Global g) e = cc
same_is (Cell a q) (Cell b r) e =
    ap (λ x. Cell x q) (eqb-true a b (and_left (a == b) (q == r) e)) ∙ ap (λ y. Cell b y) (eqb-true q r (and_right (a == b) (q == r) e))

same_self : (t : Term) → fin.same_term t t ≡ true
same_self (Global g) = eq-eqb g g refl
same_self (Cell a q) = and_both (a == a) (q == q) (eq-eqb a a refl) (eq-eqb q q refl)

-- another constructor for one term
abbrev changed : (Term → ℕ) → Term → ℕ → Term → ℕ
changed u t c x = cond (fin.same_term x t) c (u x)

changed_here : (u : Term → ℕ) (t : Term) (c : ℕ) → changed u t c t ≡ c
changed_here u t c = cond-true _ _ _ (same_self t)

changed_other : (u : Term → ℕ) (t : Term) (c : ℕ) (x : Term) → fin.same_term x t ≡ false → changed u t c x ≡ u x
changed_other u t c x e = cond-false _ _ _ e

-- links without the term are true as before
link_kept : (u : Term → ℕ) (t : Term) (c : ℕ) (lit : Lit) → links t lit ≡ false → fin.is_true u lit ≡ true → is_member_true (changed u t c) lit ≡ true → fin.is_true (changed u t c) lit ≡ true
link_kept u t c (FinIn s mask) free h m = m
link_kept u t c (FinEq a b) free h m =
    let parts = or_parts (fin.same_term a t) (fin.same_term b t) free in
    rw (changed_other u t c a parts.0, changed_other u t c b parts.1) h
link_kept u t c (FinNe a b) free h m =
    let parts = or_parts (fin.same_term a t) (fin.same_term b t) free in
    rw (changed_other u t c a parts.0, changed_other u t c b parts.1) h
link_kept u t c (ProcEq a b) free h m = refl
link_kept u t c (ProcNe a b) free h m = refl
link_kept u t c (Diff a b bound) free h m = refl

links_kept : (u : Term → ℕ) (t : Term) (c : ℕ) (lits : List Lit) → list_any (links t) lits ≡ false → list_all (fin.is_true u) lits ≡ true → list_all (is_member_true (changed u t c)) lits ≡ true
    → list_all (fin.is_true (changed u t c)) lits ≡ true
links_kept u t c [] free h m = refl
links_kept u t c (x ∷ xs) free h m =
    let parts = or_parts (links t x) (list_any (links t) xs) free in
    and_both (fin.is_true (changed u t c) x) (list_all (fin.is_true (changed u t c)) xs)
    (link_kept u t c x parts.0 (and_left (fin.is_true u x) (list_all (fin.is_true u) xs) h) (and_left (is_member_true (changed u t c) x) (list_all (is_member_true (changed u t c)) xs) m))
    (links_kept u t c xs parts.1 (and_right (fin.is_true u x) (list_all (fin.is_true u) xs) h) (and_right (is_member_true (changed u t c) x) (list_all (is_member_true (changed u t c)) xs) m))

-- without links the least constructors that are left are a solution
no_link : (v : Term → ℕ) (lit : Lit) → is_link lit ≡ false → is_member_true v lit ≡ true → fin.is_true v lit ≡ true
no_link v (FinIn t mask) free m = m
no_link v (FinEq a b) free m = cc
no_link v (FinNe a b) free m = cc
no_link v (ProcEq a b) free m = refl
no_link v (ProcNe a b) free m = refl
no_link v (Diff a b bound) free m = refl

no_links : (v : Term → ℕ) (lits : List Lit) → list_any is_link lits ≡ false → list_all (is_member_true v) lits ≡ true → list_all (fin.is_true v) lits ≡ true
no_links v [] free m = refl
no_links v (x ∷ xs) free m =
    let parts = or_parts (is_link x) (list_any is_link xs) free in
    and_both (fin.is_true v x) (list_all (fin.is_true v) xs) (no_link v x parts.0 (and_left (is_member_true v x) (list_all (is_member_true v) xs) m))
    (no_links v xs parts.1 (and_right (is_member_true v x) (list_all (is_member_true v) xs) m))

pub gathered_solves : (sig : Signature) (lits : List Lit) (masks : List ℕ) → AreGathered sig lits masks → list_any is_link lits ≡ false → fin.HasSolution sig lits
gathered_solves sig lits masks gathered free =
    (con_of masks, record { inside = gathered.inside (con_of masks) within; holds = no_links (con_of masks) lits free (gathered.members (con_of masks) within) })
  where
    within : IsTermWithin masks (con_of masks)
    within t entry =
        let here : con_of masks t ≡ low_at masks (number_of t) = cond-true _ _ _ entry in
        let left = gathered.masks_fit (number_of t) (entry_below (length masks) t entry) in
        rw here (low_has (slice_index masks (number_of t)) left.0 left.1)

module _ (p : Protocol) (width : ℕ) (narrow : width ≤ 11) (lits : List Lit) (fit : IsTrue (list_all (literal_fits (signature_of p) width) lits)) (masks : List ℕ) (size : length masks ≡ term_numbers p) (gathered : AreGathered (signature_of p) lits masks) where
  has_number : (t : Term) → IsTrue (is_finite (sort_of (signature_of p) t)) → IsTrue (place_fits width t) → IsTrue (has_entry (length masks) t)
  has_number t finite placed = subst (λ n. IsTrue (has_entry n t)) (sym size) (finite_entry p width narrow t finite placed)

  -- a solution keeps to what is open
  open_kept : (u : Term → ℕ) → fin.Solves (signature_of p) lits u → (t : Term) → IsTrue (is_finite (sort_of (signature_of p) t)) → IsTrue (place_fits width t) → fin.has_constructor (signature_of p) u t ≡ true → is_open (signature_of p) masks t (u t) ≡ true
  open_kept u s t finite placed has =
      let below : u t < constructors_at (signature_of p) t = ltb-true (u t) (constructors_at (signature_of p) t) has in
      and_both (nat_lt (u t) (constructors_at (signature_of p) t)) (has_bit (slice_index masks (number_of t)) (u t)) has
      (gathered.keeps u s t (has_number t finite placed) (omega (arith, few_constructors p t)))

  module _ (s : Configuration) (places : List ℕ) (state : IsStateOf p s) (met : Satisfies s places width lits) where
    open_there : (t : Term) → IsTrue (is_finite (sort_of (signature_of p) t)) → IsTrue (place_fits width t) → is_open (signature_of p) masks t (constructor_at s places t) ≡ true
    open_there t finite placed =
        open_kept (constructors p s places width lits state met) (constructors_solve p s places width lits state met fit) t finite placed (below_sort p s places width lits state met t placed finite)

  pub member_entailed : (t : Term) (mask : ℕ) → IsTrue (is_finite (sort_of (signature_of p) t)) → IsTrue (place_fits width t) → ((c : ℕ) → is_open (signature_of p) masks t c ≡ true → has_bit mask c ≡ true) → Entails p width lits (FinIn t mask)
  member_entailed t mask finite placed each s places state met = each (constructor_at s places t) (open_there s places state met t finite placed)

  -- the two terms of an equality or disequality
  module _ (a b : Term) (fits : IsTrue (literal_fits (signature_of p) width (FinEq a b))) where
    sorts : same_finite (sort_of (signature_of p) a) (sort_of (signature_of p) b) ≡ true
    sorts = and_left (same_finite (sort_of (signature_of p) a) (sort_of (signature_of p) b)) (place_fits width a)
        (and_left (same_finite (sort_of (signature_of p) a) (sort_of (signature_of p) b) && place_fits width a) (place_fits width b) fits)

    pub first_finite : IsTrue (is_finite (sort_of (signature_of p) a))
    first_finite = same_finite_left (sort_of (signature_of p) a) (sort_of (signature_of p) b) sorts

    pub second_finite : IsTrue (is_finite (sort_of (signature_of p) b))
    second_finite = same_finite_right (sort_of (signature_of p) a) (sort_of (signature_of p) b) sorts

    pub first_placed : IsTrue (place_fits width a)
    first_placed = and_right (same_finite (sort_of (signature_of p) a) (sort_of (signature_of p) b)) (place_fits width a)
        (and_left (same_finite (sort_of (signature_of p) a) (sort_of (signature_of p) b) && place_fits width a) (place_fits width b) fits)

    pub second_placed : IsTrue (place_fits width b)
    second_placed = and_right (same_finite (sort_of (signature_of p) a) (sort_of (signature_of p) b) && place_fits width a) (place_fits width b) fits

    pub equal_entailed : ((c d : ℕ) → is_open (signature_of p) masks a c ≡ true → is_open (signature_of p) masks b d ≡ true → c ≡ d) → Entails p width lits (FinEq a b)
    equal_entailed each s places state met =
        eq-eqb (constructor_at s places a) (constructor_at s places b)
        (each (constructor_at s places a) (constructor_at s places b) (open_there s places state met a first_finite first_placed) (open_there s places state met b second_finite second_placed))

    pub other_entailed : ((c : ℕ) → is_open (signature_of p) masks a c ≡ true → is_open (signature_of p) masks b c ≡ true → ⊥) → Entails p width lits (FinNe a b)
    other_entailed each s places state met =
        not_from_false (constructor_at s places a == constructor_at s places b) (ne_eqb (constructor_at s places a) (constructor_at s places b)
        (λ same. each (constructor_at s places a) (open_there s places state met a first_finite first_placed)
        (subst (λ x. is_open (signature_of p) masks b x ≡ true) (sym same) (open_there s places state met b second_finite second_placed))))

  -- a term without links can have each constructor that is open
  clamp_small : (u : Term → ℕ) (x : Term) → clamped (signature_of p) u x < 64
  clamp_small u x = elim (cases_Bool (nat_lt (u x) (constructors_at (signature_of p) x))) [
    | inl h ↦
        let e : clamped (signature_of p) u x ≡ u x = cond-true _ _ _ h in
        omega (arith, few_constructors p x, ltb-true (u x) (constructors_at (signature_of p) x) h)
    | inr h ↦ let e : clamped (signature_of p) u x ≡ 0 = cond-false _ _ _ h in omega arith
  ]

  changed_solves : (u : Term → ℕ) → fin.Solves (signature_of p) lits u → (t : Term) (c : ℕ) → list_any (links t) lits ≡ false → is_open (signature_of p) masks t c ≡ true → fin.Solves (signature_of p) lits (changed (clamped (signature_of p) u) t c)
  changed_solves u s t c free is = record { inside = gathered.inside v within; holds = links_kept (clamped (signature_of p) u) t c lits free kept.holds (gathered.members v within) }
    where
      kept : fin.Solves (signature_of p) lits (clamped (signature_of p) u)
      kept = clamp_solves (signature_of p) u lits s

      v : Term → ℕ
      v = changed (clamped (signature_of p) u) t c

      within : IsTermWithin masks v
      within x entry = elim (cases_Bool (fin.same_term x t)) [
        | inl h ↦
            let here : v x ≡ c = cond-true _ _ _ h in
            let same : t ≡ x = sym (same_is x t h) in
            rw here (subst (λ y. has_bit (slice_index masks (number_of y)) c ≡ true) same (and_right (nat_lt c (constructors_at (signature_of p) t)) (has_bit (slice_index masks (number_of t)) c) is))
        | inr h ↦
            let there : v x ≡ clamped (signature_of p) u x = cond-false _ _ _ h in
            rw there (gathered.keeps (clamped (signature_of p) u) kept x entry (clamp_small u x))
      ]

  clamp_is : (u : Term → ℕ) (t : Term) (c : ℕ) → u t ≡ c → is_open (signature_of p) masks t c ≡ true → clamped (signature_of p) u t ≡ c
  clamp_is u t c is opened =
      let below : nat_lt (u t) (constructors_at (signature_of p) t) ≡ true =
      ap (λ x. nat_lt x (constructors_at (signature_of p) t)) is ∙ and_left (nat_lt c (constructors_at (signature_of p) t)) (has_bit (slice_index masks (number_of t)) c) opened in
      let e : clamped (signature_of p) u t ≡ u t = cond-true _ _ _ below in
      e ∙ is

  module _ (parts : PartsHaveSolutions p width lits) where
    -- a membership that leaves out a constructor that is open is not entailed
    pub member_refuted : (t : Term) (mask c : ℕ) → IsTrue (literal_fits (signature_of p) width (FinIn t mask)) → list_any (links t) lits ≡ false → is_open (signature_of p) masks t c ≡ true → has_bit mask c ≡ false
        → Entails p width lits (FinIn t mask) → ⊥
    member_refuted t mask c fits free opened out entails =
        let u : Term → ℕ = changed (clamped (signature_of p) parts.finite.0) t c in
        let h : has_bit mask (clamped (signature_of p) u t) ≡ true =
        true_of_joined p width lits u parts.processes.0 parts.integers.0 (changed_solves parts.finite.0 parts.finite.1 t c free opened) parts.processes.1 parts.integers.1 (FinIn t mask) fit fits entails in
        let e : clamped (signature_of p) u t ≡ c = clamp_is u t c (changed_here (clamped (signature_of p) parts.finite.0) t c) opened in
        let wrong : true ≡ false = sym h ∙ ap (has_bit mask) e ∙ out in
        cc

    -- two other terms, both without links, can have any constructors that are open to them
    module _ (a b : Term) (c d : ℕ) (other : fin.same_term a b ≡ false) (a_free : list_any (links a) lits ≡ false) (b_free : list_any (links b) lits ≡ false)
        (a_open : is_open (signature_of p) masks a c ≡ true) (b_open : is_open (signature_of p) masks b d ≡ true) where
      abbrev first : Term → ℕ
      first = changed (clamped (signature_of p) parts.finite.0) a c

      abbrev both : Term → ℕ
      both = changed (clamped (signature_of p) first) b d

      both_solve : fin.Solves (signature_of p) lits both
      both_solve = changed_solves first (changed_solves parts.finite.0 parts.finite.1 a c a_free a_open) b d b_free b_open

      at_a : clamped (signature_of p) both a ≡ c
      at_a = clamp_is both a c (changed_other (clamped (signature_of p) first) b d a other ∙ clamp_is first a c (changed_here (clamped (signature_of p) parts.finite.0) a c) a_open) a_open

      at_b : clamped (signature_of p) both b ≡ d
      at_b = clamp_is both b d (changed_here (clamped (signature_of p) first) b d) b_open

      pub equal_refuted : (c ≡ d → ⊥) → IsTrue (literal_fits (signature_of p) width (FinEq a b)) → Entails p width lits (FinEq a b) → ⊥
      equal_refuted differ fits entails =
          let h : (clamped (signature_of p) both a == clamped (signature_of p) both b) ≡ true =
          true_of_joined p width lits both parts.processes.0 parts.integers.0 both_solve parts.processes.1 parts.integers.1 (FinEq a b) fit fits entails in
          differ (sym at_a ∙ eqb-true (clamped (signature_of p) both a) (clamped (signature_of p) both b) h ∙ at_b)

      pub other_refuted : c ≡ d → IsTrue (literal_fits (signature_of p) width (FinNe a b)) → Entails p width lits (FinNe a b) → ⊥
      other_refuted same fits entails =
          let h : not (clamped (signature_of p) both a == clamped (signature_of p) both b) ≡ true =
          true_of_joined p width lits both parts.processes.0 parts.integers.0 both_solve parts.processes.1 parts.integers.1 (FinNe a b) fit fits entails in
          eqb-false (clamped (signature_of p) both a) (clamped (signature_of p) both b) (not-true (clamped (signature_of p) both a == clamped (signature_of p) both b) h) (at_a ∙ same ∙ sym at_b)

    -- a term is itself
    pub itself_refuted : (a : Term) → IsTrue (literal_fits (signature_of p) width (FinNe a a)) → Entails p width lits (FinNe a a) → ⊥
    itself_refuted a fits entails =
        let x = clamped (signature_of p) parts.finite.0 a in
        let h : not (x == x) ≡ true =
        true_of_joined p width lits parts.finite.0 parts.processes.0 parts.integers.0 parts.finite.1 parts.processes.1 parts.integers.1 (FinNe a a) fit fits entails in
        eqb-false x x (not-true (x == x) h) refl

pub itself_entailed : (p : Protocol) (width : ℕ) (lits : List Lit) (a : Term) → Entails p width lits (FinEq a a)
itself_entailed p width lits a s places state met = eq-eqb (constructor_at s places a) (constructor_at s places a) refl
