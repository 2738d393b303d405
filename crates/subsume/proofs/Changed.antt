-- Solutions with another value for one term: they solve all literals that don't ask for it.
use Rattle.std.proofs.Common.{◌≡◌, ◌⊎◌, ℕ, ◌<◌, true, not, cond, List, [], ◌∷◌, ◌++◌, get_or, Option, Some, None, zero, suc, ℤ, ◌-ℤ◌, ◌≤ℤ◌, inl, inr, refl, sym, ap, ◌∙◌, subst, arith}
use Rattle.std.specs.Prelude.{IsTrue, ◌&&◌, ◌==◌, nat_lt, Contains}
use Rattle.std.specs.List.{list_all}
use Rattle.std.specs.Option.{option_map_or}
use Rattle.std.proofs.lemmas.Bool.{cases_Bool, cases_eq, cases_lt, cond-true, cond-false, eqb-true, eq-eqb, ne_eqb, ltb-true, lt-ltb, le-ltb}
use Rattle.std.proofs.lemmas.List.Elements.{Contains-get_or, Contains-append_left, Contains-append_right}
use Rattle.cub_proto.specs.declared.literal.Sort.{Sort}
use Rattle.cub_proto.specs.declared.literal.Term.{Term}
use Rattle.cub_proto.specs.declared.literal.PSide.{PSide}
use Rattle.cub_proto.specs.declared.literal.ISide.{ISide}
use Rattle.cub_proto.specs.declared.literal.ISide.TheVariants.{Zero, At}
use Rattle.cub_proto.specs.declared.literal.Lit.{Lit}
use Rattle.cub_proto.specs.declared.literal.Lit.TheVariants.{FinIn, FinEq, FinNe, ProcEq, ProcNe, Diff}
use Rattle.cub_proto.specs.Signature.{Signature, sort_of, constructors_of, constructors_at, same_finite}
use Rattle.cub_proto.specs.Truth.{has_bit}
use Rattle.cub_proto.specs.Fits.{literal_fits, place_fits}
use Rattle.cub_base.proofs.Bools.{and_left, and_right, and_both}
use Rattle.cub_base.proofs.Elements.{all_from, from_all}
use Rattle.cub_cube.specs.Mentions.{process_side_terms, integer_side_terms}
use Rattle.fin_dom.specs.Solution as fin
use Rattle.proc_eq.specs.Solution as proc
use Rattle.diff_close.specs.Literals as diff
use Rattle.theory_laws.proofs.Domains.{same_is}
use Rattle.theory_laws.proofs.Combined.{clamped}
use Rattle.subsume.specs.Marks.{asked_terms}

-- some literal of the list asks for the term
abbrev pub IsAsked : Signature → List Lit → Term → Type 0
IsAsked sig lits t = (l : Lit) × Contains lits l × Contains (asked_terms sig l) t

-- another value for one term
abbrev pub changed : {A : Type 0} → (Term → A) → Term → A → Term → A
changed u t c x = cond (fin.same_term x t) c (u x)

same_self : (t : Term) → fin.same_term t t ≡ true
same_self (Term.Global g) = eq-eqb g g refl
same_self (Term.Cell a q) = and_both (a == a) (q == q) (eq-eqb a a refl) (eq-eqb q q refl)

pub changed_here : {A : Type 0} (u : Term → A) (t : Term) (c : A) → changed u t c t ≡ c
changed_here u t c = cond-true _ _ _ (same_self t)

pub changed_other : {A : Type 0} (u : Term → A) (t : Term) (c : A) (x : Term) → (x ≡ t → ⊥) → changed u t c x ≡ u x
changed_other u t c x other = elim (cases_Bool (fin.same_term x t)) [
  | inl h ↦ absurd (other (same_is x t h))
  | inr h ↦ cond-false _ _ _ h
]

-- ---- members of short lists
pub one_case : {A : Type 0} (a x : A) → Contains (a ∷ []) x → a ≡ x
one_case a x (zero, below, is) = is
one_case a x (suc k, below, is) = absurd (omega arith)

pub two_cases : {A : Type 0} (a b x : A) → Contains (a ∷ b ∷ []) x → (a ≡ x) ⊎ (b ≡ x)
two_cases a b x (zero, below, is) = inl is
two_cases a b x (suc zero, below, is) = inr is
two_cases a b x (suc (suc k), below, is) = absurd (omega arith)

pub is_one : {A : Type 0} (a x : A) → a ≡ x → Contains (a ∷ []) x
is_one a x same = (0, omega arith, same)

pub is_first : {A : Type 0} (a b x : A) → a ≡ x → Contains (a ∷ b ∷ []) x
is_first a b x same = (0, omega arith, same)

pub is_second : {A : Type 0} (a b x : A) → b ≡ x → Contains (a ∷ b ∷ []) x
is_second a b x same = (1, omega arith, same)

-- ---- terms of one sort
same_counts : (sig : Signature) (o q : Option Sort) → IsTrue (same_finite o q) → option_map_or (constructors_of sig) o 0 ≡ option_map_or (constructors_of sig) q 0
same_counts sig (Some (Sort.Fin j)) (Some (Sort.Fin k)) h = ap (λ n. constructors_of sig (Sort.Fin n)) (let e : k ≡ j = eqb-true k j h in sym e)
same_counts sig (Some (Sort.Fin j)) (Some Sort.Proc) h = cc
same_counts sig (Some (Sort.Fin j)) (Some Sort.Int) h = cc
same_counts sig (Some (Sort.Fin j)) None h = cc
same_counts sig (Some Sort.Proc) q h = cc
same_counts sig (Some Sort.Int) q h = cc
same_counts sig None q h = cc

pub sides_alike : (sig : Signature) (width : ℕ) (a b : Term) → IsTrue (literal_fits sig width (FinEq a b)) → constructors_at sig a ≡ constructors_at sig b
sides_alike sig width a b fits =
    let sorts = same_finite (sort_of sig a) (sort_of sig b) in
    same_counts sig (sort_of sig a) (sort_of sig b) (and_left sorts (place_fits width a) (and_left (sorts && place_fits width a) (place_fits width b) fits))

-- an equality of terms with several constructors asks for both
pub asked_sides : (sig : Signature) (a b : Term) → (constructors_at sig a ≡ 1 → ⊥) → asked_terms sig (FinEq a b) ≡ a ∷ b ∷ []
asked_sides sig a b several = cond-false _ _ _ (ne_eqb (constructors_at sig a) 1 several)

-- ---- finite terms
pub clamp_is : (sig : Signature) (u : Term → ℕ) (t : Term) → u t < constructors_at sig t → clamped sig u t ≡ u t
clamp_is sig u t below = cond-true _ _ _ (lt-ltb (u t) (constructors_at sig t) below)

pub clamp_inside : (sig : Signature) (u : Term → ℕ) (t : Term) → 0 < constructors_at sig t → clamped sig u t < constructors_at sig t
clamp_inside sig u t some = elim (cases_lt (u t) (constructors_at sig t)) [
  | inl less ↦ let e = clamp_is sig u t less in omega arith
  | inr more ↦ let e : clamped sig u t ≡ 0 = cond-false _ _ _ (le-ltb (u t) (constructors_at sig t) more) in omega arith
]

module _ (sig : Signature) (width : ℕ) (u : Term → ℕ) (t : Term) (c : ℕ) (below : c < constructors_at sig t) where
  inside_kept : (s : Term) → fin.has_constructor sig u s ≡ true → fin.has_constructor sig (changed u t c) s ≡ true
  inside_kept s h = elim (cases_Bool (fin.same_term s t)) [
    | inl same ↦
        let here : changed u t c s ≡ c = cond-true _ _ _ same in
        let one : t ≡ s = sym (same_is s t same) in
        let less : c < constructors_at sig s = subst (λ x. c < constructors_at sig x) one below in
        lt-ltb (changed u t c s) (constructors_at sig s) (omega arith)
    | inr other ↦ let there : changed u t c s ≡ u s = cond-false _ _ _ other in ap (λ n. nat_lt n (constructors_at sig s)) there ∙ h
  ]

  both_inside : (a b : Term) → fin.is_inside sig u (FinEq a b) ≡ true → fin.is_inside sig (changed u t c) (FinEq a b) ≡ true
  both_inside a b h =
      and_both (fin.has_constructor sig (changed u t c) a) (fin.has_constructor sig (changed u t c) b)
      (inside_kept a (and_left (fin.has_constructor sig u a) (fin.has_constructor sig u b) h)) (inside_kept b (and_right (fin.has_constructor sig u a) (fin.has_constructor sig u b) h))

  pub lit_inside : (l : Lit) → fin.is_inside sig u l ≡ true → fin.is_inside sig (changed u t c) l ≡ true
  lit_inside (FinIn s mask) h = inside_kept s h
  lit_inside (FinEq a b) h = both_inside a b h
  lit_inside (FinNe a b) h = both_inside a b h
  lit_inside (ProcEq a b) h = refl
  lit_inside (ProcNe a b) h = refl
  lit_inside (Diff a b bound) h = refl

  values_kept : (a b : Term) → (Contains (a ∷ b ∷ []) t → ⊥) → (changed u t c a == changed u t c b) ≡ (u a == u b)
  values_kept a b free =
      ap (λ n. n == changed u t c b) (changed_other u t c a (λ same. free (is_first a b t same))) ∙ ap (λ n. u a == n) (changed_other u t c b (λ same. free (is_second a b t same)))

  -- both terms of an equality have the only constructor there is
  only_values : (a b : Term) → constructors_at sig a ≡ 1 → constructors_at sig b ≡ 1 → fin.is_inside sig (changed u t c) (FinEq a b) ≡ true → (changed u t c a == changed u t c b) ≡ true
  only_values a b one other inside =
      let first = ltb-true (changed u t c a) (constructors_at sig a) (and_left (fin.has_constructor sig (changed u t c) a) (fin.has_constructor sig (changed u t c) b) inside) in
      let second = ltb-true (changed u t c b) (constructors_at sig b) (and_right (fin.has_constructor sig (changed u t c) a) (fin.has_constructor sig (changed u t c) b) inside) in
      eq-eqb (changed u t c a) (changed u t c b) (omega arith)

  pub lit_true : (l : Lit) → IsTrue (literal_fits sig width l) → (Contains (asked_terms sig l) t → ⊥) → fin.is_inside sig u l ≡ true → fin.is_true u l ≡ true → fin.is_true (changed u t c) l ≡ true
  lit_true (FinIn s mask) fits free inside h = ap (has_bit mask) (changed_other u t c s (λ same. free (is_one s t same))) ∙ h
  lit_true (FinEq a b) fits free inside h = elim (cases_eq (constructors_at sig a) 1) [
    | inl one ↦ only_values a b one (sym (sides_alike sig width a b fits) ∙ one) (both_inside a b inside)
    | inr several ↦ values_kept a b (λ there. free (subst (λ ts. Contains ts t) (sym (asked_sides sig a b several)) there)) ∙ h
  ]
  lit_true (FinNe a b) fits free inside h = ap not (values_kept a b free) ∙ h
  lit_true (ProcEq a b) fits free inside h = refl
  lit_true (ProcNe a b) fits free inside h = refl
  lit_true (Diff a b bound) fits free inside h = refl

  pub finite_kept : (lits : List Lit) → IsTrue (list_all (literal_fits sig width) lits) → (IsAsked sig lits t → ⊥) → fin.Solves sig lits u → fin.Solves sig lits (changed u t c)
  finite_kept lits fit free solves = record {
    inside = from_all (fin.is_inside sig (changed u t c)) lits (λ k d less. lit_inside (get_or lits k d) (all_from (fin.is_inside sig u) lits solves.inside k d less));
    holds = from_all (fin.is_true (changed u t c)) lits (λ k d less. lit_true (get_or lits k d) (all_from (literal_fits sig width) lits fit k d less)
        (λ asked. free (get_or lits k d, Contains-get_or lits k d less, asked)) (all_from (fin.is_inside sig u) lits solves.inside k d less) (all_from (fin.is_true u) lits solves.holds k d less));
  }

-- ---- processes
abbrev pub proc_changed : (PSide → ℕ) → ℕ → ℕ → PSide → ℕ
proc_changed v g n (PSide.Global h) = cond (h == g) n (v (PSide.Global h))
proc_changed v g n (PSide.Place p) = v (PSide.Place p)

pub proc_here : (v : PSide → ℕ) (g n : ℕ) → proc_changed v g n (PSide.Global g) ≡ n
proc_here v g n = cond-true _ _ _ (eq-eqb g g refl)

pub proc_other : (v : PSide → ℕ) (g n : ℕ) (a : PSide) → (a ≡ PSide.Global g → ⊥) → proc_changed v g n a ≡ v a
proc_other v g n (PSide.Global h) other = elim (cases_Bool (h == g)) [
  | inl same ↦ absurd (other (ap PSide.Global (eqb-true h g same)))
  | inr differ ↦ cond-false _ _ _ differ
]
proc_other v g n (PSide.Place p) other = refl

side_term : (a : PSide) (g : ℕ) → a ≡ PSide.Global g → Contains (process_side_terms a) (Term.Global g)
side_term a g same = subst (λ x. Contains (process_side_terms x) (Term.Global g)) (sym same) (is_one (Term.Global g) (Term.Global g) refl)

module _ (v : PSide → ℕ) (g n : ℕ) where
  sides_kept : (a b : PSide) → (Contains (process_side_terms a ++ process_side_terms b) (Term.Global g) → ⊥) → (proc_changed v g n a == proc_changed v g n b) ≡ (v a == v b)
  sides_kept a b free =
      ap (λ x. x == proc_changed v g n b) (proc_other v g n a (λ same. free (Contains-append_left (process_side_terms a) (process_side_terms b) (Term.Global g) (side_term a g same))))
      ∙ ap (λ x. v a == x) (proc_other v g n b (λ same. free (Contains-append_right (process_side_terms a) (process_side_terms b) (Term.Global g) (side_term b g same))))

  proc_true : (sig : Signature) (l : Lit) → (Contains (asked_terms sig l) (Term.Global g) → ⊥) → proc.is_true v l ≡ true → proc.is_true (proc_changed v g n) l ≡ true
  proc_true sig (FinIn s mask) free h = refl
  proc_true sig (FinEq a b) free h = refl
  proc_true sig (FinNe a b) free h = refl
  proc_true sig (ProcEq a b) free h = sides_kept a b free ∙ h
  proc_true sig (ProcNe a b) free h = ap not (sides_kept a b free) ∙ h
  proc_true sig (Diff a b bound) free h = refl

  pub processes_kept : (sig : Signature) (width : ℕ) (lits : List Lit) → (IsAsked sig lits (Term.Global g) → ⊥) → proc.Solves width lits v → proc.Solves width lits (proc_changed v g n)
  processes_kept sig width lits free solves = record {
    apart = solves.apart;
    holds = from_all (proc.is_true (proc_changed v g n)) lits (λ k d less.
        proc_true sig (get_or lits k d) (λ asked. free (get_or lits k d, Contains-get_or lits k d less, asked)) (all_from (proc.is_true v) lits solves.holds k d less));
  }

-- ---- integers
pub value_here : (w : Term → ℤ) (t : Term) (z : ℤ) → diff.side_value (changed w t z) (At t) ≡ z
value_here w t z = changed_here w t z

pub value_other : (w : Term → ℤ) (t : Term) (z : ℤ) (a : ISide) → (a ≡ At t → ⊥) → diff.side_value (changed w t z) a ≡ diff.side_value w a
value_other w t z Zero other = refl
value_other w t z (At s) other = changed_other w t z s (λ same. other (ap At same))

integer_term : (a : ISide) (t : Term) → a ≡ At t → Contains (integer_side_terms a) t
integer_term a t same = subst (λ x. Contains (integer_side_terms x) t) (sym same) (is_one t t refl)

within_same : (x y u v bound : ℤ) → x ≡ y → u ≡ v → (y -ℤ v) ≤ℤ bound → (x -ℤ u) ≤ℤ bound
within_same x y u v bound e f h = rw (e, f) h

module _ (w : Term → ℤ) (t : Term) (z : ℤ) where
  diff_true : (sig : Signature) (l : Lit) → (Contains (asked_terms sig l) t → ⊥) → diff.Holds w l → diff.Holds (changed w t z) l
  diff_true sig (FinIn s mask) free h = tt
  diff_true sig (FinEq a b) free h = tt
  diff_true sig (FinNe a b) free h = tt
  diff_true sig (ProcEq a b) free h = tt
  diff_true sig (ProcNe a b) free h = tt
  diff_true sig (Diff a b bound) free h =
      let first : diff.side_value (changed w t z) a ≡ diff.side_value w a =
      value_other w t z a (λ same. free (Contains-append_left (integer_side_terms a) (integer_side_terms b) t (integer_term a t same))) in
      let second : diff.side_value (changed w t z) b ≡ diff.side_value w b =
      value_other w t z b (λ same. free (Contains-append_right (integer_side_terms a) (integer_side_terms b) t (integer_term b t same))) in
      within_same (diff.side_value (changed w t z) a) (diff.side_value w a) (diff.side_value (changed w t z) b) (diff.side_value w b) bound first second h

  pub integers_kept : (sig : Signature) (lits : List Lit) → (IsAsked sig lits t → ⊥) → diff.Solves w lits → diff.Solves (changed w t z) lits
  integers_kept sig lits free solves k d less = diff_true sig (get_or lits k d) (λ asked. free (get_or lits k d, Contains-get_or lits k d less, asked)) (solves k d less)
