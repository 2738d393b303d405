-- A state and processes that satisfy a conjunction solve each of its parts; entailment and negations.
use Rattle.std.proofs.Common.{◌≡◌, ◌↔◌, ℕ, ◌<◌, Bool, true, false, not, List, [], ◌∷◌, ◌++◌, length, get_or, ℤ, ◌-ℤ◌, ◌≤ℤ◌, inl, inr, refl, sym, ◌∙◌, subst, arith}
use Rattle.std.specs.Prelude.{All, IsTrue, ◌&&◌, slice_index}
use Rattle.std.specs.List.{list_all}
use Rattle.std.proofs.lemmas.Bool.{cases_order, lt-ltb, cases_Bool}
use Rattle.std.proofs.lemmas.List.Folds.{list_all-append}
use Rattle.cub_proto.specs.declared.literal.Term.{Term}
use Rattle.cub_proto.specs.declared.literal.PSide.{PSide}
use Rattle.cub_proto.specs.declared.literal.ISide.{ISide}
use Rattle.cub_proto.specs.declared.literal.ISide.TheVariants.{Zero, At}
use Rattle.cub_proto.specs.declared.literal.Lit.{Lit}
use Rattle.cub_proto.specs.declared.literal.Lit.TheVariants.{FinIn, FinEq, FinNe, ProcEq, ProcNe, Diff}
use Rattle.cub_proto.specs.declared.protocol.Protocol.{Protocol}
use Rattle.cub_proto.specs.Configuration.{Configuration, process_count}
use Rattle.cub_proto.specs.Signature.{sort_of, constructors_at, same_finite}
use Rattle.cub_proto.specs.StateOf.{IsStateOf, signature_of}
use Rattle.cub_proto.specs.Truth.{is_true, all_true, constructor_at, process_at, integer_at}
use Rattle.cub_proto.specs.Fits.{is_finite, place_fits, literal_fits}
use Rattle.cub_proto.specs.Negation.{negated}
use Rattle.cub_proto.specs.Meets.{Satisfies}
use Rattle.cub_base.proofs.Bools.{and_left, and_right, and_both}
use Rattle.cub_base.proofs.Elements.{all_from, from_all}
use Rattle.cub_proto.proofs.StateValues.{alive_within}
use Rattle.cub_proto.proofs.Opposite.{constructor_below, negated_is}
use Rattle.fin_dom.specs.Solution as fin
use Rattle.proc_eq.specs.Solution as proc
use Rattle.diff_close.specs.Literals as diff
use Rattle.cub_cube.specs.Meaning.{IsConsistent}
use Rattle.theory_laws.specs.Solved.{PartsHaveSolutions}
use Rattle.theory_laws.specs.Entailed.{Entails}
use Rattle.theory_laws.proofs.Building.{same_finite_left, same_finite_right}
use Rattle.theory_laws.proofs.Stating.{is_within}

module _ (p : Protocol) (s : Configuration) (places : List ℕ) (width : ℕ) (lits : List Lit) (state : IsStateOf p s) (met : Satisfies s places width lits) where
  pub there : All (λ i. i < process_count s) places
  there k d below = alive_within s (get_or places k d) (met.processes.alive k d below)

  -- the values that the state gives
  abbrev pub constructors : Term → ℕ
  constructors t = constructor_at s places t

  abbrev pub processes : PSide → ℕ
  processes a = process_at s places a

  abbrev pub integers : Term → ℤ
  integers t = integer_at s places (At t)

  module _ (lit : Lit) (fits : IsTrue (literal_fits (signature_of p) width lit)) where
    fits_here : IsTrue (literal_fits (signature_of p) (length places) lit)
    fits_here = subst (λ w. IsTrue (literal_fits (signature_of p) w lit)) (sym met.one_each) fits

  pub below_sort : (t : Term) → IsTrue (place_fits width t) → IsTrue (is_finite (sort_of (signature_of p) t)) → fin.has_constructor (signature_of p) constructors t ≡ true
  below_sort t placed finite =
      lt-ltb (constructors t) (constructors_at (signature_of p) t)
      (constructor_below p s places state there t (subst (λ w. IsTrue (place_fits w t)) (sym met.one_each) placed) finite)

  both_below : (a b : Term) → IsTrue (literal_fits (signature_of p) width (FinEq a b)) → fin.is_inside (signature_of p) constructors (FinEq a b) ≡ true
  both_below a b fits =
      let sorts = same_finite (sort_of (signature_of p) a) (sort_of (signature_of p) b) in
      let left = and_left (sorts && place_fits width a) (place_fits width b) fits in
      let same = and_left sorts (place_fits width a) left in
      and_both (fin.has_constructor (signature_of p) constructors a) (fin.has_constructor (signature_of p) constructors b)
      (below_sort a (and_right sorts (place_fits width a) left) (same_finite_left (sort_of (signature_of p) a) (sort_of (signature_of p) b) same))
      (below_sort b (and_right (sorts && place_fits width a) (place_fits width b) fits) (same_finite_right (sort_of (signature_of p) a) (sort_of (signature_of p) b) same))

  inside_one : (lit : Lit) → IsTrue (literal_fits (signature_of p) width lit) → fin.is_inside (signature_of p) constructors lit ≡ true
  inside_one (FinIn t mask) fits =
      let sorted = is_finite (sort_of (signature_of p) t) in
      let front = and_left (sorted && place_fits width t) _ fits in
      below_sort t (and_right sorted (place_fits width t) front) (and_left sorted (place_fits width t) front)
  inside_one (FinEq a b) fits = both_below a b fits
  inside_one (FinNe a b) fits = both_below a b fits
  inside_one (ProcEq a b) fits = refl
  inside_one (ProcNe a b) fits = refl
  inside_one (Diff a b bound) fits = refl

  fin_one : (lit : Lit) → is_true s places lit ≡ true → fin.is_true constructors lit ≡ true
  fin_one (FinIn t mask) h = h
  fin_one (FinEq a b) h = h
  fin_one (FinNe a b) h = h
  fin_one (ProcEq a b) h = refl
  fin_one (ProcNe a b) h = refl
  fin_one (Diff a b bound) h = refl

  proc_one : (lit : Lit) → is_true s places lit ≡ true → proc.is_true processes lit ≡ true
  proc_one (FinIn t mask) h = refl
  proc_one (FinEq a b) h = refl
  proc_one (FinNe a b) h = refl
  proc_one (ProcEq a b) h = h
  proc_one (ProcNe a b) h = h
  proc_one (Diff a b bound) h = refl

  pub side_is : (a : ISide) → diff.side_value integers a ≡ integer_at s places a
  side_is Zero = refl
  side_is (At t) = refl

  diff_one : (lit : Lit) → is_true s places lit ≡ true → diff.Holds integers lit
  diff_one (FinIn t mask) h = tt
  diff_one (FinEq a b) h = tt
  diff_one (FinNe a b) h = tt
  diff_one (ProcEq a b) h = tt
  diff_one (ProcNe a b) h = tt
  diff_one (Diff a b bound) h =
      let here : (integer_at s places a -ℤ integer_at s places b) ≤ℤ bound = is_within (integer_at s places a -ℤ integer_at s places b) bound h in
      rw (side_is a, side_is b) here

  each_true : All (λ lit. IsTrue (is_true s places lit)) lits
  each_true = all_from (is_true s places) lits met.holds

  distinct_places : (i j : ℕ) → i < width → j < width → slice_index places i ≡ slice_index places j → i ≡ j
  distinct_places i j i_in j_in same = elim (cases_order i j) [
    | inl equal ↦ equal
    | inr order ↦ elim order [
      | inl less ↦ absurd (met.processes.distinct i j 0 less (omega (arith, j_in, met.one_each)) same)
      | inr more ↦ absurd (met.processes.distinct j i 0 more (omega (arith, i_in, met.one_each)) (sym same))
    ]
  ]

  pub processes_solve : proc.Solves width lits processes
  processes_solve = record {
    apart = distinct_places;
    holds = from_all (proc.is_true processes) lits (λ k d below. proc_one (get_or lits k d) (each_true k d below));
  }

  pub integers_solve : diff.Solves integers lits
  integers_solve = λ k d below. diff_one (get_or lits k d) (each_true k d below)

  pub constructors_solve : IsTrue (list_all (literal_fits (signature_of p) width) lits) → fin.Solves (signature_of p) lits constructors
  constructors_solve fit = record {
    inside = from_all (fin.is_inside (signature_of p) constructors) lits (λ k d below. inside_one (get_or lits k d) (all_from (literal_fits (signature_of p) width) lits fit k d below));
    holds = from_all (fin.is_true constructors) lits (λ k d below. fin_one (get_or lits k d) (each_true k d below));
  }

  pub solved_parts : IsTrue (list_all (literal_fits (signature_of p) width) lits) → PartsHaveSolutions p width lits
  solved_parts fit = record { finite = (constructors, constructors_solve fit); processes = (processes, processes_solve); integers = (integers, integers_solve) }

  -- a literal with its negation
  pub opposite : (lit : Lit) → IsTrue (literal_fits (signature_of p) width lit) → is_true s places (negated (signature_of p) lit) ≡ not (is_true s places lit)
  opposite lit fits = negated_is p s places state there lit (fits_here lit fits)

pub consistent_parts : (p : Protocol) (width : ℕ) (lits : List Lit) → IsTrue (list_all (literal_fits (signature_of p) width) lits) → IsConsistent p width lits → PartsHaveSolutions p width lits
consistent_parts p width lits fit (s, state, (places, met)) = solved_parts p s places width lits state met fit

-- one literal more
pub satisfies_more : (s : Configuration) (places : List ℕ) (width : ℕ) (lits : List Lit) (lit : Lit) → Satisfies s places width lits → is_true s places lit ≡ true → Satisfies s places width (lits ++ lit ∷ [])
satisfies_more s places width lits lit met h = record {
  one_each = met.one_each;
  processes = met.processes;
  holds = list_all-append (is_true s places) lits (lit ∷ []) ∙ and_both (all_true s places lits) (list_all (is_true s places) (lit ∷ [])) met.holds (and_both (is_true s places lit) true h refl);
}

pub satisfies_fewer : (s : Configuration) (places : List ℕ) (width : ℕ) (lits more : List Lit) → Satisfies s places width (lits ++ more) → Satisfies s places width lits × (all_true s places more ≡ true)
satisfies_fewer s places width lits more met =
    let both = sym (list_all-append (is_true s places) lits more) ∙ met.holds in (
      record { one_each = met.one_each; processes = met.processes; holds = and_left (all_true s places lits) (all_true s places more) both },
      and_right (all_true s places lits) (all_true s places more) both,
    )

pub not_both : (b : Bool) → b ≡ true → not b ≡ true → ⊥
not_both true h k = cc
not_both false h k = cc

not_from : (b : Bool) → b ≡ false → not b ≡ true
not_from true h = cc
not_from false h = refl

-- an entailed literal's negation can't be added
pub entailed_refutes : (p : Protocol) (width : ℕ) (lits : List Lit) (lit : Lit) → IsTrue (literal_fits (signature_of p) width lit) → Entails p width lits lit → IsConsistent p width (lits ++ negated (signature_of p) lit ∷ []) → ⊥
entailed_refutes p width lits lit fits entails (s, state, (places, met)) =
    let parts = satisfies_fewer s places width lits (negated (signature_of p) lit ∷ []) met in
    let h : is_true s places lit ≡ true = entails s places state parts.0 in
    let k : is_true s places (negated (signature_of p) lit) ≡ true = and_left (is_true s places (negated (signature_of p) lit)) true parts.1 in
    not_both (is_true s places lit) h (sym (opposite p s places width lits state parts.0 lit fits) ∙ k)

pub refuted_entails : (p : Protocol) (width : ℕ) (lits : List Lit) (lit : Lit) → IsTrue (literal_fits (signature_of p) width lit) → (IsConsistent p width (lits ++ negated (signature_of p) lit ∷ []) → ⊥) → Entails p width lits lit
refuted_entails p width lits lit fits none s places state met = elim (cases_Bool (is_true s places lit)) [
  | inl h ↦ h
  | inr h ↦
      absurd (none (
        s,
        state,
        (
          places,
          satisfies_more s places width lits (negated (signature_of p) lit) met (opposite p s places width lits state met lit fits ∙ not_from (is_true s places lit) h),
        ),
      ))
]

pub entailed_is : (p : Protocol) (width : ℕ) (lits : List Lit) (lit : Lit) → IsTrue (literal_fits (signature_of p) width lit) → Entails p width lits lit ↔ (IsConsistent p width (lits ++ negated (signature_of p) lit ∷ []) → ⊥)
entailed_is p width lits lit fits = (entailed_refutes p width lits lit fits, refuted_entails p width lits lit fits)
