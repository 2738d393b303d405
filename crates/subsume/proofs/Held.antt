-- Integer terms that are held at one value. Where no two integer terms are compared, a conjunction that some state meets
-- entails a bound of one term only by a bound of that term.
use Rattle.std.proofs.Common.{◌≡◌, ℕ, ◌<◌, Bool, true, false, List, length, get_or, ℤ, pos, ◌+ℤ◌, ◌-ℤ◌, ◌≤ℤ◌, inl, inr, refl, sym, ap, ◌∙◌, subst, arith}
use Rattle.std.specs.Prelude.{IsTrue, ◌&&◌, int_le, Contains}
use Rattle.std.specs.List.{list_all, list_any}
use Rattle.std.specs.Ordering.{int_eq}
use Rattle.std.proofs.lemmas.Bool.{cases_Bool, cond-true, cond-false, and_parts, true≢false, false≢true}
use Rattle.std.proofs.lemmas.Bool.Decides.{Decides-int_eq}
use Rattle.std.proofs.lemmas.Int.{ints}
use Rattle.cub_proto.specs.declared.literal.Term.{Term}
use Rattle.cub_proto.specs.declared.literal.ISide.{ISide}
use Rattle.cub_proto.specs.declared.literal.ISide.TheVariants.{Zero, At}
use Rattle.cub_proto.specs.declared.literal.Lit.{Lit}
use Rattle.cub_proto.specs.declared.literal.Lit.TheVariants.{FinIn, FinEq, FinNe, ProcEq, ProcNe, Diff}
use Rattle.cub_proto.specs.declared.protocol.Protocol.{Protocol}
use Rattle.cub_proto.specs.StateOf.{signature_of}
use Rattle.cub_proto.specs.Fits.{literal_fits}
use Rattle.cub_base.proofs.Members.{Has, has_Contains}
use Rattle.fin_dom.specs.Solution as fin
use Rattle.diff_close.specs.Literals as diff
use Rattle.theory_laws.specs.Solved.{PartsHaveSolutions}
use Rattle.theory_laws.specs.Entailed.{Entails}
use Rattle.theory_laws.proofs.Domains.{same_is}
use Rattle.theory_laws.proofs.Combined.{diff_follows}
use Rattle.subsume.specs.Marks.{is_bond}
use Rattle.subsume.proofs.Asked.{none_at}
use Rattle.subsume.proofs.Found.{any_has}
use Rattle.subsume.proofs.Changed.{changed, value_here, value_other}

-- ---- bounds of one term
at_most : (b k : ℤ) → int_le b k ≡ true → b ≤ℤ k
at_most b k h = grind (arith, ints)

more_than : (b k : ℤ) → int_le b k ≡ false → (k +ℤ pos 1) ≤ℤ b
more_than b k h = grind (arith, ints)

-- the literal is a bound of the term from above by k at most
abbrev caps : Term → ℤ → Lit → Bool
caps t k (FinIn u mask) = false
caps t k (FinEq a b) = false
caps t k (FinNe a b) = false
caps t k (ProcEq a b) = false
caps t k (ProcNe a b) = false
caps t k (Diff Zero b bound) = false
caps t k (Diff (At u) Zero bound) = fin.same_term u t && int_le bound k
caps t k (Diff (At u) (At v) bound) = false

-- the literal is a bound of the term from below, with j at most on the other side
abbrev lifts : Term → ℤ → Lit → Bool
lifts t j (FinIn u mask) = false
lifts t j (FinEq a b) = false
lifts t j (FinNe a b) = false
lifts t j (ProcEq a b) = false
lifts t j (ProcNe a b) = false
lifts t j (Diff Zero Zero bound) = false
lifts t j (Diff Zero (At u) bound) = fin.same_term u t && int_le bound j
lifts t j (Diff (At u) b bound) = false

cap_is : (t : Term) (k : ℤ) (l : Lit) → caps t k l ≡ true → (bound : ℤ) × (l ≡ Diff (At t) Zero bound) × (bound ≤ℤ k)
cap_is t k (FinIn u mask) h = absurd (false≢true h)
cap_is t k (FinEq a b) h = absurd (false≢true h)
cap_is t k (FinNe a b) h = absurd (false≢true h)
cap_is t k (ProcEq a b) h = absurd (false≢true h)
cap_is t k (ProcNe a b) h = absurd (false≢true h)
cap_is t k (Diff Zero b bound) h = absurd (false≢true h)
cap_is t k (Diff (At u) Zero bound) h =
    let two = and_parts (fin.same_term u t) (int_le bound k) h in
    (bound, ap (λ x. Diff (At x) Zero bound) (same_is u t two.0), at_most bound k two.1)
cap_is t k (Diff (At u) (At v) bound) h = absurd (false≢true h)

lift_is : (t : Term) (j : ℤ) (l : Lit) → lifts t j l ≡ true → (bound : ℤ) × (l ≡ Diff Zero (At t) bound) × (bound ≤ℤ j)
lift_is t j (FinIn u mask) h = absurd (false≢true h)
lift_is t j (FinEq a b) h = absurd (false≢true h)
lift_is t j (FinNe a b) h = absurd (false≢true h)
lift_is t j (ProcEq a b) h = absurd (false≢true h)
lift_is t j (ProcNe a b) h = absurd (false≢true h)
lift_is t j (Diff Zero Zero bound) h = absurd (false≢true h)
lift_is t j (Diff Zero (At u) bound) h =
    let two = and_parts (fin.same_term u t) (int_le bound j) h in
    (bound, ap (λ x. Diff Zero (At x) bound) (same_is u t two.0), at_most bound j two.1)
lift_is t j (Diff (At u) b bound) h = absurd (false≢true h)

-- ---- one term at another value
side_changed : (w : Term → ℤ) (t u : Term) (z : ℤ) → fin.same_term u t ≡ true → changed w t z u ≡ z
side_changed w t u z h = cond-true _ _ _ h

side_kept : (w : Term → ℤ) (t u : Term) (z : ℤ) → fin.same_term u t ≡ false → changed w t z u ≡ w u
side_kept w t u z h = cond-false _ _ _ h

first_within : (x y bound : ℤ) → x ≡ y → (y -ℤ pos 0) ≤ℤ bound → (x -ℤ pos 0) ≤ℤ bound
first_within x y bound e h = omega (arith, ints)

second_within : (x y bound : ℤ) → x ≡ y → (pos 0 -ℤ y) ≤ℤ bound → (pos 0 -ℤ x) ≤ℤ bound
second_within x y bound e h = omega (arith, ints)

up_to : (x k bound : ℤ) → x ≡ k +ℤ pos 1 → (k +ℤ pos 1) ≤ℤ bound → (x -ℤ pos 0) ≤ℤ bound
up_to x k bound e h = omega (arith, ints)

still_above : (x y k bound : ℤ) → x ≡ k +ℤ pos 1 → (y -ℤ pos 0) ≤ℤ k → (pos 0 -ℤ y) ≤ℤ bound → (pos 0 -ℤ x) ≤ℤ bound
still_above x y k bound e h g = omega (arith, ints)

down_to : (x j bound : ℤ) → x ≡ pos 0 -ℤ j -ℤ pos 1 → (j +ℤ pos 1) ≤ℤ bound → (pos 0 -ℤ x) ≤ℤ bound
down_to x j bound e h = omega (arith, ints)

still_below : (x y j bound : ℤ) → x ≡ pos 0 -ℤ j -ℤ pos 1 → (pos 0 -ℤ y) ≤ℤ j → (y -ℤ pos 0) ≤ℤ bound → (x -ℤ pos 0) ≤ℤ bound
still_below x y j bound e h g = omega (arith, ints)

and_false : (a b : Bool) → a ≡ true → (a && b) ≡ false → b ≡ false
and_false true b h k = k
and_false false b h k = cc

module _ (w : Term → ℤ) (t : Term) where
  raised : (k : ℤ) → (w t -ℤ pos 0) ≤ℤ k → (l : Lit) → is_bond l ≡ false → caps t k l ≡ false → diff.Holds w l → diff.Holds (changed w t (k +ℤ pos 1)) l
  raised k low (FinIn u mask) bond none h = tt
  raised k low (FinEq a b) bond none h = tt
  raised k low (FinNe a b) bond none h = tt
  raised k low (ProcEq a b) bond none h = tt
  raised k low (ProcNe a b) bond none h = tt
  raised k low (Diff Zero Zero bound) bond none h = h
  raised k low (Diff Zero (At u) bound) bond none h = elim (cases_Bool (fin.same_term u t)) [
    | inl same ↦ still_above (changed w t (k +ℤ pos 1) u) (w t) k bound (side_changed w t u (k +ℤ pos 1) same) low (subst (λ x. (pos 0 -ℤ w x) ≤ℤ bound) (same_is u t same) h)
    | inr other ↦ second_within (changed w t (k +ℤ pos 1) u) (w u) bound (side_kept w t u (k +ℤ pos 1) other) h
  ]
  raised k low (Diff (At u) Zero bound) bond none h = elim (cases_Bool (fin.same_term u t)) [
    | inl same ↦ up_to (changed w t (k +ℤ pos 1) u) k bound (side_changed w t u (k +ℤ pos 1) same) (more_than bound k (and_false (fin.same_term u t) (int_le bound k) same none))
    | inr other ↦ first_within (changed w t (k +ℤ pos 1) u) (w u) bound (side_kept w t u (k +ℤ pos 1) other) h
  ]
  raised k low (Diff (At u) (At v) bound) bond none h = absurd (true≢false bond)

  lowered : (j : ℤ) → (pos 0 -ℤ w t) ≤ℤ j → (l : Lit) → is_bond l ≡ false → lifts t j l ≡ false → diff.Holds w l → diff.Holds (changed w t (pos 0 -ℤ j -ℤ pos 1)) l
  lowered j high (FinIn u mask) bond none h = tt
  lowered j high (FinEq a b) bond none h = tt
  lowered j high (FinNe a b) bond none h = tt
  lowered j high (ProcEq a b) bond none h = tt
  lowered j high (ProcNe a b) bond none h = tt
  lowered j high (Diff Zero Zero bound) bond none h = h
  lowered j high (Diff Zero (At u) bound) bond none h = elim (cases_Bool (fin.same_term u t)) [
    | inl same ↦ down_to (changed w t (pos 0 -ℤ j -ℤ pos 1) u) j bound (side_changed w t u (pos 0 -ℤ j -ℤ pos 1) same) (more_than bound j (and_false (fin.same_term u t) (int_le bound j) same none))
    | inr other ↦ second_within (changed w t (pos 0 -ℤ j -ℤ pos 1) u) (w u) bound (side_kept w t u (pos 0 -ℤ j -ℤ pos 1) other) h
  ]
  lowered j high (Diff (At u) Zero bound) bond none h = elim (cases_Bool (fin.same_term u t)) [
    | inl same ↦ still_below (changed w t (pos 0 -ℤ j -ℤ pos 1) u) (w t) j bound (side_changed w t u (pos 0 -ℤ j -ℤ pos 1) same) high (subst (λ x. (w x -ℤ pos 0) ≤ℤ bound) (same_is u t same) h)
    | inr other ↦ first_within (changed w t (pos 0 -ℤ j -ℤ pos 1) u) (w u) bound (side_kept w t u (pos 0 -ℤ j -ℤ pos 1) other) h
  ]
  lowered j high (Diff (At u) (At v) bound) bond none h = absurd (true≢false bond)

-- ---- what is entailed
past_above : (x k : ℤ) → x ≡ k +ℤ pos 1 → (x -ℤ pos 0) ≤ℤ k → ⊥
past_above x k e h = omega (arith, ints)

past_below : (x j : ℤ) → x ≡ pos 0 -ℤ j -ℤ pos 1 → (pos 0 -ℤ x) ≤ℤ j → ⊥
past_below x j e h = omega (arith, ints)

between_upper : (x k j bound other : ℤ) → j +ℤ k ≡ pos 0 → bound ≤ℤ k → other ≤ℤ j → (x -ℤ pos 0) ≤ℤ bound → (pos 0 -ℤ x) ≤ℤ other → bound ≡ k
between_upper x k j bound other zero below beside high low = omega (arith, ints)

between_lower : (x k j bound other : ℤ) → j +ℤ k ≡ pos 0 → bound ≤ℤ k → other ≤ℤ j → (x -ℤ pos 0) ≤ℤ bound → (pos 0 -ℤ x) ≤ℤ other → other ≡ j
between_lower x k j bound other zero below beside high low = omega (arith, ints)

-- both bounds stand there themselves
pub record IsHeld (lits : List Lit) (t : Term) (k j : ℤ) : Type 0 where
  pub upper : Contains lits (Diff (At t) Zero k)
  pub lower : Contains lits (Diff Zero (At t) j)

module _ (p : Protocol) (width : ℕ) (lits : List Lit) (fit : IsTrue (list_all (literal_fits (signature_of p) width) lits)) (parts : PartsHaveSolutions p width lits) (free : list_any is_bond lits ≡ false) (t : Term) where
  abbrev w : Term → ℤ
  w = parts.integers.0

  holds_at : (l : Lit) → Contains lits l → diff.Holds w l
  holds_at l (i, below, is) = subst (diff.Holds w) is (parts.integers.1 i l below)

  raised_solves : (k : ℤ) → (w t -ℤ pos 0) ≤ℤ k → list_any (caps t k) lits ≡ false → diff.Solves (changed w t (k +ℤ pos 1)) lits
  raised_solves k low none i d below = raised w t k low (get_or lits i d) (none_at is_bond lits i d free below) (none_at (caps t k) lits i d none below) (parts.integers.1 i d below)

  lowered_solves : (j : ℤ) → (pos 0 -ℤ w t) ≤ℤ j → list_any (lifts t j) lits ≡ false → diff.Solves (changed w t (pos 0 -ℤ j -ℤ pos 1)) lits
  lowered_solves j high none i d below = lowered w t j high (get_or lits i d) (none_at is_bond lits i d free below) (none_at (lifts t j) lits i d none below) (parts.integers.1 i d below)

  cap_there : (k : ℤ) → IsTrue (literal_fits (signature_of p) width (Diff (At t) Zero k)) → Entails p width lits (Diff (At t) Zero k) → (bound : ℤ) × Contains lits (Diff (At t) Zero bound) × (bound ≤ℤ k)
  cap_there k fits entails = elim (cases_Bool (list_any (caps t k) lits)) [
    | inl some ↦
        let found = any_has (caps t k) lits some in
        let upper = cap_is t k found.0 found.2 in
        (upper.0, subst (λ l. Contains lits l) upper.1 (has_Contains lits found.0 found.1), upper.2)
    | inr none ↦
        let low : (w t -ℤ pos 0) ≤ℤ k = diff_follows p width lits fit (At t) Zero k fits parts entails w parts.integers.1 in
        absurd (past_above (changed w t (k +ℤ pos 1) t) k (value_here w t (k +ℤ pos 1))
        (diff_follows p width lits fit (At t) Zero k fits parts entails (changed w t (k +ℤ pos 1)) (raised_solves k low none)))
  ]

  lift_there : (j : ℤ) → IsTrue (literal_fits (signature_of p) width (Diff Zero (At t) j)) → Entails p width lits (Diff Zero (At t) j) → (bound : ℤ) × Contains lits (Diff Zero (At t) bound) × (bound ≤ℤ j)
  lift_there j fits entails = elim (cases_Bool (list_any (lifts t j) lits)) [
    | inl some ↦
        let found = any_has (lifts t j) lits some in
        let lower = lift_is t j found.0 found.2 in
        (lower.0, subst (λ l. Contains lits l) lower.1 (has_Contains lits found.0 found.1), lower.2)
    | inr none ↦
        let high : (pos 0 -ℤ w t) ≤ℤ j = diff_follows p width lits fit Zero (At t) j fits parts entails w parts.integers.1 in
        absurd (past_below (changed w t (pos 0 -ℤ j -ℤ pos 1) t) j (value_here w t (pos 0 -ℤ j -ℤ pos 1))
        (diff_follows p width lits fit Zero (At t) j fits parts entails (changed w t (pos 0 -ℤ j -ℤ pos 1)) (lowered_solves j high none)))
  ]

  pub held_entailed : (k j : ℤ) → j +ℤ k ≡ pos 0 → IsTrue (literal_fits (signature_of p) width (Diff (At t) Zero k)) → IsTrue (literal_fits (signature_of p) width (Diff Zero (At t) j)) → Entails p width lits (Diff (At t) Zero k) → Entails p width lits (Diff Zero (At t) j) → IsHeld lits t k j
  held_entailed k j zero fits_above fits_below above below =
      let upper = cap_there k fits_above above in
      let lower = lift_there j fits_below below in
      let high : (w t -ℤ pos 0) ≤ℤ upper.0 = holds_at (Diff (At t) Zero upper.0) upper.1 in
      let low : (pos 0 -ℤ w t) ≤ℤ lower.0 = holds_at (Diff Zero (At t) lower.0) lower.1 in
      record {
        upper = subst (λ b. Contains lits (Diff (At t) Zero b)) (between_upper (w t) k j upper.0 lower.0 zero upper.2 lower.2 high low) upper.1;
        lower = subst (λ b. Contains lits (Diff Zero (At t) b)) (between_lower (w t) k j upper.0 lower.0 zero upper.2 lower.2 high low) lower.1;
      }
