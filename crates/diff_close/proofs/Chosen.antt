-- The chosen values are a solution, there is one at each side, and no second one.
use Rattle.std.proofs.Common.{◌≡◌, ℕ, ◌<◌, ◌+◌, zero, suc, ℤ, pos, ◌+ℤ◌, ◌-ℤ◌, ◌≤ℤ◌, List, [], ◌∷◌, ◌++◌, length, get_or, refl, arith, subst, sym, Some, slice_get}
use Rattle.std.proofs.lemmas.Int.{ints}
use Rattle.cub_proto.specs.declared.literal.Term.{Term}
use Rattle.cub_proto.specs.declared.literal.Term.TheVariants.{Global}
use Rattle.cub_proto.specs.declared.literal.ISide.{ISide}
use Rattle.cub_proto.specs.declared.literal.ISide.TheVariants.{Zero, At}
use Rattle.cub_proto.specs.declared.literal.Lit.{Lit}
use Rattle.cub_proto.specs.declared.literal.Lit.TheVariants.{FinIn, FinEq, FinNe, ProcEq, ProcNe, Diff}
use Rattle.diff_close.specs.Literals.{side_value, Holds, Solves, IsPath, IsLeastSum, IsChosen}
use Rattle.diff_close.proofs.Translate.{get_is}

-- a path and one literal more
pub path_on : (lits : List Lit) (x y : ISide) (ks : List ℕ) (s : ℤ) (k : ℕ) (a : ISide) (c : ℤ) → IsPath lits x ks y s → slice_get lits k ≡ Some (Diff a y c) → IsPath lits x (ks ++ k ∷ []) a (s +ℤ c)
path_on lits x y [] s k a c (same, none) here =
    (a, c, subst (λ (z : ISide). slice_get lits k ≡ Some (Diff a z c)) (sym same) here, (refl, omega (arith, ints, none)))
path_on lits x y (j ∷ js) s k a c (a', c', step, rest) here =
    let more : IsPath lits a' (js ++ k ∷ []) a ((s -ℤ c') +ℤ c) = path_on lits a' y js (s -ℤ c') k a c rest here in
    let same : (s -ℤ c') +ℤ c ≡ (s +ℤ c) -ℤ c' = omega (arith, ints) in
    (a', c', step, subst (λ (z : ℤ). IsPath lits a' (js ++ k ∷ []) a z) same more)

-- two least sums at one side are one number
pub least_same : (lits : List Lit) (a : ISide) (s t : ℤ) → IsLeastSum lits a s → IsLeastSum lits a t → s ≡ t
least_same lits a s t p q =
    omega (arith, ints, p.least q.reached.0 q.reached.1 t q.reached.2, q.least p.reached.0 p.reached.1 s p.reached.2)

pub chosen_same : (lits : List Lit) (a : ISide) (v w : ℤ) → IsChosen lits a v → IsChosen lits a w → v ≡ w
chosen_same lits a v w p q =
    omega (arith, ints, p.difference, q.difference, least_same lits a p.here q.here p.least_here q.least_here, least_same lits Zero p.zero q.zero p.least_zero q.least_zero)

-- what is chosen at a side, where it is chosen at each term
side_chosen : (lits : List Lit) (v : Term → ℤ) → ((t : Term) → IsChosen lits (At t) (v t)) → (a : ISide) → IsChosen lits a (side_value v a)
side_chosen lits v chosen (At t) = chosen t
side_chosen lits v chosen Zero =
    let any : IsChosen lits (At (Global 0)) (v (Global 0)) = chosen (Global 0) in
    record { here = any.zero; zero = any.zero; least_here = any.least_zero; least_zero = any.least_zero; difference = omega (arith, ints) }

chosen_holds : (lits : List Lit) (v : Term → ℤ) → ((t : Term) → IsChosen lits (At t) (v t)) → (k : ℕ) (l : Lit) → slice_get lits k ≡ Some l → Holds v l
chosen_holds lits v chosen k (FinIn t mask) here = tt
chosen_holds lits v chosen k (FinEq a b) here = tt
chosen_holds lits v chosen k (FinNe a b) here = tt
chosen_holds lits v chosen k (ProcEq a b) here = tt
chosen_holds lits v chosen k (ProcNe a b) here = tt
chosen_holds lits v chosen k (Diff a b c) here =
    let at_a : IsChosen lits a (side_value v a) = side_chosen lits v chosen a in
    let at_b : IsChosen lits b (side_value v b) = side_chosen lits v chosen b in
    let way : (x : ISide) × (ks : List ℕ) × IsPath lits x ks b at_b.here = at_b.least_here.reached in
    let longer : IsPath lits way.0 (way.1 ++ k ∷ []) a (at_b.here +ℤ c) = path_on lits way.0 b way.1 at_b.here k a c way.2 here in
    omega (arith, ints, at_a.difference, at_b.difference, at_a.least_here.least way.0 (way.1 ++ k ∷ []) (at_b.here +ℤ c) longer, least_same lits Zero at_a.zero at_b.zero at_a.least_zero at_b.least_zero)

-- numbers that are chosen at each term satisfy the literals
pub chosen_solves : (lits : List Lit) (v : Term → ℤ) → ((t : Term) → IsChosen lits (At t) (v t)) → Solves v lits
chosen_solves lits v chosen k d k_in = chosen_holds lits v chosen k (get_or lits k d) (get_is lits k d k_in)
