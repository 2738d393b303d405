-- Induction over formulas.
use Rattle.std.proofs.Common.{◌≡◌, Bool, ℤ, List, [], ◌∷◌, map, sym, subst}
use Rattle.cub_proto.specs.declared.literal.ISide.{ISide}
use Rattle.cub_proto.specs.declared.literal.Lit.{Lit}
use Rattle.cub_dnf.specs.declared.formula.Formula.{Formula}
use Rattle.cub_dnf.specs.declared.formula.Formula.TheOpen.{Formula-F}
use Rattle.cub_dnf.specs.declared.formula.Formula.TheViews.{roll-Formula}
use Rattle.cub_dnf.specs.declared.formula.Formula.TheVariants as f
use Rattle.cub_dnf.specs.declared.formula.Formula.TheVariants.{rolls-Const, rolls-One, rolls-IntEq, rolls-Not, rolls-All, rolls-Any}
use Rattle.cub_dnf.specs.declared.formula.Formula.TheFolds.{ind-Formula, map-Formula}

-- each of them has the property
abbrev pub Each : {A : Type 0} → (A → Type 0) → List A → Type 0
Each P [] = Unit {0}
Each P (x ∷ xs) = P x × Each P xs

module _ (P : Formula → Type 0)
    (const : (value : Bool) → P (f.Const value)) (one : (lit : Lit) → P (f.One lit)) (equation : (a b : ISide) (bound : ℤ) → P (f.IntEq a b bound))
    (negation : (part : Formula) → P part → P (f.Not part))
    (all : (parts : List Formula) → Each P parts → P (f.All parts)) (any : (parts : List Formula) → Each P parts → P (f.Any parts)) where
  abbrev Known : Type 0
  Known = (part : Formula) × P part

  all_known : (ys : List Known) → Each P (map (λ (e : Known). e.0) ys)
  all_known [] = tt
  all_known (y ∷ ys) = (y.1, all_known ys)

  step : (y : Formula-F Known) → P (roll-Formula (map-Formula Known Formula (λ e. e.0) y))
  step (Formula-F.Const value) = subst P (sym (rolls-Const value)) (const value)
  step (Formula-F.One lit) = subst P (sym (rolls-One lit)) (one lit)
  step (Formula-F.IntEq a b bound) = subst P (sym (rolls-IntEq a b bound)) (equation a b bound)
  step (Formula-F.Not y) = subst P (sym (rolls-Not y.0)) (negation y.0 y.1)
  step (Formula-F.All ys) = subst P (sym (rolls-All (map (λ (e : Known). e.0) ys))) (all (map (λ (e : Known). e.0) ys) (all_known ys))
  step (Formula-F.Any ys) = subst P (sym (rolls-Any (map (λ (e : Known). e.0) ys))) (any (map (λ (e : Known). e.0) ys) (all_known ys))

  pub induct : (formula : Formula) → P formula
  induct formula = ind-Formula P (λ x y h. subst (λ (z : Formula-F Formula). P (roll-Formula z)) h (step y)) formula
