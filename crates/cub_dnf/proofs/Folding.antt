-- What a fold gives of each form of formula.
use Rattle.std.proofs.Common.{◌≡◌, Bool, ℤ, List, map, sym, ap, ◌∙◌}
use Rattle.cub_proto.specs.declared.literal.ISide.{ISide}
use Rattle.cub_proto.specs.declared.literal.Lit.{Lit}
use Rattle.cub_dnf.specs.declared.formula.Formula.{Formula}
use Rattle.cub_dnf.specs.declared.formula.Formula.TheOpen.{Formula-F}
use Rattle.cub_dnf.specs.declared.formula.Formula.TheVariants as f
use Rattle.cub_dnf.specs.declared.formula.Formula.TheVariants.{rolls-Const, rolls-One, rolls-IntEq, rolls-Not, rolls-All, rolls-Any}
use Rattle.cub_dnf.specs.declared.formula.Formula.TheFolds.{fold-Formula, fold-roll-Formula}

module _ {A : Type 0} (step : Formula-F A → A) where
  abbrev of : Formula → A
  of = fold-Formula A step

  pub at_const : (value : Bool) → fold-Formula A step (f.Const value) ≡ step (Formula-F.Const value)
  at_const value = ap of (sym (rolls-Const value)) ∙ fold-roll-Formula A step (Formula-F.Const value)

  pub at_one : (lit : Lit) → fold-Formula A step (f.One lit) ≡ step (Formula-F.One lit)
  at_one lit = ap of (sym (rolls-One lit)) ∙ fold-roll-Formula A step (Formula-F.One lit)

  pub at_equation : (a b : ISide) (bound : ℤ) → fold-Formula A step (f.IntEq a b bound) ≡ step (Formula-F.IntEq a b bound)
  at_equation a b bound = ap of (sym (rolls-IntEq a b bound)) ∙ fold-roll-Formula A step (Formula-F.IntEq a b bound)

  pub at_negation : (part : Formula) → fold-Formula A step (f.Not part) ≡ step (Formula-F.Not (fold-Formula A step part))
  at_negation part = ap of (sym (rolls-Not part)) ∙ fold-roll-Formula A step (Formula-F.Not part)

  pub at_all : (parts : List Formula) → fold-Formula A step (f.All parts) ≡ step (Formula-F.All (map (fold-Formula A step) parts))
  at_all parts = ap of (sym (rolls-All parts)) ∙ fold-roll-Formula A step (Formula-F.All parts)

  pub at_any : (parts : List Formula) → fold-Formula A step (f.Any parts) ≡ step (Formula-F.Any (map (fold-Formula A step) parts))
  at_any parts = ap of (sym (rolls-Any parts)) ∙ fold-roll-Formula A step (Formula-F.Any parts)
