-- The lists of a formula from those of its parts, and what fits of its parts.
use Rattle.std.proofs.Common.{◌≡◌, ℕ, ℤ, List, [], ◌∷◌, map, Bool, true, false, not, ◌&&◌, refl, sym, ap, ap₂, ◌∙◌}
use Rattle.std.specs.Prelude.{IsTrue, nat_le, unsigned_abs}
use Rattle.std.specs.List.{list_all}
use Rattle.std.proofs.lemmas.List.Folds.{list_all-map}
use Rattle.cub_proto.specs.Signature.{Signature}
use Rattle.cub_proto.specs.declared.literal.Lit.{Lit}
use Rattle.cub_proto.specs.declared.literal.ISide.{ISide}
use Rattle.cub_proto.specs.Fits.{integer_side_fits}
use Rattle.cub_base.proofs.Bools.{and_right}
use Rattle.cub_dnf.specs.declared.formula.Formula.{Formula}
use Rattle.cub_dnf.specs.declared.formula.Formula.TheVariants as f
use Rattle.cub_dnf.specs.Lists.{lists, lists_step, list_of, all_joins, chained}
use Rattle.cub_dnf.specs.Fits.{fits, fits_step, greatest_formula_bound}
use Rattle.cub_dnf.proofs.Folding.{at_equation, at_negation, at_all, at_any}

map_map : {A B C : Type 0} (g : B → C) (h : A → B) (xs : List A) → map g (map h xs) ≡ map (λ x. g (h x)) xs
map_map g h [] = refl
map_map g h (x ∷ xs) = ap (λ ys. g (h x) ∷ ys) (map_map g h xs)

module _ (sig : Signature) where
  -- the lists of a negation are those of the part, exchanged
  pub list_of_not : (holds : Bool) (part : Formula) → list_of sig holds (f.Not part) ≡ list_of sig (not holds) part
  list_of_not true part = ap (λ both. both.own) (at_negation (lists_step sig) part)
  list_of_not false part = ap (λ both. both.opposite) (at_negation (lists_step sig) part)

  -- the list of `All` joins those of its parts, and that of its negation has them one after another
  pub list_of_all_true : (parts : List Formula) → list_of sig true (f.All parts) ≡ all_joins (map (list_of sig true) parts)
  list_of_all_true parts = ap (λ both. both.own) (at_all (lists_step sig) parts) ∙ ap all_joins (map_map (λ both. both.own) (lists sig) parts)

  pub list_of_all_false : (parts : List Formula) → list_of sig false (f.All parts) ≡ chained (map (list_of sig false) parts)
  list_of_all_false parts = ap (λ both. both.opposite) (at_all (lists_step sig) parts) ∙ ap chained (map_map (λ both. both.opposite) (lists sig) parts)

  -- for `Any` the other way round
  pub list_of_any_true : (parts : List Formula) → list_of sig true (f.Any parts) ≡ chained (map (list_of sig true) parts)
  list_of_any_true parts = ap (λ both. both.own) (at_any (lists_step sig) parts) ∙ ap chained (map_map (λ both. both.own) (lists sig) parts)

  pub list_of_any_false : (parts : List Formula) → list_of sig false (f.Any parts) ≡ all_joins (map (list_of sig false) parts)
  list_of_any_false parts = ap (λ both. both.opposite) (at_any (lists_step sig) parts) ∙ ap all_joins (map_map (λ both. both.opposite) (lists sig) parts)

  pub fits_all : (width : ℕ) (parts : List Formula) → fits sig width (f.All parts) ≡ list_all (fits sig width) parts
  fits_all width parts = at_all (fits_step sig width) parts ∙ list_all-map (λ b. b) (fits sig width) parts

  pub fits_any : (width : ℕ) (parts : List Formula) → fits sig width (f.Any parts) ≡ list_all (fits sig width) parts
  fits_any width parts = at_any (fits_step sig width) parts ∙ list_all-map (λ b. b) (fits sig width) parts

-- the list of a formula that is known to be of a form
module _ (sig : Signature) (holds : Bool) {formula : Formula} where
  pub at_not : {part seen : Formula} → formula ≡ f.Not part → seen ≡ part → list_of sig (not holds) seen ≡ list_of sig holds formula
  at_not {part = part} is view = ap (list_of sig (not holds)) view ∙ sym (list_of_not sig holds part) ∙ ap (list_of sig holds) (sym is)

  module _ {parts seen : List Formula} (view : seen ≡ parts) where
    pub at_all_true : formula ≡ f.All parts → holds ≡ true → all_joins (map (list_of sig true) seen) ≡ list_of sig holds formula
    at_all_true is polarity =
        ap (λ x. all_joins (map (list_of sig true) x)) view ∙ sym (list_of_all_true sig parts) ∙ ap₂ (list_of sig) (sym polarity) (sym is)

    pub at_all_false : formula ≡ f.All parts → holds ≡ false → chained (map (list_of sig false) seen) ≡ list_of sig holds formula
    at_all_false is polarity =
        ap (λ x. chained (map (list_of sig false) x)) view ∙ sym (list_of_all_false sig parts) ∙ ap₂ (list_of sig) (sym polarity) (sym is)

    pub at_any_true : formula ≡ f.Any parts → holds ≡ true → chained (map (list_of sig true) seen) ≡ list_of sig holds formula
    at_any_true is polarity =
        ap (λ x. chained (map (list_of sig true) x)) view ∙ sym (list_of_any_true sig parts) ∙ ap₂ (list_of sig) (sym polarity) (sym is)

    pub at_any_false : formula ≡ f.Any parts → holds ≡ false → all_joins (map (list_of sig false) seen) ≡ list_of sig holds formula
    at_any_false is polarity =
        ap (λ x. all_joins (map (list_of sig false) x)) view ∙ sym (list_of_any_false sig parts) ∙ ap₂ (list_of sig) (sym polarity) (sym is)

-- a formula of a form fits where its parts do
pub all_fits : (sig : Signature) (width : ℕ) {formula : Formula} {parts seen : List Formula} → seen ≡ parts → formula ≡ f.All parts
    → list_all (fits sig width) seen ≡ fits sig width formula
all_fits sig width {parts = parts} view is = ap (list_all (fits sig width)) view ∙ sym (fits_all sig width parts) ∙ ap (fits sig width) (sym is)

pub any_fits : (sig : Signature) (width : ℕ) {formula : Formula} {parts seen : List Formula} → seen ≡ parts → formula ≡ f.Any parts
    → list_all (fits sig width) seen ≡ fits sig width formula
any_fits sig width {parts = parts} view is = ap (list_all (fits sig width)) view ∙ sym (fits_any sig width parts) ∙ ap (fits sig width) (sym is)

-- what fits of a formula that is known to be of a form
module _ (sig : Signature) (width : ℕ) {formula : Formula} (ready : IsTrue (fits sig width formula)) where
  pub bound_fits : {a b : ISide} {bound : ℤ} → formula ≡ f.IntEq a b bound → IsTrue (nat_le (unsigned_abs bound) greatest_formula_bound)
  bound_fits {a} {b} {bound} is =
      let whole = sym (at_equation (fits_step sig width) a b bound) ∙ ap (fits sig width) (sym is) ∙ ready in
      and_right (integer_side_fits sig width a && integer_side_fits sig width b) (nat_le (unsigned_abs bound) greatest_formula_bound) whole

  pub all_parts_fit : {parts seen : List Formula} → seen ≡ parts → formula ≡ f.All parts → IsTrue (list_all (fits sig width) seen)
  all_parts_fit view is = all_fits sig width view is ∙ ready

  pub any_parts_fit : {parts seen : List Formula} → seen ≡ parts → formula ≡ f.Any parts → IsTrue (list_all (fits sig width) seen)
  any_parts_fit view is = any_fits sig width view is ∙ ready
