-- The list of conjunctions that a formula stands for, and that of its negation.
use Rattle.std.specs.Prelude.{Bool, true, false, ℤ, pos, ◌-ℤ◌, List, [], ◌∷◌, ◌++◌, map, flat_map}
use Rattle.cub_proto.specs.declared.literal.ISide.{ISide}
use Rattle.cub_proto.specs.declared.literal.Lit.{Lit}
use Rattle.cub_proto.specs.declared.literal.Lit.TheVariants.{Diff}
use Rattle.cub_proto.specs.Signature.{Signature}
use Rattle.cub_proto.specs.Negation.{negated}
use Rattle.cub_dnf.specs.declared.formula.Formula.{Formula}
use Rattle.cub_dnf.specs.declared.formula.Formula.TheOpen.{Formula-F}
use Rattle.cub_dnf.specs.declared.formula.Formula.TheFolds.{fold-Formula}

-- all joins of a conjunction on the left with one on the right, in lexicographic order
abbrev pub joins : {A : Type 0} → List (List A) → List (List A) → List (List A)
joins left right = flat_map (λ c. map (λ d. c ++ d) right) left

-- all joins of one conjunction from each list
abbrev pub all_joins : {A : Type 0} → List (List (List A)) → List (List A)
all_joins [] = [] ∷ []
all_joins (list ∷ lists) = joins list (all_joins lists)

-- the lists one after another
abbrev pub chained : {A : Type 0} → List (List (List A)) → List (List A)
chained [] = []
chained (list ∷ lists) = list ++ chained lists

-- the list of a formula, and the list of its negation
pub record Lists : Type 0 where
  pub own : List (List Lit)
  pub opposite : List (List Lit)

-- `a - b = bound` says `a - b <= bound` and `b - a <= -bound`;
-- its negation says `a - b <= bound - 1` or `b - a <= -bound - 1`
abbrev pub lists_of_equation : ISide → ISide → ℤ → Lists
lists_of_equation a b bound = record {
  own = (Diff a b bound ∷ Diff b a (pos 0 -ℤ bound) ∷ []) ∷ [];
  opposite = (Diff a b (bound -ℤ pos 1) ∷ []) ∷ (Diff b a ((pos 0 -ℤ bound) -ℤ pos 1) ∷ []) ∷ [];
}

-- one formula, with the lists of its parts in their places
abbrev pub lists_step : Signature → Formula-F Lists → Lists
lists_step sig (Formula-F.Const true) = record { own = [] ∷ []; opposite = [] }
lists_step sig (Formula-F.Const false) = record { own = []; opposite = [] ∷ [] }
lists_step sig (Formula-F.One lit) = record { own = (lit ∷ []) ∷ []; opposite = (negated sig lit ∷ []) ∷ [] }
lists_step sig (Formula-F.IntEq a b bound) = lists_of_equation a b bound
lists_step sig (Formula-F.Not part) = record { own = part.opposite; opposite = part.own }
lists_step sig (Formula-F.All parts) = record { own = all_joins (map (λ p. p.own) parts); opposite = chained (map (λ p. p.opposite) parts) }
lists_step sig (Formula-F.Any parts) = record { own = chained (map (λ p. p.own) parts); opposite = all_joins (map (λ p. p.opposite) parts) }

abbrev pub lists : Signature → Formula → Lists
lists sig = fold-Formula Lists (lists_step sig)

abbrev pub side : Bool → Lists → List (List Lit)
side true both = both.own
side false both = both.opposite

-- the conjunctions of a formula, or with `false` those of its negation
abbrev pub list_of : Signature → Bool → Formula → List (List Lit)
list_of sig holds formula = side holds (lists sig formula)
