-- The terms that literals mention.
use Rattle.std.specs.Prelude.{Bool, true, ◌&&◌, List, [], ◌∷◌, ◌++◌, fold, Contains}
use Rattle.std.specs.List.{flat_map, list_all}
use Rattle.std.specs.Ordering.{is_lt, match_ordering}
use Rattle.cub_proto.specs.declared.literal.Term.{Term}
use Rattle.cub_proto.specs.declared.literal.PSide.{PSide}
use Rattle.cub_proto.specs.declared.literal.ISide.{ISide}
use Rattle.cub_proto.specs.declared.literal.ISide.TheVariants.{Zero, At}
use Rattle.cub_proto.specs.declared.literal.Lit.{Lit}
use Rattle.cub_proto.specs.declared.literal.Lit.TheVariants.{FinIn, FinEq, FinNe, ProcEq, ProcNe, Diff}
use Rattle.cub_proto.specs.Order.{term_cmp}

-- a process global is a term too; a place is none
abbrev pub process_side_terms : PSide → List Term
process_side_terms (PSide.Global g) = Term.Global g ∷ []
process_side_terms (PSide.Place p) = []

abbrev pub integer_side_terms : ISide → List Term
integer_side_terms Zero = []
integer_side_terms (At t) = t ∷ []

-- the terms of a literal, from left to right
abbrev pub terms_of : Lit → List Term
terms_of (FinIn t mask) = t ∷ []
terms_of (FinEq a b) = a ∷ b ∷ []
terms_of (FinNe a b) = a ∷ b ∷ []
terms_of (ProcEq a b) = process_side_terms a ++ process_side_terms b
terms_of (ProcNe a b) = process_side_terms a ++ process_side_terms b
terms_of (Diff a b bound) = integer_side_terms a ++ integer_side_terms b

-- a rising list with one more term at its place, if it is not there
abbrev pub with_term : List Term → Term → List Term
with_term [] t = t ∷ []
with_term (u ∷ us) t = match_ordering (term_cmp t u) (t ∷ u ∷ us) (u ∷ us) (u ∷ with_term us t)

-- the terms that a conjunction mentions, rising, each once
abbrev pub terms_in : List Lit → List Term
terms_in lits = fold with_term [] (flat_map terms_of lits)

-- each term comes before all later ones
abbrev pub terms_rise : List Term → Bool
terms_rise [] = true
terms_rise (t ∷ ts) = list_all (λ u. is_lt (term_cmp t u)) ts && terms_rise ts

-- a literal of the list mentions the term
abbrev pub Mentions : List Lit → Term → Type 0
Mentions lits t = (l : Lit) × Contains lits l × Contains (terms_of l) t
