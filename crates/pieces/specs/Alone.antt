-- Literals whose truth shows by their places and numbers alone, whatever the state is.
use Rattle.std.specs.Prelude.{ℤ, Bool, true, false, not, ◌==◌, pos, int_le, List}
use Rattle.std.specs.List.{list_all, list_any}
use Rattle.cub_proto.specs.declared.literal.PSide.{PSide}
use Rattle.cub_proto.specs.declared.literal.ISide.{ISide}
use Rattle.cub_proto.specs.declared.literal.ISide.TheVariants.{Zero, At}
use Rattle.cub_proto.specs.declared.literal.Lit.{Lit}
use Rattle.cub_proto.specs.declared.literal.Lit.TheVariants.{FinIn, FinEq, FinNe, ProcEq, ProcNe, Diff}
use Rattle.cub_cube.specs.Normal.{are_two_places}

-- both sides are one place
abbrev pub are_one_place : PSide → PSide → Bool
are_one_place (PSide.Global g) b = false
are_one_place (PSide.Place p) (PSide.Global h) = false
are_one_place (PSide.Place p) (PSide.Place q) = p == q

-- both sides are zero, and the bound is below it
abbrev pub is_below_zero : ISide → ISide → ℤ → Bool
is_below_zero Zero Zero bound = not (int_le (pos 0) bound)
is_below_zero Zero (At u) bound = false
is_below_zero (At t) b bound = false

-- no state meets the literal: a mask of nothing, two places that are one process, a place that is not itself, 0 - 0 below zero
abbrev pub is_false_alone : Lit → Bool
is_false_alone (FinIn t mask) = mask == 0
is_false_alone (FinEq a b) = false
is_false_alone (FinNe a b) = false
is_false_alone (ProcEq a b) = are_two_places a b
is_false_alone (ProcNe a b) = are_one_place a b
is_false_alone (Diff a b bound) = is_below_zero a b bound

-- both sides are places
abbrev pub are_places : PSide → PSide → Bool
are_places (PSide.Global g) b = false
are_places (PSide.Place p) (PSide.Global h) = false
are_places (PSide.Place p) (PSide.Place q) = true

-- the literal speaks of places alone: it is true alone or false alone
abbrev pub compares_places : Lit → Bool
compares_places (FinIn t mask) = false
compares_places (FinEq a b) = false
compares_places (FinNe a b) = false
compares_places (ProcEq a b) = are_places a b
compares_places (ProcNe a b) = are_places a b
compares_places (Diff a b bound) = false

-- none of the literals is false alone
abbrev pub may_be_met : List Lit → Bool
may_be_met lits = list_all (λ l. not (is_false_alone l)) lits

-- one of the literals speaks of more than places
abbrev pub says_more : List Lit → Bool
says_more lits = list_any (λ l. not (compares_places l)) lits
