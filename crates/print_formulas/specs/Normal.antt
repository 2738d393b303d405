-- Protocols whose literals are those of normal forms of texts. The type of protocols allows any mask, equal sides in any order,
-- and differences without a term.
use Rattle.std.specs.Prelude.{◌-◌, ◌^◌, ◌==◌, Bool, true, false, not, ◌&&◌, if◌then◌else◌, List, count_ones}
use Rattle.std.specs.Int.{w64, trailing_zeros, trailing_ones}
use Rattle.std.specs.List.{list_all}
use Rattle.cub_proto.specs.declared.literal.ISide.{ISide}
use Rattle.cub_proto.specs.declared.literal.ISide.TheVariants.{Zero, At}
use Rattle.cub_proto.specs.declared.literal.Lit.{Lit}
use Rattle.cub_proto.specs.declared.literal.Lit.TheVariants.{FinIn, FinEq, FinNe, ProcEq, ProcNe, Diff}
use Rattle.cub_proto.specs.declared.protocol.Protocol.{Protocol}
use Rattle.cub_proto.specs.Order.{term_cmp, process_side_cmp}
use Rattle.cub_proto.specs.Signature.{constructors_at}
use Rattle.cub_proto.specs.StateOf.{signature_of}
use Rattle.cub_types.specs.Formulas.{is_greater}

abbrev pub is_zero : ISide → Bool
is_zero Zero = true
is_zero (At t) = false

-- a mask has one constructor or lacks one, equal sides stand in order, and a difference has a term
abbrev pub is_normal_literal : Protocol → Lit → Bool
is_normal_literal p (FinIn t mask) =
    if count_ones mask == 1
    then mask == 2 ^ trailing_zeros w64 mask
    else mask == 2 ^ constructors_at (signature_of p) t - 1 - 2 ^ trailing_ones w64 mask
is_normal_literal p (FinEq a b) = not (is_greater (term_cmp a b))
is_normal_literal p (FinNe a b) = not (is_greater (term_cmp a b))
is_normal_literal p (ProcEq a b) = not (is_greater (process_side_cmp a b))
is_normal_literal p (ProcNe a b) = not (is_greater (process_side_cmp a b))
is_normal_literal p (Diff a b bound) = not (is_zero a && is_zero b)

abbrev pub is_normal_conjunction : Protocol → List Lit → Bool
is_normal_conjunction p lits = list_all (is_normal_literal p) lits

abbrev pub is_normal_formula : Protocol → List (List Lit) → Bool
is_normal_formula p conjs = list_all (is_normal_conjunction p) conjs

-- the start formula and the goals have such literals alone
abbrev pub has_normal_bodies : Protocol → Bool
has_normal_bodies p = is_normal_formula p p.start && list_all (λ g. is_normal_conjunction p g.lits) p.goals
