-- The protocols whose every literal can be written. The type of protocols allows a few literals beyond those of texts: a mask
-- of all constructors of a sort that has several, and one bound too great for its constants.
use Rattle.std.specs.Prelude.{◌==◌, Bool, true, not, ◌&&◌, ◌||◌, List, nat_lt, count_ones, pos, int_lt}
use Rattle.std.specs.Int.{w64, trailing_ones}
use Rattle.std.specs.List.{list_all}
use Rattle.cub_proto.specs.declared.literal.Lit.{Lit}
use Rattle.cub_proto.specs.declared.literal.Lit.TheVariants.{FinIn, FinEq, FinNe, ProcEq, ProcNe, Diff}
use Rattle.cub_proto.specs.declared.transition.Update.{Update}
use Rattle.cub_proto.specs.declared.transition.Transition.{Transition}
use Rattle.cub_proto.specs.declared.protocol.Protocol.{Protocol}
use Rattle.cub_proto.specs.Signature.{constructors_at}
use Rattle.cub_proto.specs.StateOf.{signature_of}

-- a mask has one constructor or lacks one; a bound is at most what two constants make
abbrev pub is_writable_literal : Protocol → Lit → Bool
is_writable_literal p (FinIn t mask) = count_ones mask == 1 || nat_lt (trailing_ones w64 mask) (constructors_at (signature_of p) t)
is_writable_literal p (FinEq a b) = true
is_writable_literal p (FinNe a b) = true
is_writable_literal p (ProcEq a b) = true
is_writable_literal p (ProcNe a b) = true
is_writable_literal p (Diff a b bound) = not (int_lt (pos 2000000000) bound)

abbrev pub is_writable_conjunction : Protocol → List Lit → Bool
is_writable_conjunction p lits = list_all (is_writable_literal p) lits

abbrev pub is_writable_formula : Protocol → List (List Lit) → Bool
is_writable_formula p conjs = list_all (is_writable_conjunction p) conjs

abbrev pub is_writable_update : Protocol → Update → Bool
is_writable_update p u = list_all (λ b. is_writable_conjunction p b.cond) u.branches

abbrev pub is_writable_transition : Protocol → Transition → Bool
is_writable_transition p t = is_writable_formula p t.guard && is_writable_formula p t.others && list_all (is_writable_update p) t.updates

-- each literal of the protocol can be written
abbrev pub is_writable : Protocol → Bool
is_writable p =
    is_writable_formula p p.start && list_all (λ g. is_writable_conjunction p g.lits) p.goals
    && list_all (is_writable_transition p) p.transitions
