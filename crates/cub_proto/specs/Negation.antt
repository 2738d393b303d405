-- The negation of a literal, which is one literal.
use Rattle.std.specs.Prelude.{◌-◌, ◌^◌, ◌-ℤ◌, pos}
use Rattle.cub_proto.specs.declared.literal.Lit.{Lit}
use Rattle.cub_proto.specs.declared.literal.Lit.TheVariants.{FinIn, FinEq, FinNe, ProcEq, ProcNe, Diff}
use Rattle.cub_proto.specs.Signature.{Signature, constructors_at}

-- the mask takes the constructors of the term's sort that it lacks; `a - b <= c` becomes `b - a <= -c - 1`
abbrev pub negated : Signature → Lit → Lit
negated sig (FinIn t mask) = FinIn t (2 ^ constructors_at sig t - 1 - mask)
negated sig (FinEq a b) = FinNe a b
negated sig (FinNe a b) = FinEq a b
negated sig (ProcEq a b) = ProcNe a b
negated sig (ProcNe a b) = ProcEq a b
negated sig (Diff a b bound) = Diff b a ((pos 0 -ℤ bound) -ℤ pos 1)
