use Rattle.std.proofs.Common.{◌≡◌, ◌∙◌, sym}
use Rattle.cub_proto.specs.StateOf.{signature_of}
use Rattle.theory.proofs.Parting.{finite_none}
use Rattle.theory.proofs.consistency.finite_part.Goals as goal

pub finite_extends-requires-clause-solved : goal.finite_extends-requires-clause-solved
finite_extends-requires-clause-solved c = finite_none (signature_of c.args.protocol.now) c.args.lits.now (sym c.has_finite.ensures ∙ c.if-not-has_finite.true)
