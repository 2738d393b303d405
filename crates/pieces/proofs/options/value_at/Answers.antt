use Rattle.std.proofs.Common.{◌≡◌, ◌<◌, Some, sym, ap, ◌∙◌, subst, arith}
use Rattle.cub_proto.specs.declared.literal.Sort.TheVariants as Sort
use Rattle.cub_proto.specs.Signature.{sort_of, constructors_of}
use Rattle.cub_proto.specs.StateOf.{signature_of}
use Rattle.pieces.specs.Options.{value_count}
use Rattle.pieces.proofs.UpdateFacts.{few_values}
use Rattle.pieces.proofs.options.value_at.Goals as goal

pub overflow_cast-result : goal.overflow_cast-result
overflow_cast-result c =
    let sig = signature_of c.args.protocol.now in
    let is : sort_of sig c.args.term ≡ Some (Sort.Fin c.in-Some-Fin.field-0-0) = ap (λ s. sort_of s c.args.term) (sym c.declared.ensures) ∙ sym c.sort_of.ensures ∙ c.in-Some-Fin.is ∙ ap Some c.in-Some-Fin.field-0-is in
    let below : c.args.k < constructors_of sig (Sort.Fin c.in-Some-Fin.field-0-0) = subst (λ o. c.args.k < value_count sig c.args.width c.args.term o) is c.requires.there in
    omega (arith, below, few_values c.args.protocol.now c.args.term c.in-Some-Fin.field-0-0 is)
