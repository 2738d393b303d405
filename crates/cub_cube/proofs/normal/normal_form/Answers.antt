use Rattle.std.proofs.Common.{◌<◌, ◌∙◌, [], length, get_or, IsTrue, sym, ap, subst, arith}
use Rattle.std.proofs.lemmas.List.Sums.{fold_more}
use Rattle.cub_proto.specs.declared.literal.Term.TheVariants as Term
use Rattle.cub_proto.specs.declared.literal.Lit.{Lit}
use Rattle.cub_proto.specs.declared.literal.Lit.TheVariants.{FinIn}
use Rattle.cub_proto.specs.StateOf.{signature_of}
use Rattle.cub_cube.specs.Normal.{placed, subjects_rise}
use Rattle.cub_cube.proofs.Form.{rises_placed}
use Rattle.cub_cube.proofs.normal.normal_form.Goals as goal

pub loop-lit-preserved : goal.loop-lit-preserved
loop-lit-preserved c =
    let within : c.loop-lit.lit-index < length c.args.lits.now = omega arith in
    let lit : Lit = get_or c.args.lits.now c.loop-lit.lit-index (FinIn (Term.Global 0) 0) in
    record {
      so_far =
          c.in_ok-place.ensures ∙ ap (λ form. placed (signature_of c.args.protocol.now) form lit) c.loop-lit.invariant.so_far
          ∙ sym (fold_more (placed (signature_of c.args.protocol.now)) [] c.args.lits.now c.loop-lit.lit-index (FinIn (Term.Global 0) 0) within);
      rises = subst (λ xs. IsTrue (subjects_rise xs)) (sym c.in_ok-place.ensures) (rises_placed (signature_of c.args.protocol.now) c.loop-lit.form.items lit c.loop-lit.invariant.rises);
    }
