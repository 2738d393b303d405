use Rattle.std.proofs.Common.{◌≡◌, ◌<◌, ◌∙◌, [], length, get_or, IsTrue, sym, ap, subst, arith}
use Rattle.std.specs.Prelude.{fold}
use Rattle.std.proofs.lemmas.List.{take_all}
use Rattle.std.proofs.lemmas.List.Sums.{fold_more}
use Rattle.std.proofs.lemmas.List.Folds.{fold-map}
use Rattle.cub_proto.specs.declared.literal.Term.TheVariants as Term
use Rattle.cub_proto.specs.declared.literal.Lit.{Lit}
use Rattle.cub_proto.specs.declared.literal.Lit.TheVariants.{FinIn}
use Rattle.cub_proto.specs.StateOf.{signature_of}
use Rattle.cub_cube.specs.Normal.{placed, subjects_rise}
use Rattle.cub_cube.specs.Rename.{renamed, is_within}
use Rattle.cub_cube.proofs.Form.{rises_placed, all_at}
use Rattle.cub_cube.proofs.normal.renamed_form.Goals as goal

pub renamed-requires : goal.renamed-requires
renamed-requires c =
    let within : c.loop-lit.lit-index < length c.args.lits.now = omega arith in
    all_at (is_within (length c.args.places.now)) c.args.lits.now c.loop-lit.lit-index (FinIn (Term.Global 0) 0) c.requires within

pub loop-lit-preserved : goal.loop-lit-preserved
loop-lit-preserved c =
    let within : c.loop-lit.lit-index < length c.args.lits.now = omega arith in
    let lit : Lit = get_or c.args.lits.now c.loop-lit.lit-index (FinIn (Term.Global 0) 0) in
    let is : c.place.new.form.items ≡ placed (signature_of c.args.protocol.now) c.loop-lit.form.items (renamed c.args.places.now lit) =
    c.in_ok-place.ensures ∙ ap (placed (signature_of c.args.protocol.now) c.loop-lit.form.items) c.renamed.ensures in
    record {
      so_far =
          is ∙ ap (λ form. placed (signature_of c.args.protocol.now) form (renamed c.args.places.now lit)) c.loop-lit.invariant.so_far
          ∙ sym (fold_more (λ form l. placed (signature_of c.args.protocol.now) form (renamed c.args.places.now l)) [] c.args.lits.now c.loop-lit.lit-index (FinIn (Term.Global 0) 0) within);
      rises = subst (λ xs. IsTrue (subjects_rise xs)) (sym is)
          (rises_placed (signature_of c.args.protocol.now) c.loop-lit.form.items (renamed c.args.places.now lit) c.loop-lit.invariant.rises);
    }

pub returns : goal.returns
returns c =
    c.from_vec.ensures ∙ c.loop-lit.invariant.so_far
    ∙ ap (fold (λ form l. placed (signature_of c.args.protocol.now) form (renamed c.args.places.now l)) []) (take_all c.loop-lit.lit-index c.args.lits.now (omega arith))
    ∙ sym (fold-map (placed (signature_of c.args.protocol.now)) (renamed c.args.places.now) [] c.args.lits.now)
