use Rattle.std.proofs.Common.{sym, ap, ◌∙◌, subst, length, arith, IsTrue}
use Rattle.std.specs.List.{list_all}
use Rattle.std.specs.Option.{option_copied}
use Rattle.cub_proto.specs.Fits.{literal_fits}
use Rattle.cub_proto.specs.StateOf.{signature_of}
use Rattle.updates.specs.Ways.{condition}
use Rattle.updates.specs.Chosen.{reading_places}
use Rattle.piece_steps.specs.Steps.{choice_at}
use Rattle.pieces.proofs.UpdateFacts.{few_fails, literals_fit}
use Rattle.pieces.proofs.options.take_fail.Goals as goal

pub overflow_cast-k : goal.overflow_cast-k
overflow_cast-k c = omega (arith, few_fails c.args.protocol.now c.args.transition.now c.args.work.now c.args.i c.requires.fit c.args.b, c.requires.inside)

pub take_fail-requires-clause-fits : goal.take_fail-requires-clause-fits
take_fail-requires-clause-fits c =
    let test = literal_fits (signature_of c.args.protocol.now) (length (reading_places c.args.work.now.params (choice_at c.args.work.now c.args.i).term)) in
    let same = c.condition-cond.ensures ∙ ap (λ bs. condition bs c.args.b) c.as_slice.ensures in
    subst (λ ls. IsTrue (list_all test ls)) (sym same)
    (literals_fit c.args.protocol.now c.args.transition.now c.args.work.now c.args.i c.requires.fit c.in-Some.update.now c.args.b (sym c.update_at.ensures ∙ ap option_copied c.in-Some.is))
