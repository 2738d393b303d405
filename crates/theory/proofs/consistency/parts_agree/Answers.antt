use Rattle.std.proofs.Common.{◌≡◌, ◌∙◌, sym, refl, ◌++◌, List, Bool, true, false}
use Rattle.std.proofs.lemmas.Bool.{false≢true}
use Rattle.cub_proto.specs.declared.literal.Lit.{Lit}
use Rattle.cub_proto.specs.StateOf.{signature_of}
use Rattle.theory_laws.specs.Fitting.{AreFitting}
use Rattle.theory_laws.proofs.Parts.{all_proc, all_small}
use Rattle.theory_laws.proofs.Meeting.{consistent_parts}
use Rattle.theory.proofs.Parting.{both_fitting, fin_here, diff_here, finite_refuted, processes_refuted, integers_exact, refuted}
use Rattle.theory.proofs.consistency.parts_agree.Goals as goal

pub finite_part-requires-clause-fit : goal.finite_part-requires-clause-fit
finite_part-requires-clause-fit c = fin_here c.args.protocol.now c.args.width c.args.lits.now c.args.masks.now c.requires.size c.requires.fitting

pub finite_part-requires-clause-more_fit : goal.finite_part-requires-clause-more_fit
finite_part-requires-clause-more_fit c = fin_here c.args.protocol.now c.args.width c.args.more.now c.args.masks.now c.requires.size c.requires.more_fitting

pub returns-then-not-finite_part-clause-exact : goal.returns-then-not-finite_part-clause-exact
returns-then-not-finite_part-clause-exact c =
    let whole : AreFitting c.args.protocol.now c.args.width (c.args.lits.now ++ c.args.more.now) = both_fitting c.args.protocol.now c.args.width c.args.lits.now c.args.more.now c.requires.fitting c.requires.more_fitting in
    ((λ h. absurd (false≢true h)), (λ has. absurd (finite_refuted c.args.protocol.now c.args.width (c.args.lits.now ++ c.args.more.now) whole (refuted c.finite_part.result _ c.if-not-finite_part.true c.finite_part.ensures.exact) has)))

pub process_part-requires-clause-fit : goal.process_part-requires-clause-fit
process_part-requires-clause-fit c = all_proc c.args.protocol.now c.args.width c.args.lits.now c.requires.fitting

pub process_part-requires-clause-more_fit : goal.process_part-requires-clause-more_fit
process_part-requires-clause-more_fit c = all_proc c.args.protocol.now c.args.width c.args.more.now c.requires.more_fitting

pub returns-then-not-process_part-clause-exact : goal.returns-then-not-process_part-clause-exact
returns-then-not-process_part-clause-exact c =
    let whole : AreFitting c.args.protocol.now c.args.width (c.args.lits.now ++ c.args.more.now) = both_fitting c.args.protocol.now c.args.width c.args.lits.now c.args.more.now c.requires.fitting c.requires.more_fitting in
    ((λ h. absurd (false≢true h)), (λ has. absurd (processes_refuted c.args.protocol.now c.args.width (c.args.lits.now ++ c.args.more.now) whole (refuted c.process_part.result _ c.if-not-process_part.true c.process_part.ensures.exact) has)))

pub integer_part-requires-clause-terms : goal.integer_part-requires-clause-terms
integer_part-requires-clause-terms c =
    let whole : AreFitting c.args.protocol.now c.args.width (c.args.lits.now ++ c.args.more.now) = both_fitting c.args.protocol.now c.args.width c.args.lits.now c.args.more.now c.requires.fitting c.requires.more_fitting in
    diff_here c.args.protocol.now c.args.width (c.args.lits.now ++ c.args.more.now) c.args.integers.now.room c.requires.room whole

pub integer_part-requires-clause-bounds : goal.integer_part-requires-clause-bounds
integer_part-requires-clause-bounds c =
    let whole : AreFitting c.args.protocol.now c.args.width (c.args.lits.now ++ c.args.more.now) = both_fitting c.args.protocol.now c.args.width c.args.lits.now c.args.more.now c.requires.fitting c.requires.more_fitting in
    all_small c.args.protocol.now c.args.width (c.args.lits.now ++ c.args.more.now) whole

pub returns-clause-exact : goal.returns-clause-exact
returns-clause-exact c =
    let whole : AreFitting c.args.protocol.now c.args.width (c.args.lits.now ++ c.args.more.now) = both_fitting c.args.protocol.now c.args.width c.args.lits.now c.args.more.now c.requires.fitting c.requires.more_fitting in
    integers_exact c.args.protocol.now c.args.width (c.args.lits.now ++ c.args.more.now) whole c.integer_part.result (c.finite_part.ensures.exact.0 c.if-not-finite_part.false) (c.process_part.ensures.exact.0 c.if-not-process_part.false) c.integer_part.ensures.exact
