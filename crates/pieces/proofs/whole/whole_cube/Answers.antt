use Rattle.std.proofs.Common.{List, [], sym, ap, ◌∙◌, subst}
use Rattle.cub_proto.specs.declared.literal.Lit.{Lit}
use Rattle.cub_proto.specs.StateOf.{signature_of}
use Rattle.theory_laws.specs.Fitting.{AreFitting}
use Rattle.pieces.specs.Jobs.{Search, Stands, IsWhole, whole_lits}
use Rattle.pieces.proofs.Leaves.{whole_is}
use Rattle.pieces.proofs.Raw.{raw_fitting, some_cube, no_cube}
use Rattle.pieces.proofs.whole.whole_cube.Goals as goal

pub cube_by-requires-clause-whole : goal.cube_by-requires-clause-whole
cube_by-requires-clause-whole c =
    let stands = subst (λ (j : Search). Stands j [] c.args.work.now) (sym c.job.view_is) c.requires.stands in
    subst (λ (ls : List Lit). IsWhole c.job.inside.protocol.now c.job.inside.transition.now c.job.inside.terms.now ls c.args.work.now) (sym c.as_slice.ensures) (whole_is _ c.args.work.now stands)

pub cube_by-requires-clause-fitting : goal.cube_by-requires-clause-fitting
cube_by-requires-clause-fitting c =
    let stands = subst (λ (j : Search). Stands j [] c.args.work.now) (sym c.job.view_is) c.requires.stands in
    subst (λ (ls : List Lit). AreFitting c.job.inside.protocol.now c.args.work.now.width (whole_lits (signature_of c.job.inside.protocol.now) c.job.inside.transition.now ls c.args.work.now)) (sym c.as_slice.ensures) (raw_fitting _ c.args.work.now stands)

pub returns-clause-some : goal.returns-clause-some
returns-clause-some c =
    let d = c.args.work.now in
    some_cube c.args.job.now d c.requires.stands c.job.inside.protocol.now c.job.inside.transition.now c.as_slice.result.now
    (ap (λ j. j.protocol) c.job.view_is) (ap (λ j. j.transition) c.job.view_is) (c.as_slice.ensures ∙ ap (λ j. j.cube.lits) c.job.view_is) c.cube_by.result c.cube_by.ensures.some

pub returns-clause-none : goal.returns-clause-none
returns-clause-none c =
    let d = c.args.work.now in
    no_cube c.args.job.now d c.requires.stands c.job.inside.protocol.now c.job.inside.transition.now c.as_slice.result.now
    (ap (λ j. j.protocol) c.job.view_is) (ap (λ j. j.transition) c.job.view_is) (c.as_slice.ensures ∙ ap (λ j. j.cube.lits) c.job.view_is) c.cube_by.result c.cube_by.ensures.none
