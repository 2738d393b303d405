use Rattle.std.proofs.Common.{◌≡◌, Bool, [], ◌∷◌, subst}
use Rattle.std.specs.Prelude.{Result, IfOk, if◌then◌else◌}
use Rattle.std.specs.declared.alloc.AllocError.{AllocError}
use Rattle.cub_proto.specs.StateOf.{signature_of}
use Rattle.pieces.specs.Options.{option_at}
use Rattle.pieces.specs.Jobs.{step_at}
use Rattle.pieces.proofs.Walking.{option_stands, back_by}
use Rattle.pieces.proofs.options.take_option.Goals as goal

pub returns-clause-stands : goal.returns-clause-stands
returns-clause-stands c found =
    let j = c.args.job.now in
    let d = c.args.work.now in
    let e = c.take_at.new.work in
    option_stands j d e c.args.at c.args.k c.requires.there c.requires.stands c.requires.inside
    (subst (λ (r : Result Bool AllocError). IfOk r (λ taken. option_at (signature_of j.protocol) j.transition j.cube.width (step_at j c.args.at) d c.args.k ≡ (if taken then e ∷ [] else []))) found c.take_at.ensures.option)

pub returns-clause-back : goal.returns-clause-back
returns-clause-back c =
    let j = c.args.job.now in
    back_by (signature_of j.protocol) j.transition j.cube.width (step_at j c.args.at) c.args.work.now c.take_at.new.work c.args.k c.take_at.result c.take_at.ensures.option c.take_at.ensures.same
