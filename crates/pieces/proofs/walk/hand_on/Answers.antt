use Rattle.std.proofs.Common.{◌≡◌, ◌≤◌, length, refl, sym, ap, subst}
use Rattle.std.specs.Prelude.{IfSome, IfNone}
use Rattle.cub_proto.specs.StateOf.{signature_of}
use Rattle.cub_cube.specs.Meaning.{IsConsistent}
use Rattle.piece_steps.specs.Steps.{Draft}
use Rattle.pieces.specs.Jobs.{cube_of}
use Rattle.pieces.proofs.Leaves.{whole_few}
use Rattle.pieces.proofs.Walking.{hands_taken, hands_none}
use Rattle.pieces.proofs.walk.hand_on.Goals as goal

pub take-requires : goal.take-requires
take-requires g c = record { few = subst (λ (d : Draft). length d.others ≤ 12) (sym c.in_ok-cube.ensures.same) (whole_few c.args.job.now c.args.work.now c.requires.stands) }

pub returns-in-Some-clause-handed : goal.returns-in-Some-clause-handed
returns-in-Some-clause-handed g c =
    let j = c.args.job.now in
    let cube = c.in-Some.cube in
    let found = subst (λ o. IfSome o (λ x. (x ≡ cube_of (signature_of j.protocol) j.transition j.cube.lits c.args.work.now) × IsConsistent j.protocol x.width x.lits)) c.in-Some.is c.in_ok-cube.ensures.some in
    hands_taken g.R.Receiver.takes j c.args.work.now cube found.0 c.job.inside.number c.whole_cube.new.work c.args.receiver.now c.take.new.self (ap (λ x. x.number) c.job.view_is) c.in_ok-cube.ensures.same found.1 c.take.result c.take.ensures.taken

pub returns-in-None-clause-handed : goal.returns-in-None-clause-handed
returns-in-None-clause-handed g c =
    let j = c.args.job.now in
    let d = c.args.work.now in
    let none = subst (λ o. IfNone o (IsConsistent j.protocol d.width (cube_of (signature_of j.protocol) j.transition j.cube.lits d).lits → ⊥)) c.in-None.is c.in_ok-cube.ensures.none in
    hands_none g.R.Receiver.takes j d (cube_of (signature_of j.protocol) j.transition j.cube.lits d) refl c.args.receiver.now none
