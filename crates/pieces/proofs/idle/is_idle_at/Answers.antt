use Rattle.std.proofs.Common.{◌<◌, length, drop, refl, sym, subst}
use Rattle.pieces.specs.Jobs.{Search, Stands}
use Rattle.pieces.proofs.Readiness.{ready_at}
use Rattle.pieces.proofs.idle.is_idle_at.Goals as goal

pub is_idle-requires : goal.is_idle-requires
is_idle-requires c =
    let below = subst (λ (j : Search). c.args.at < length j.steps) (sym c.job.view_is) c.requires.there in
    let stands = subst (λ (j : Search). Stands j (drop c.args.at j.steps) c.args.work.now) (sym c.job.view_is) c.requires.stands in
    ready_at _ c.job.inside.steps.now c.args.work.now c.args.at refl below stands
