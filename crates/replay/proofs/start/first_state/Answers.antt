use Rattle.std.proofs.Common.{◌≡◌, sym, subst}
use Rattle.std.proofs.lemmas.Result.{IfOk-weaker}
use Rattle.cub_proto.specs.Configuration.{Configuration}
use Rattle.cub_proto.specs.StateOf.{first_state}
use Rattle.replay.specs.FitsStart.{FitsStart}
use Rattle.replay.proofs.Started.{first_fits}
use Rattle.replay.proofs.start.first_state.Goals as goal

pub returns-clause-fits : goal.returns-clause-fits
returns-clause-fits c =
    let p = c.args.protocol.now in
    let n = c.args.processes in
    IfOk-weaker c.new.result (λ (s : Configuration). s ≡ first_state p n) (FitsStart p)
    (λ s is. subst (FitsStart p) (sym is) (first_fits p n c.requires)) c.new.ensures
