-- What a machine that stopped at an event says of the trace.
use Rattle.std.proofs.Common.{◌≡◌, ℕ, List, subst}
use Rattle.cub_proto.specs.declared.protocol.Protocol.{Protocol}
use Rattle.cub_proto.specs.declared.event.Event.{Event}
use Rattle.cub_proto.specs.Configuration.{Configuration}
use Rattle.cub_proto.specs.Legal.{IsStart}
use Rattle.replay.specs.declared.fault.Refused.{Refused}
use Rattle.replay.specs.Machine.{Replay, IsFirstRefused}
use Rattle.trace_judge.specs.Judge.{IsNoStep}

pub no_step : (p : Protocol) (s : Configuration) (events listed : List Event) (first last : Replay) (refused : Refused)
    → IsStart p s → first ≡ record { protocol = p; state = s; accepted = 0 } → listed ≡ events → IsFirstRefused first last listed refused → IsNoStep p s events refused
no_step p s events listed first last refused start is same stops = record {
  start = start;
  last = last;
  first = subst (λ m. IsFirstRefused m last events refused) is (subst (λ es. IsFirstRefused first last es refused) same stops);
}
