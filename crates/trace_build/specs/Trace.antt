-- The trace of a chain.
use Rattle.std.specs.Prelude.{◌≡◌, ◌≤◌, List}
use Rattle.cub_proto.specs.declared.event.Event.{Event}
use Rattle.cub_proto.specs.declared.event.Trace.{Trace}
use Rattle.cub_proto.specs.declared.protocol.Protocol.{Protocol}
use Rattle.cub_proto.specs.Configuration.{process_count}
use Rattle.theory_laws.specs.Small.{HasSmallIntegers}
use Rattle.trace_judge.specs.Judge.{IsAccepted}
use Rattle.trace_judge.specs.Trace.{MayReplay}
use Rattle.trace_laws.specs.declared.chain.Link.{Link}
use Rattle.trace_laws.specs.Blocked.{with_crashes}
use Rattle.trace_laws.specs.Along.{StepsAlong}
use Rattle.trace_build.specs.First.{IsChosenFirst, first_places}

-- The trace starts with the chosen start state of the first cube. Its events are the steps along the chain, and before each
-- the crashes of those at which its universal guard is then false. It ends at the unsafe conjunction of the last link, with
-- the processes at its places. The replay accepts it, which also settles its plain line.
pub record IsTraceOf (p : Protocol) (chain : List Link) (t : Trace) : Type 0 where
  pub starts : IsChosenFirst p chain t.start
  pub steps : List Event
  pub along : StepsAlong p t.start chain (first_places chain) steps t.goal t.places
  pub is : t.events ≡ with_crashes p t.start steps
  pub accepted : IsAccepted p t.start t.events t.goal t.places t.plain
  pub replayed : MayReplay p t.start t.events
  pub few : process_count t.start ≤ 75
  pub small : HasSmallIntegers t.start
