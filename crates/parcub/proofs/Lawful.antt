-- What a lawful trace keeps, so that it may be replayed.
use Rattle.std.proofs.lemmas.Bool.{and_parts}
use Rattle.cub_proto.specs.declared.event.Trace.{Trace}
use Rattle.cub_proto.specs.declared.protocol.Protocol.{Protocol}
use Rattle.cub_proto.specs.Configuration.{process_count}
use Rattle.replay.specs.FitsEvent.{fits_event}
use Rattle.trace_text.specs.Text.{has_any}
use Rattle.trace_text.specs.Lawful.{IsLawful, picks_are_lawful}
use Rattle.trace_judge.specs.Trace.{MayReplay}

pub may_replay : (p : Protocol) (t : Trace) → IsLawful p t → MayReplay p t.start t.events
may_replay p t lawful = record {
  starts = lawful.start;
  follows = record {
    few = lawful.few_events;
    fit = λ k d within. (and_parts (fits_event p (process_count t.start) _) (picks_are_lawful (has_any p) _) (lawful.events k d within)).0;
  };
}
