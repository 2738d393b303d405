use Rattle.std.proofs.Common.{length, ◌-◌, ◌+◌, ◌≡◌, ◌≤◌, take}
use Rattle.io_edge.specs.Sink.{with_bytes}
use Rattle.io_edge.proofs.sink.put_all.Given as goal

-- the first `done` bytes were written, the count of faults did not fall, and with enough spare it did not rise
abbrev pub invariant-loop-done : goal.invariant-loop-done
invariant-loop-done g l = record {
  within : l.done ≤ length l.bytes;
  written : g.K.Sink.written l.out ≡ with_bytes (g.K.Sink.written l.fn.out) (take l.done l.bytes);
  faults : g.K.Sink.faults l.fn.out ≤ g.K.Sink.faults l.out;
  sure : length l.bytes ≤ g.K.Sink.spare l.fn.out → g.K.Sink.faults l.out ≡ g.K.Sink.faults l.fn.out;
  spare : g.K.Sink.spare l.fn.out ≤ g.K.Sink.spare l.out + l.done;
}

abbrev pub decreases-loop-done : goal.decreases-loop-done
decreases-loop-done g l = length l.bytes - l.done
