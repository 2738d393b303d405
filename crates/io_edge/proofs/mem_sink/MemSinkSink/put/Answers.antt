use Rattle.std.proofs.Common.{ℕ, ◌-◌, ◌≤◌, length, arith, length-take}
use Rattle.io_edge.specs.MemorySink.{spare_of}
use Rattle.io_edge.proofs.Past.{spare_put, spare_stays}
use Rattle.io_edge.proofs.mem_sink.MemSinkSink.put.Goals as goal

pub returns-then-fails-clause-sure : goal.returns-then-fails-clause-sure
returns-then-fails-clause-sure c = λ (fits : length c.args.bytes.now ≤ spare_of c.args.self.now).
    absurd (spare_put c.self.inside.fails c.self.inside.calls (c.self.inside.room - length c.self.inside.bytes.items) (length c.args.bytes.now) c.requires
    (rw (c.is_among-fails.ensures, c.len.ensures, c.self.inside.bytes.ok.0) at c.then-fails.either)
    (rw (← c.self.view_is) at fits))

pub returns-clause-spare : goal.returns-clause-spare
returns-clause-spare c =
    let grown = rw c.unwrap.ensures at c.extend_from_slice.ensures.len in
    rw (← c.self.view_is)
    (spare_stays c.self.inside.fails c.self.inside.calls c.saturating_add-self-inside.result
    (c.self.inside.room - length c.self.inside.bytes.items) (c.self.inside.room - length c.extend_from_slice.new.self.items) c.min-count.result
    (omega arith)
    (omega (arith, grown, c.self.inside.bytes.ok.0, c.extend_from_slice.new.self.ok.0, length-take {A = ℕ})))
