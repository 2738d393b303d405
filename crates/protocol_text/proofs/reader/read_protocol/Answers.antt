use Rattle.std.proofs.Common.{◌≤◌, length}
use Rattle.protocol_text.proofs.Within.{fault_within}
use Rattle.protocol_text.proofs.reader.read_protocol.Goals as goal

pub fault_at-requires-clause-within : goal.fault_at-requires-clause-within
fault_at-requires-clause-within c =
    let reads = rw c.in-Err-Fault.field-0-is at c.in-Err-Fault.ensures.fault in
    rw c.in-Err-Fault.field-0-is (fault_within reads)
