use Rattle.std.proofs.Common.{length}
use Rattle.cert_text.proofs.Looping.{IsReadCovers}
use Rattle.cert_text.proofs.reader.read_covers.Given as goal

abbrev pub invariant-loop-alloc : goal.invariant-loop-alloc
invariant-loop-alloc l = IsReadCovers l.protocol l.cubes l.lines l.at l.rest l.line l.text

abbrev pub decreases-loop-alloc : goal.decreases-loop-alloc
decreases-loop-alloc l = length l.rest
