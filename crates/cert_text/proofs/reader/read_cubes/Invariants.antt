use Rattle.std.proofs.Common.{length}
use Rattle.cert_text.proofs.Looping.{IsReadCubes}
use Rattle.cert_text.proofs.reader.read_cubes.Given as goal

abbrev pub invariant-loop-wanted : goal.invariant-loop-wanted
invariant-loop-wanted l = IsReadCubes l.protocol l.wanted l.cubes l.at l.rest l.text

abbrev pub decreases-loop-wanted : goal.decreases-loop-wanted
decreases-loop-wanted l = length l.rest
