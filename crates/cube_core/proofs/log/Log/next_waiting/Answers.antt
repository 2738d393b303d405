use Rattle.std.proofs.Common.{◌<◌, length, ap, arith}
use Rattle.cube_core.proofs.KeepLemmas.{few_nodes}
use Rattle.cube_core.proofs.log.Log.next_waiting.Goals as goal

pub overflow_cast-result : goal.overflow_cast-result
overflow_cast-result g c =
    let few = few_nodes g.M.PreImages.pieces _ c.self.invariant.legal in
    let same = ap length c.as_slice.ensures.value in
    let inside : c.in-Some.number < length c.as_slice.result.now = c.in-Some.ensures.0 in
    omega arith
